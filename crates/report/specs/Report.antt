-- The report of a scenario: its lines, each a function of the journal so far.
use Rattle.std.specs.Prelude.{ℕ, ◌+◌, ◌-◌, if◌then◌else◌, List, [], ◌∷◌, ◌++◌, length, Option, Some, None}
use Rattle.std.specs.Prelude.{codes}
use Rattle.std.specs.Fmt.{decimal}
use Rattle.std.specs.List.{flat_map}
use Rattle.fission_ids.specs.declared.context.ContextId.{ContextId}
use Rattle.fission_ids.specs.Ids.{context_text}
use Rattle.field_table.specs.declared.field.Field.{Field}
use Rattle.field_table.specs.declared.value.Value.{Value}
use Rattle.field_table.specs.Field.{name}
use Rattle.field_rules.specs.Bounds.{Bounds, range, no_number}
use Rattle.wire_msgs.specs.declared.answer.Answer.{Answer}
use Rattle.wire_msgs.specs.declared.config.Config.{Config}
use Rattle.journal.specs.declared.entry.Step.{Step}
use Rattle.protocol.specs.Start.{numbers}
use Rattle.report_words.specs.Pieces.{text_of_pieces, process_text}
use Rattle.report_words.specs.Values.{value_text}
use Rattle.report_words.specs.Words.{step_text, answer_text}
use Rattle.scenario.specs.declared.line.Actor.{Actor}
use Rattle.scenario.specs.declared.line.Actor.TheVariants as actors
use Rattle.scenario.specs.declared.line.Show.{Show}
use Rattle.scenario.specs.declared.line.Show.TheVariants.{One, Side, All}
use Rattle.scenario.specs.declared.line.Line.{Line}
use Rattle.scenario.specs.declared.line.Line.TheVariants as lines
use Rattle.scenario.specs.declared.line.Scenario.{Scenario}
use Rattle.model.specs.Moments.{moments_of, facts_now, seen_now}
use Rattle.model.specs.View.{view, parent_view, is_honest}
use Rattle.model.specs.Next.{Run, run_at_start, run_after, moment_after}
use Rattle.model.specs.Settling.{settled}
use Rattle.report.specs.Views.{type_at, parent_view_text, process_view_text}

-- ---- the lines

-- the line that tells where JSON is no scenario
unfoldable pub place_text : ℕ → List ℕ
place_text place = text_of_pieces (codes "shape " ∷ decimal place ∷ codes "\n" ∷ [])

-- the first line: how many processes and tabs there are
unfoldable pub head_text : Config → List ℕ
head_text c =
    text_of_pieces (codes "fission processes " ∷ decimal (length c.types) ∷
    codes " tabs " ∷ decimal (length c.tabs) ∷ codes " actors 0\n" ∷ [])

-- a number, or `+`
abbrev pub mark_text : Option ℕ → List ℕ
mark_text (Some n) = decimal n
mark_text None = codes "+"

-- the line of a step, and what it came to
unfoldable pub entry_text : Option ℕ → Step → Answer → List ℕ
entry_text mark step answer =
    text_of_pieces (mark_text mark ∷ codes " " ∷ step_text step ∷ codes " " ∷ answer_text answer ∷
    codes "\n" ∷ [])

-- `parent`, or `p` and the number of a process
unfoldable pub actor_text : Actor → List ℕ
actor_text actors.Parent = codes "parent"
actor_text (actors.Process p) = process_text p

-- the n-th line: a field of a context, as one side shows it
unfoldable pub show_text : ℕ → Actor → ContextId → Field → Option Value → List ℕ
show_text n who x f value =
    text_of_pieces (decimal n ∷ codes " " ∷ actor_text who ∷ codes " show " ∷ context_text x ∷
    codes " " ∷ name f ∷ codes " " ∷ value_text f value ∷ codes "\n" ∷ [])

-- the n-th line: how many deliveries settling took
unfoldable pub settle_text : ℕ → ℕ → List ℕ
settle_text n count = text_of_pieces (decimal n ∷ codes " settle " ∷ decimal count ∷ codes "\n" ∷ [])

-- the last line: the number of entries
unfoldable pub end_text : ℕ → List ℕ
end_text n = text_of_pieces (codes "end " ∷ decimal n ∷ codes "\n" ∷ [])

-- ---- the whole

-- what a process shows of a field of a context: its view, if it is honest, else what it wrote or was given
-- last
abbrev pub process_shows : Run → ℕ → ContextId → Field → Option Value
process_shows r p x f =
    if is_honest r.config p r.journal then view r.config p x f r.journal
    else (seen_now r.config p (moments_of r.config r.journal)).value x f

-- what a side shows of it
abbrev pub value_shown : Run → Actor → ContextId → Field → Option Value
value_shown r actors.Parent x f = parent_view r.config x f r.journal
value_shown r (actors.Process p) x f = process_shows r p.0 x f

-- all that a side has
abbrev pub side_text : Run → Actor → List ℕ
side_text r actors.Parent = parent_view_text r.config (facts_now r.config (moments_of r.config r.journal))
side_text r (actors.Process p) =
    process_view_text (type_at r.config p.0) (seen_now r.config p.0 (moments_of r.config r.journal))

-- it, below the side's name
abbrev pub named_side_text : Run → Actor → List ℕ
named_side_text r who = text_of_pieces (actor_text who ∷ codes "\n" ∷ side_text r who ∷ [])

-- that of a process
abbrev pub process_side_text : Run → ℕ → List ℕ
process_side_text r p = named_side_text r (actors.Process (record { 0 = p }))

-- those of all processes, by rising number
abbrev pub process_sides_text : Run → List ℕ
process_sides_text r = flat_map (process_side_text r) (numbers 0 (length r.config.types))

-- the n-th line, and below it all that a side has
unfoldable pub show_side_text : ℕ → Run → Actor → List ℕ
show_side_text n r who =
    text_of_pieces (decimal n ∷ codes " " ∷ actor_text who ∷ codes " show\n" ∷ side_text r who ∷ [])

-- the n-th line, and below it all that each side has
unfoldable pub show_all_text : ℕ → Run → List ℕ
show_all_text n r =
    text_of_pieces (decimal n ∷ codes " show\n" ∷ named_side_text r actors.Parent ∷
    process_sides_text r ∷ [])

-- how many entries settling adds, by the bounds of the rule functions
abbrev pub deliveries : Bounds → Run → ℕ
deliveries b r = length (settled b r).journal - length r.journal

-- the run after a line
abbrev pub run_after_line : Bounds → Run → Line → Run
run_after_line b r (lines.Step step) = run_after b r step
run_after_line b r lines.Settle = settled b r
run_after_line b r (lines.Show show) = r

-- the lines of what is shown
abbrev pub shown_text : ℕ → Run → Show → List ℕ
shown_text n r (One who x f) = show_text n who x f (value_shown r who x f)
shown_text n r (Side who) = show_side_text n r who
shown_text n r All = show_all_text n r

-- the n-th line
abbrev pub line_text : Bounds → ℕ → Run → Line → List ℕ
line_text b n r (lines.Step step) =
    entry_text (Some n) step (moment_after b r.config r.journal step).answer
line_text b n r lines.Settle = settle_text n (deliveries b r)
line_text b n r (lines.Show show) = shown_text n r show

-- the lines from the n-th on
unfoldable pub body_text : Bounds → ℕ → Run → List Line → List ℕ
body_text b n r [] = []
body_text b n r (l ∷ ls) = line_text b n r l ++ body_text b (n + 1) (run_after_line b r l) ls

-- the run after all the lines
unfoldable pub run_at_end : Bounds → Run → List Line → Run
run_at_end b r [] = r
run_at_end b r (l ∷ ls) = run_at_end b (run_after_line b r l) ls

-- the lines from the first on, and the end
abbrev pub played_text : Bounds → Run → List Line → List ℕ
played_text b r ls = body_text b 1 r ls ++ end_text (length (run_at_end b r ls).journal)

-- the report of a scenario
abbrev pub text : Bounds → Scenario → List ℕ
text b s = head_text s.config ++ played_text b (run_at_start s.config) s.lines

-- the bounds that the programs play by
abbrev pub player_bounds : Bounds
player_bounds = record { full = range 50 300; text = no_number }
