use Rattle.std.proofs.Common.{◌≡◌, ◌++◌, ℕ, Option, Some, slice_get, sym, ap, ◌∙◌}
use Rattle.std.specs.Option.{option_copied}
use Rattle.edge.specs.Memory.{written_of}
use Rattle.field_rules.specs.Bounds.{Bounds}
use Rattle.field_rules.specs.RuleBounds.{bounds_of}
use Rattle.journal.specs.declared.entry.Entry.{Entry}
use Rattle.journal.specs.declared.entry.Step.{Step}
use Rattle.model.specs.Journal.{Journal}
use Rattle.model.specs.Next.{Run, moment_after, run_after}
use Rattle.report.specs.Report.{entry_text}
use Rattle.report.proofs.Gathered.{appended}
use Rattle.report.proofs.playing.play_step.Goals as goal

-- the entry that a step added, as one would write it
step_text : (b : Bounds) (r w : Run) (s copied : Step) (e : Entry) (n : Option ℕ) → copied ≡ s → w ≡ run_after b r copied → Some e ≡ slice_get w.journal 0
    → entry_text n e.step e.answer ≡ entry_text n s (moment_after b r.config r.journal s).answer
step_text b r w s copied e n same is newest =
    let now : Some e ≡ Some (record { step = copied; answer = (moment_after b r.config r.journal copied).answer }) =
    newest ∙ ap (λ (x : Run). slice_get x.journal 0) is in
    let it : e ≡ record { step = copied; answer = (moment_after b r.config r.journal copied).answer } = cc in
    ap (λ (x : Entry). entry_text n x.step x.answer) it
    ∙ ap (λ (x : Step). entry_text n x (moment_after b r.config r.journal x).answer) same

pub returns-clause-text : goal.returns-clause-text
returns-clause-text g c =
    appended c.entry.result (written_of c.args.pieces.now) (written_of c.entry.new.sink) (entry_text (Some c.args.number) c.unwrap.result.now.step c.unwrap.result.now.answer) c.in_ok-in_memory.ensures c.entry.ensures.bytes
    ∙ ap (λ l. written_of c.args.pieces.now ++ l)
    (step_text (bounds_of c.args.rules.now) c.args.world c.in_ok-world.world c.args.step.now c.in_ok-copy.field-0 c.unwrap.result.now (Some c.args.number) c.in_ok-copy.ensures c.in_ok-world.ensures.run
    (ap option_copied (sym c.unwrap.ensures) ∙ c.newest.ensures ∙ ap (λ (j : Journal). slice_get j 0) c.journal.ensures))
