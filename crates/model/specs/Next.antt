-- What a step comes to after a journal, and so which journals there are.
use Rattle.std.specs.Prelude.{◌≡◌, Bool, false, List, [], ◌∷◌, ⊤}
use Rattle.field_table.specs.declared.field.Field.{Field}
use Rattle.field_rules.specs.Bounds.{Bounds}
use Rattle.wire_msgs.specs.declared.config.Config.{Config}
use Rattle.journal.specs.declared.entry.Entry.{Entry}
use Rattle.journal.specs.declared.entry.Step.{Step}
use Rattle.journal.specs.declared.entry.Step.TheVariants.{Hear}
use Rattle.protocol.specs.Outside.{allowed_of, told_allowed}
use Rattle.traces.specs.Links.{writes_waiting}
use Rattle.model.specs.Journal.{Journal}
use Rattle.model.specs.Moments.{Moment, Written, events_of, moment, moments_of}
use Rattle.model.specs.Moments.Written.{Own, Raw}

-- of which fields of the bundle that waits first the bounds allow the value
abbrev pub allowed_first : Bounds → List Written → Field → Bool
allowed_first b (Own u ∷ more) = allowed_of b u
allowed_first b (Raw u ∷ more) = allowed_of b u
allowed_first b others = λ fld. false

-- of which fields of the bundle that a step has the parent hear
abbrev pub allowed_by : Bounds → List Moment → Step → Field → Bool
allowed_by b ms (Hear p) = allowed_first b (writes_waiting (events_of p.0 ms))
allowed_by b ms s = λ fld. false

-- what a step comes to after a journal, by the bounds of the functions of the outside
abbrev pub moment_after : Bounds → Config → Journal → Step → Moment
moment_after b c j s = moment c (moments_of c j) (allowed_by b (moments_of c j) s) s

-- each entry has the answer of its step after the entries before it, by what its notes tell that was allowed
unfoldable pub Lawful : Config → Journal → Type 0
Lawful c [] = ⊤
Lawful c (e ∷ older) =
    (e.answer ≡ (moment c (moments_of c older) (told_allowed e.answer) e.step).answer) × Lawful c older

-- a configuration, and what was done under it
pub record Run : Type 0 where
  pub config : Config
  pub journal : Journal

-- nothing was done yet
abbrev pub run_at_start : Config → Run
run_at_start c = record { config = c; journal = [] }

-- one entry more
abbrev pub run_with : Run → Entry → Run
run_with r e = record { config = r.config; journal = e ∷ r.journal }

-- one step more was done, by the bounds of the functions of the outside
abbrev pub run_after : Bounds → Run → Step → Run
run_after b r s =
    run_with r (record { step = s; answer = (moment_after b r.config r.journal s).answer })
