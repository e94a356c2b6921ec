-- Text that is gathered before it is written, and the faults of the sink that it goes to.
use Rattle.std.specs.Prelude.{◌≡◌, ℕ, ◌≤◌, List, Result, Ok, Err, MatchResult}
use Rattle.std.specs.declared.option.Option.{Option}
use Rattle.edge.specs.Causes.{Rose}
use Rattle.edge.specs.Pieces.{BeginsTo, Begins}
use Rattle.report.specs.declared.fault.ReportFault.{ReportFault}
use Rattle.report.specs.declared.fault.ReportFault.TheVariants.{Failed, OutOfMemory}

-- of a text, at Ok all was written but a rest, and at Err a front
abbrev pub Passes : {T E : Type 0} → (text rest : List ℕ) → (old new : Option (List ℕ)) → Result T E → Type 0
Passes text rest old new result =
    MatchResult result (λ _. BeginsTo rest old new text) (λ _. Begins old new text)

-- the count of the sink's faults rose where the sink failed, and else stayed
abbrev pub CountsFault : {T : Type 0} → (before now : ℕ) → Result T ReportFault → Type 0
CountsFault before now (Ok done) = now ≡ before
CountsFault before now (Err Failed) = (before ≤ now) × Rose before now
CountsFault before now (Err OutOfMemory) = now ≡ before
