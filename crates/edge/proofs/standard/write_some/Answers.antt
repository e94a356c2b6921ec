-- At each fault the writer has a front of the piece, which may be empty.
use Rattle.std.proofs.Common.{ℕ, List, Option, Result, Ok, Err, IsErr}
use Rattle.std.proofs.KnownBytes.{Keeps-trans}
use Rattle.edge.specs.Pieces.{Begins}
use Rattle.edge.specs.Standard.{GoesOn}
use Rattle.edge.proofs.Pieces.{keeps_then, then_keeps, begins_kept, begins_taken}
use Rattle.edge.proofs.standard.write_some.Goals as goal

at_err : {E : Type 0} (result : Result ℕ E) (old new : Option (List ℕ)) (text : List ℕ) → IsErr result → Begins old new text → GoesOn old new result text
at_err (Ok n) old new text h p = cc
at_err (Err e) old new text h p = p

pub returns-in-Ok-eq0-clause-passed : goal.returns-in-Ok-eq0-clause-passed
returns-in-Ok-eq0-clause-passed g c = begins_taken _ _ _ c.in-Ok-eq0.field-0 (keeps_then _ _ _ _ c.loop.invariant c.in-Ok-eq0.ensures.bytes)

pub returns-in_err-flush-in-Ok-clause-passed : goal.returns-in_err-flush-in-Ok-clause-passed
returns-in_err-flush-in-Ok-clause-passed g c =
    at_err c.from_residual.result _ _ _ c.from_residual.ensures.0 (begins_taken _ _ _ c.in-Ok.count (then_keeps _ _ _ _ (keeps_then _ _ _ _ c.loop.invariant c.in-Ok.ensures.bytes) c.flush.ensures))

pub returns-then-ne-clause-passed : goal.returns-then-ne-clause-passed
returns-then-ne-clause-passed g c = begins_kept _ _ _ (Keeps-trans _ _ _ c.loop.invariant c.in-Err.ensures.bytes)

pub returns-clause-passed : goal.returns-clause-passed
returns-clause-passed g c = begins_kept _ _ _ c.loop.invariant
