-- The last read adds to the bytes so far, also where they are not kept.
use Rattle.std.proofs.Common.{◌≡◌, ◌+◌, ◌≤◌, length-take, arith}
use Rattle.edge.proofs.ReadPieces.{reads_then}
use Rattle.edge.proofs.input.read_all.Goals as goal

pub returns-in-Ok-clause-read : goal.returns-in-Ok-clause-read
returns-in-Ok-clause-read g c = reads_then _ _ _ _ _ _ (λ n. n ≡ c.args.limit + 1) c.pieces.invariant.so_far c.in-Ok.ensures.bytes.0 c.in-Ok.ensures.bound.1 (omega (arith, c.pieces.bytes.ok, c.in-Ok.ensures.bound.0, length-take c.min-most.result c.pieces.buffer))

pub returns-then-is_err-clause-read : goal.returns-then-is_err-clause-read
returns-then-is_err-clause-read g c = reads_then _ _ _ _ _ _ (λ n. n ≤ c.args.limit) c.pieces.invariant.so_far c.in-Ok-2.ensures.bytes.0 c.in-Ok-2.ensures.bound.1 (omega (arith, c.pieces.bytes.ok))

pub returns-in-Ok-clause-within : goal.returns-in-Ok-clause-within
returns-in-Ok-clause-within g c = reads_then _ _ _ _ _ _ (λ n. n ≤ c.args.limit + 1) c.pieces.invariant.so_far c.in-Ok.ensures.bytes.0 c.in-Ok.ensures.bound.1 (omega (arith, c.pieces.bytes.ok, c.in-Ok.ensures.bound.0, length-take c.min-most.result c.pieces.buffer))

pub returns-then-is_err-clause-within : goal.returns-then-is_err-clause-within
returns-then-is_err-clause-within g c = reads_then _ _ _ _ _ _ (λ n. n ≤ c.args.limit + 1) c.pieces.invariant.so_far c.in-Ok-2.ensures.bytes.0 c.in-Ok-2.ensures.bound.1 (omega (arith, c.pieces.bytes.ok))
