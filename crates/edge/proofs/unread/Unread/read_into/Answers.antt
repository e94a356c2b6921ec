-- The buffer's front is now the front of what was left.
use Rattle.std.proofs.Common.{◌≡◌, ◌+◌, ◌≤◌, List, ℕ, ◌++◌, length, take, drop, sym, ap, ◌∙◌, arith, take-append-drop}
use Rattle.std.proofs.lemmas.List.{drop-drop, length-take-le}
use Rattle.std.proofs.Math.Seq.{take-append_seam}
use Rattle.edge.proofs.unread.Unread.read_into.Goals as goal

moved : (bytes buffer : List ℕ) (next n : ℕ) → n ≤ length (drop next bytes) → drop next bytes ≡ take n (take n (drop next bytes) ++ buffer) ++ drop (next + n) bytes
moved bytes buffer next n h =
    let front = take n (drop next bytes) in
    let same : take n (front ++ buffer) ≡ front = ap (λ k. take k (front ++ buffer)) (sym (length-take-le n (drop next bytes) h)) ∙ take-append_seam front buffer in
    sym (take-append-drop n (drop next bytes)) ∙ ap (λ l. front ++ l) (drop-drop n next bytes) ∙ ap (λ l. l ++ drop (next + n) bytes) (sym same)

pub returns-clause-moved : goal.returns-clause-moved
returns-clause-moved c =
    let within : c.min-count.result ≤ length c.split_at.result.1.now = omega (arith, c.min-count.ensures) in
    let there = rw (c.split_at.ensures.back, c.deref.ensures.value) at within in
    rw (← c.self.view_is, c.copy_from_slice.ensures.after, c.split_at-2.ensures.front, c.split_at.ensures.back, c.deref.ensures.value) (moved c.self.inside.bytes.items (drop c.min-count.result c.args.buf.now) c.self.inside.next c.min-count.result there)
