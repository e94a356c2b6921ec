use Rattle.std.proofs.Common.{ℕ, ◌+◌, ◌<◌, ◌%◌, true, [], length, Some, refl, sym, ap, ◌∙◌, subst, arith, zero-add}
use mathlib.Core.Option.{none}
use Rattle.atomic_table.specs.Table.{Allows, step}
use Rattle.duplex.specs.declared.lane.Goods.TheVariants.{Down}
use Rattle.duplex.specs.Lanes.{down, Duplex}
use Rattle.duplex.specs.Plays.{SawTaken, Sent, saw_taken, sent_one}
use Rattle.duplex.proofs.Keeps.{sees_down_taken, sends_down}
use Rattle.duplex.proofs.Calls.{Sat, exchanged, sent_down}
use Rattle.duplex.proofs.steps.send_down.Goals as goal

pub load-taken-requires : goal.load-taken-requires
load-taken-requires g c = let b = c.requires.board in let m = c.requires.seat in (
  c.requires.table,
  omega (arith, b.1.0),
  subst (λ (key : ℕ). Allows (Duplex g.U.Stamped.stamp_of key) c.args.board.now.table_id.slots c.args.seat.now.id c.args.seat.now.me 1 (λ n. n) (SawTaken down (step c.args.board.now.table_id.slots 1 0 0 none) c.args.seat.now.me)) (sym b.0)
      (sees_down_taken g.U.Stamped.stamp_of c.args.cap _ _ _ (step c.args.board.now.table_id.slots 1 0 0 none) b.1.1 b.1.1 m.3 m.0 m.1),
)

pub returns-then-is_full-clause-told : goal.returns-then-is_full-clause-told
returns-then-is_full-clause-told g c = let t = c.load-taken.ensures.2 in let u = t.1 c.args.cap c.requires.board.1.1 in
    (refl, (omega (arith, (c.is_full.ensures.full c.if-is_full.true), c.requires.seat.2, t.0, u.0), u.2 (omega (arith, (c.is_full.ensures.full c.if-is_full.true), c.requires.seat.2, t.0))))

pub store-requires : goal.store-requires
store-requires g c =
    let b = c.requires.board in let m = c.requires.seat in let l = c.load-taken.ensures in let x = c.exchange.ensures in
    let room = (l.2.1 c.args.cap b.1.1).1 (omega (arith, (c.is_full.ensures.room c.if-is_full.false), m.2, l.2.0)) in
    let s = exchanged _ _ (Some (Down c.args.item)) _ _ _ room x.3 in
    let counted = ap (λ k. length k.0.down_send.items) s ∙ m.2 in (
      x.0 ∙ l.0 ∙ c.requires.table,
      omega (arith, b.1.0),
      subst (λ (key : ℕ). Allows (Duplex g.U.Stamped.stamp_of key) c.args.board.now.table_id.slots c.exchange.new.seat.id c.exchange.new.seat.me 0 (λ _. c.args.sent + 1) (λ _. Sent down (step c.args.board.now.table_id.slots 0 (c.args.sent + 1) 0 none) c.exchange.new.seat.me (c.args.sent + 1))) (sym b.0)
          (sends_down g.U.Stamped.stamp_of c.args.cap _ _ _ (step c.args.board.now.table_id.slots 0 (c.args.sent + 1) 0 none) _ (c.args.sent + 1) c.args.item b.1.1 (ap (λ k. k.1) s) (ap (λ k. k.0.down_send.has) s ∙ m.0) (ap (λ k. k.0.down_send.busy) s)
          (sym (zero-add _) ∙ ap (λ (n : ℕ). 0 + n % c.args.cap) (sym counted)) (omega (arith, counted))),
    )

pub returns-clause-told : goal.returns-clause-told
returns-clause-told g c =
    let b = c.requires.board in let m = c.requires.seat in let l = c.load-taken.ensures in
    let less : length c.args.seat.now.me.0.down_send.items < c.load-taken.result + c.args.cap = omega (arith, (c.is_full.ensures.room c.if-is_full.false), m.2, l.2.0) in
    let room = (l.2.1 c.args.cap b.1.1).1 less in
    let s = exchanged _ _ (Some (Down c.args.item)) _ _ _ room c.exchange.ensures.3 in
    let told = sent_down c.args.seat.now.me c.exchange.new.seat.me c.store.new.seat.me _ c.load-taken.result c.args.item s c.store.ensures.2 in
    let last = ap (λ k. k.0.down_send.last) told in
    (subst (λ (n : ℕ). length c.args.seat.now.me.0.down_send.items < n + c.args.cap) (sym last) less, told ∙ ap (λ (n : ℕ). let put : Sat g.row.D.Denot g.row.U.Denot = (down.put_send (sent_one c.args.item (saw_taken true n c.args.seat.now.me.0.down_send)) c.args.seat.now.me.0, []) in put) (sym last))
