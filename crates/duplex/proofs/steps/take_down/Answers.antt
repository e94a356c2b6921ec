use Rattle.std.proofs.Common.{◌≡◌, ℕ, ◌+◌, ◌<◌, ◌%◌, [], length, Some, None, sym, ap, ◌∙◌, subst, arith, zero-add}
use mathlib.Core.Option.{none}
use Rattle.atomic_table.specs.Table.{Allows, step}
use Rattle.duplex.specs.declared.lane.Goods.TheVariants.{Down}
use Rattle.duplex.specs.Lanes.{down, place_of, Duplex}
use Rattle.duplex.specs.Plays.{SawSent, Took, saw_sent, found, took_one}
use Rattle.duplex.proofs.Keeps.{sees_down_sent, takes_down}
use Rattle.duplex.proofs.Calls.{Sat, exchanged, took_down, down_is, out_at, came_out}
use Rattle.duplex.proofs.steps.take_down.Goals as goal

pub load-sent-requires : goal.load-sent-requires
load-sent-requires g c = let b = c.requires.board in let m = c.requires.seat in (
  c.requires.table,
  omega (arith, b.1.0),
  subst (λ (key : ℕ). Allows (Duplex g.U.Stamped.stamp_of key) c.args.board.now.table_id.slots c.args.seat.now.id c.args.seat.now.me 0 (λ n. n) (SawSent down (λ _ _. Unit {0}) (step c.args.board.now.table_id.slots 0 0 0 none) c.args.seat.now.me)) (sym b.0)
      (sees_down_sent g.U.Stamped.stamp_of c.args.cap _ _ _ (step c.args.board.now.table_id.slots 0 0 0 none) b.1.1 b.1.1 m.3 m.0 m.1),
)

pub returns-then-sent-taken-clause-told : goal.returns-then-sent-taken-clause-told
returns-then-sent-taken-clause-told g c =
    let b = c.requires.board in let m = c.requires.seat in let l = c.load-sent.ensures in
    let same : c.load-sent.result ≡ length c.args.seat.now.me.0.down_take.items = omega (arith, c.if-sent-taken.true, m.2, l.2.0) in
    (l.2.1 c.args.cap b.1.1).1 (omega (arith, same)) ∙ ap (λ (n : ℕ). let put : Sat g.row.D.Denot g.row.U.Denot = (down.put_take (saw_sent n c.args.seat.now.me.0.down_take) c.args.seat.now.me.0, []) in put) same

pub exchange-requires : goal.exchange-requires
exchange-requires g c =
    let b = c.requires.board in let m = c.requires.seat in let l = c.load-sent.ensures in
    let got = (l.2.1 c.args.cap b.1.1).0 (omega (arith, c.if-sent-taken.false, m.2)) in
    let slot : (c.args.taken % c.args.cap) ≡ place_of (down {D = g.row.D.Denot} {U = g.row.U.Denot}) c.args.cap (length c.args.seat.now.me.0.down_take.items) = (sym (zero-add _) ∙ ap (λ (n : ℕ). 0 + n % c.args.cap) (sym m.2)) in
    (l.0 ∙ c.requires.table, (Some (Down got.0), out_at _ _ (Some (Down got.0)) c.load-sent.new.seat.me.1 slot (ap (λ k. k.1) got.1)))

pub down_of-item-requires : goal.down_of-item-requires
down_of-item-requires g c =
    let b = c.requires.board in let m = c.requires.seat in let l = c.load-sent.ensures in let x = c.exchange.ensures in
    let got = (l.2.1 c.args.cap b.1.1).0 (omega (arith, c.if-sent-taken.false, m.2)) in
    (got.0, came_out _ _ (Some (Down got.0)) c.exchange.result c.load-sent.new.seat.me.1 (ap (λ k. k.1) got.1) x.2)

pub store-requires : goal.store-requires
store-requires g c =
    let b = c.requires.board in let m = c.requires.seat in let l = c.load-sent.ensures in let x = c.exchange.ensures in
    let got = (l.2.1 c.args.cap b.1.1).0 (omega (arith, c.if-sent-taken.false, m.2)) in
    let s = exchanged _ _ None _ _ _ got.1 x.3 in
    let counted = ap (λ k. length k.0.down_take.items) s ∙ m.2 in (
      x.0 ∙ l.0 ∙ c.requires.table,
      omega (arith, b.1.0),
      subst (λ (key : ℕ). Allows (Duplex g.U.Stamped.stamp_of key) c.args.board.now.table_id.slots c.exchange.new.seat.id c.exchange.new.seat.me 1 (λ _. c.args.taken + 1) (λ _. Took down (step c.args.board.now.table_id.slots 1 (c.args.taken + 1) 0 none) c.exchange.new.seat.me (c.args.taken + 1))) (sym b.0)
          (takes_down g.U.Stamped.stamp_of c.args.cap _ _ _ (step c.args.board.now.table_id.slots 1 (c.args.taken + 1) 0 none) _ (c.args.taken + 1) b.1.1 (ap (λ k. k.1) s) (ap (λ k. k.0.down_take.has) s ∙ m.0) (ap (λ k. k.0.down_take.busy) s)
          (sym (zero-add _) ∙ ap (λ (n : ℕ). 0 + n % c.args.cap) (sym counted)) (omega (arith, counted))),
    )

pub returns-clause-told : goal.returns-clause-told
returns-clause-told g c =
    let b = c.requires.board in let m = c.requires.seat in let l = c.load-sent.ensures in let x = c.exchange.ensures in
    let more : length c.args.seat.now.me.0.down_take.items < c.load-sent.result = omega (arith, c.if-sent-taken.false, m.2) in
    let got = (l.2.1 c.args.cap b.1.1).0 more in
    let s = exchanged _ _ None _ _ _ got.1 x.3 in
    let is = down_is got.0 c.down_of-item.result _ _ c.load-sent.new.seat.me.1 c.exchange.result (ap (λ k. k.1) got.1) x.2 c.down_of-item.ensures in
    let told = took_down c.args.seat.now.me c.exchange.new.seat.me c.store.new.seat.me _ c.load-sent.result got.0 s c.store.ensures.2 in
    let last = ap (λ k. k.0.down_take.last) told in
    let put : ℕ → g.row.D.Denot → Sat g.row.D.Denot g.row.U.Denot = λ n y. (down.put_take (took_one y (found y n c.args.seat.now.me.0.down_take)) c.args.seat.now.me.0, []) in
    (subst (λ (n : ℕ). length c.args.seat.now.me.0.down_take.items < n) (sym last) more, told ∙ ap (λ (n : ℕ). put n got.0) (sym last) ∙ ap (put c.store.new.seat.me.0.down_take.last) is)
