use Rattle.std.proofs.Common.{◌≡◌, ◌∙◌, ap, sym, subst, set, get_or}
use Rattle.queries.specs.Row.{is_for}
use Rattle.queries.specs.Table.{AreNumbered, SettledStay}
use Rattle.queries.proofs.Rows.{numbered_settled, pending_here, settled_here, stay_settled, unasked_settled}
use Rattle.queries.proofs.table.QueryTable.settle.Goals as goal

pub returns-in_default-clause-table : goal.returns-in_default-clause-table
returns-in_default-clause-table c =
    (λ j. record { creator = c.args.self.now.creator; rows = sym (unasked_settled c.args.q c.args.o c.args.self.now.rows c.in_default.ensures) j })

pub invariant_of-self : goal.invariant_of-self
invariant_of-self c =
    let t = c.args.self.now in
    let numbered : AreNumbered t.creator 1 t.rows = subst (λ t. AreNumbered t.creator 1 t.rows) c.self.view_is c.self.invariant in
    let d = c.index_mut.result.now in
    let rows = settled_here t numbered c.args.q c.in-Some.index c.in-Some.ensures d
    (subst (λ t. d ≡ get_or t.rows c.in-Some.index d) c.self.view_is c.index_mut.ensures.value) c.args.o c.settle.new.self c.settle.ensures.row in
    let after : AreNumbered t.creator 1 (set t.rows c.in-Some.index c.settle.new.self) =
    subst (AreNumbered t.creator 1) (sym rows) (numbered_settled t.creator 1 t.rows numbered (is_for c.args.q) c.args.o) in
    subst (λ t. AreNumbered t.creator 1 (set t.rows c.in-Some.index c.settle.new.self)) (sym c.self.view_is) after

pub returns-clause-told : goal.returns-clause-told
returns-clause-told c =
    let t = c.args.self.now in
    let numbered : AreNumbered t.creator 1 t.rows = subst (λ t. AreNumbered t.creator 1 t.rows) c.self.view_is c.self.invariant in
    let d = c.index_mut.result.now in
    c.settle.ensures.told
    ∙ pending_here t numbered c.args.q c.in-Some.index c.in-Some.ensures d
    (subst (λ t. d ≡ get_or t.rows c.in-Some.index d) c.self.view_is c.index_mut.ensures.value)

pub returns-clause-table : goal.returns-clause-table
returns-clause-table c =
    let t = c.args.self.now in
    let numbered : AreNumbered t.creator 1 t.rows = subst (λ t. AreNumbered t.creator 1 t.rows) c.self.view_is c.self.invariant in
    let d = c.index_mut.result.now in
    let rows = settled_here t numbered c.args.q c.in-Some.index c.in-Some.ensures d
    (subst (λ t. d ≡ get_or t.rows c.in-Some.index d) c.self.view_is c.index_mut.ensures.value) c.args.o c.settle.new.self c.settle.ensures.row in
    ap (λ t. record { creator = t.creator; rows = set t.rows c.in-Some.index c.settle.new.self }) c.self.view_is
    ∙ (λ j. record { creator = t.creator; rows = rows j })

pub returns-clause-stay : goal.returns-clause-stay
returns-clause-stay c =
    let t = c.args.self.now in
    let numbered : AreNumbered t.creator 1 t.rows = subst (λ t. AreNumbered t.creator 1 t.rows) c.self.view_is c.self.invariant in
    let d = c.index_mut.result.now in
    let rows = settled_here t numbered c.args.q c.in-Some.index c.in-Some.ensures d
    (subst (λ t. d ≡ get_or t.rows c.in-Some.index d) c.self.view_is c.index_mut.ensures.value) c.args.o c.settle.new.self c.settle.ensures.row in
    subst (SettledStay t.rows) (sym (ap (λ t. set t.rows c.in-Some.index c.settle.new.self) c.self.view_is ∙ rows))
    (stay_settled (is_for c.args.q) c.args.o t.rows)
