use Rattle.std.proofs.Common.{◌≡◌, subst, get_or}
use Rattle.queries.specs.Table.{AreNumbered}
use Rattle.queries.proofs.Rows.{state_here}
use Rattle.queries.proofs.table.QueryTable.state.Goals as goal

pub returns : goal.returns
returns c =
    let numbered : AreNumbered c.args.self.now.creator 1 c.args.self.now.rows =
    subst (λ t. AreNumbered t.creator 1 t.rows) c.self.view_is c.self.invariant in
    let d = c.index-2.result.now in
    state_here c.args.self.now numbered c.args.q c.in_ok-index.index c.in_ok-index.ensures d
    (subst (λ t. d ≡ get_or t.rows c.in_ok-index.index d) c.self.view_is c.index-2.ensures)
