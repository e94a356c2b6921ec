use Rattle.std.proofs.Common.{◌∙◌, ap}
use Rattle.std.specs.Prelude.{slice_range, filter}
use Rattle.context_tree.proofs.Spans.{has_parent, children_of_run}
use Rattle.context_tree.proofs.tree.Tree.children_in.Goals as goal

pub returns : goal.returns
returns c =
    let start = c.args.run.start in
    let end = c.args.run.end in
    c.in_ok-children_among.ensures
    ∙ ap (λ l. filter (has_parent c.args.self.now c.args.parent) (slice_range l start end)) c.contexts.ensures
    ∙ children_of_run c.args.self.now c.stands_as_a_tree.ensures c.args.parent start end
