use Rattle.std.proofs.Common.{◌∙◌, ap}
use Rattle.std.specs.Prelude.{slice_range}
use Rattle.context_tree.proofs.Spans.{range_of_map}
use Rattle.context_tree.proofs.tree.Tree.ids_in.Goals as goal

pub returns : goal.returns
returns c =
    c.in_ok-to_vec.ensures.items_if_clones_equal (λ x y same. same)
    ∙ ap (λ l. slice_range l c.args.run.start c.args.run.end) c.contexts.ensures
    ∙ range_of_map (λ n. n.context) c.args.self.now c.args.run.start c.args.run.end
