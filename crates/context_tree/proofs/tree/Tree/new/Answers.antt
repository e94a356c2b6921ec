use Rattle.std.proofs.Common.{[], ap}
use Rattle.std.specs.Map.{lookup}
use Rattle.fission_ids.specs.Ids.{same_context}
use Rattle.context_tree.specs.Tree.{IsTree}
use Rattle.context_tree.proofs.Distinct.{distinct_none}
use Rattle.context_tree.proofs.Kept.{keeps, seen}
use Rattle.context_tree.proofs.tree.Tree.new.Goals as goal

empty : IsTree []
empty = record { hangs = tt; distinct = distinct_none; rises = tt }

pub invariant_of-result : goal.invariant_of-result
invariant_of-result c = keeps [] c.new.result.items c.new-2.result.items c.new-3.result.entries (record {
  ids_tied = c.new.ensures.items;
  depths_tied = c.new-2.ensures.items;
  by_key = λ x. ap (lookup (same_context x)) c.new-3.ensures.empty;
  tree = empty;
})

pub returns : goal.returns
returns c = seen [] c.new.result.items c.new-2.result.items c.new.ensures.items c.new-2.ensures.items empty
