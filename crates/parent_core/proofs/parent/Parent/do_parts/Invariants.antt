use Rattle.field_rules.specs.RuleBounds.{bounds_of}
use Rattle.protocol.specs.Outside.{changes_in}
use Rattle.parent_core.proofs.Folding.{Goes}
use Rattle.parent_core.proofs.parent.Parent.do_parts.Given as goal

abbrev pub invariant-loop-part : goal.invariant-loop-part
invariant-loop-part g l =
    Goes (bounds_of l.rules) l.p.0 (changes_in l.fn.parts) l.fn.self l.fn.parts l.core l.part-iterator.rest.items l.notes.items l.posts.items
