use Rattle.std.proofs.Common.{◌≡◌, [], drop}
use Rattle.parent_core.specs.Drafts.{first_fault_in}
use Rattle.parent_core.specs.Parent.{facts_of}
use Rattle.parent_core.proofs.parent.Parent.fault_in_parts.Given as goal

abbrev pub invariant-loop-part : goal.invariant-loop-part
invariant-loop-part l =
    first_fault_in (facts_of l.self) l.p.0 l.draft.items (drop l.part-index l.parts) ≡ first_fault_in (facts_of l.self) l.p.0 [] l.parts
