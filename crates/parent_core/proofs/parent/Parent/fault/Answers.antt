use Rattle.std.proofs.Common.{◌≡◌, Bool, [], Option, sym, ap, ◌∙◌}
use Rattle.field_table.specs.declared.field.Field.{Field}
use Rattle.wire_msgs.specs.declared.cause.EndCause.{EndCause}
use Rattle.protocol.specs.Bundle.{envelope_fault}
use Rattle.protocol.specs.FactsAfter.{facts_after}
use Rattle.protocol.specs.Fold.{first_fault, or_later}
use Rattle.protocol.specs.Hear.{hear_rules}
use Rattle.parent_core.specs.Drafts.{counted, first_fault_in}
use Rattle.parent_core.specs.Parent.{facts_of}
use Rattle.parent_core.proofs.Steps.{ok_map}
use Rattle.parent_core.proofs.PartFaults.{bundle_same}
use Rattle.parent_core.proofs.parent.Parent.fault.Goals as goal

pub returns-in-None : goal.returns-in-None
returns-in-None c =
    let f = facts_of c.args.self.now in
    let p = c.args.p.0 in
    let b = c.args.bundle.now in
    ok_map
    (λ (o : Option EndCause). o ≡ first_fault_in f p [] c.as_slice.result.now)
    (λ (o : Option EndCause). (allows : Field → Bool) → o ≡ or_later (envelope_fault f p b) (first_fault (hear_rules allows p p) (λ g. g) facts_after 1 (counted p b f) b.parts))
    c.fault_in_parts.result
    (λ o h allows. h ∙ ap (first_fault_in f p []) c.as_slice.ensures ∙ sym (bundle_same allows f p b c.stands_soundly.ensures)
    ∙ ap (λ (e : Option EndCause). or_later e (first_fault (hear_rules allows p p) (λ g. g) facts_after 1 (counted p b f) b.parts)) c.in-None.ensures)
    c.fault_in_parts.ensures
