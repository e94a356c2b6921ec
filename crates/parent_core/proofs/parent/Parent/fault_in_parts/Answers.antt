use Rattle.std.proofs.Common.{List, ap, ◌∙◌}
use Rattle.parent_core.specs.Drafts.{fault_in, step_in}
use Rattle.parent_core.specs.Parent.{facts_of}
use Rattle.parent_core.specs.declared.drafts.Step.{Step}
use Rattle.parent_core.proofs.PartFaults.{fault_found, fault_passed, faults_end}
use Rattle.parent_core.proofs.parent.Parent.fault_in_parts.Goals as goal

pub returns-in-Some : goal.returns-in-Some
returns-in-Some c =
    let f = facts_of c.args.self.now in
    let p = c.args.p.0 in
    let a = c.part-item.result in
    fault_found f p c.loop-part.draft.items c.args.parts.now c.loop-part.part-index a c.part-item.is c.loop-part-test.true _ c.loop-part.invariant
    c.in-Some.cause (c.in-Some.ensures ∙ ap (λ (l : List Step). fault_in f p l a) c.as_slice.ensures.value)

pub loop-part-preserved : goal.loop-part-preserved
loop-part-preserved c =
    let f = facts_of c.args.self.now in
    let p = c.args.p.0 in
    let a = c.part-item.result in
    fault_passed f p c.loop-part.draft.items c.args.parts.now c.loop-part.part-index a c.part-item.is c.loop-part-test.true _ c.loop-part.invariant
    c.step_in-step.result c.note_step.new.draft.items
    (c.in-None.ensures ∙ ap (λ (l : List Step). fault_in f p l a) c.as_slice.ensures.value)
    (c.step_in-step.ensures ∙ ap (λ (l : List Step). step_in f p l a) c.as_slice-in-loop-part.ensures.value)
    c.in_ok-note_step.ensures

pub returns : goal.returns
returns c = faults_end (facts_of c.args.self.now) c.args.p.0 c.loop-part.draft.items c.args.parts.now c.loop-part.part-index _ c.loop-part-test.false c.loop-part.invariant
