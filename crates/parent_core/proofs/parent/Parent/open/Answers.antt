use Rattle.std.proofs.Common.{◌≡◌, ◌+◌, ap, sym, ◌∙◌}
use Rattle.std.specs.Prelude.{is_none}
use Rattle.fission_ids.specs.declared.context.ContextId.{ContextId}
use Rattle.fission_ids.specs.declared.group.GroupId.{GroupId}
use Rattle.wire_msgs.specs.declared.action.ParentAction.TheVariants.{Tab}
use Rattle.protocol.specs.ParentActs.{refusal, context_of_tab, group_of_tab}
use Rattle.protocol.specs.Sayings.Saying.{Opened}
use Rattle.protocol.specs.FactsAfter.{facts_after}
use Rattle.parent_core.specs.Parent.{Kept, facts_of}
use Rattle.parent_core.specs.contracts.parent.Parent as parent
use Rattle.parent_core.proofs.Opened.{MayOpen, OpenedIn, facts_opened, groups_take, holds_opened, may_hang, may_open, not_stored, opened_in}
use Rattle.parent_core.proofs.parent.Parent.open.Goals as goal

pub attach-requires : goal.attach-requires
attach-requires c =
    let inside : Kept = parent.the_view c.self.inside in
    let is : c.context_of_tab-x.result ≡ context_of_tab (facts_of inside) = c.context_of_tab-x.ensures ∙ ap (λ (k : Kept). context_of_tab (facts_of k)) (sym c.self.view_is) in
    may_hang inside c.self.invariant c.context_of_tab-x.result (ap (λ (x : ContextId). x.creator) is) (ap (λ (x : ContextId). x.serial) is)

pub add_to-requires : goal.add_to-requires
add_to-requires c =
    let inside : Kept = parent.the_view c.self.inside in
    let is : c.context_of_tab-x.result ≡ context_of_tab (facts_of inside) = c.context_of_tab-x.ensures ∙ ap (λ (k : Kept). context_of_tab (facts_of k)) (sym c.self.view_is) in
    not_stored inside c.self.invariant c.context_of_tab-x.result (ap (λ (x : ContextId). x.creator) is) (ap (λ (x : ContextId). x.serial) is)

pub open_in-requires : goal.open_in-requires
open_in-requires c =
    let inside : Kept = parent.the_view c.self.inside in
    let is : c.context_of_tab-x.result ≡ context_of_tab (facts_of inside) = c.context_of_tab-x.ensures ∙ ap (λ (k : Kept). context_of_tab (facts_of k)) (sym c.self.view_is) in
    let may : MayOpen (facts_of inside) c.args.p.0 c.args.named =
    may_open (facts_of inside) c.args.p c.args.named (ap (λ (k : Kept). refusal (facts_of k) (Tab c.args.p c.args.named)) c.self.view_is ∙ c.requires.allowed) in
    groups_take inside c.self.invariant c.context_of_tab-x.result (ap (λ (x : ContextId). x.creator) is) (ap (λ (x : ContextId). x.serial) is) may.contexts c.args.named may.group

pub invariant_of-result : goal.invariant_of-result
invariant_of-result c =
    let inside : Kept = parent.the_view c.self.inside in
    let is : c.context_of_tab-x.result ≡ context_of_tab (facts_of inside) = c.context_of_tab-x.ensures ∙ ap (λ (k : Kept). context_of_tab (facts_of k)) (sym c.self.view_is) in
    let own : c.context_of_tab-x.result.creator ≡ 0 = ap (λ (x : ContextId). x.creator) is in
    let next : c.context_of_tab-x.result.serial ≡ inside.tabs + 1 = ap (λ (x : ContextId). x.serial) is in
    let may : MayOpen (facts_of inside) c.args.p.0 c.args.named =
    may_open (facts_of inside) c.args.p c.args.named (ap (λ (k : Kept). refusal (facts_of k) (Tab c.args.p c.args.named)) c.self.view_is ∙ c.requires.allowed) in
    let opened : OpenedIn (is_none c.args.named) c.in_ok-group.group inside.groups c.open_in.new.groups =
    opened_in c.args.named c.in_ok-group.group inside.groups c.open_in.new.groups
    (groups_take inside c.self.invariant c.context_of_tab-x.result own next may.contexts c.args.named may.group) c.in_ok-group.ensures.number c.in_ok-group.ensures.groups in
    holds_opened inside c.self.invariant c.context_of_tab-x.result own next c.args.p.0 c.in_ok-group.group c.note_origin.new.known.entries c.in_ok-note_origin.ensures
    c.attach.new.tree c.in_ok-attach.ensures.nodes c.add_to.new.contexts c.in_ok-add_to.ensures (is_none c.args.named) c.open_in.new.groups opened
    c.in_ok-attach.ensures.tree may.contexts c.in_ok-group.ensures.sound

pub returns-clause-facts : goal.returns-clause-facts
returns-clause-facts c =
    let inside : Kept = parent.the_view c.self.inside in
    let is : c.context_of_tab-x.result ≡ context_of_tab (facts_of inside) = c.context_of_tab-x.ensures ∙ ap (λ (k : Kept). context_of_tab (facts_of k)) (sym c.self.view_is) in
    let own : c.context_of_tab-x.result.creator ≡ 0 = ap (λ (x : ContextId). x.creator) is in
    let next : c.context_of_tab-x.result.serial ≡ inside.tabs + 1 = ap (λ (x : ContextId). x.serial) is in
    let may : MayOpen (facts_of inside) c.args.p.0 c.args.named =
    may_open (facts_of inside) c.args.p c.args.named (ap (λ (k : Kept). refusal (facts_of k) (Tab c.args.p c.args.named)) c.self.view_is ∙ c.requires.allowed) in
    let opened : OpenedIn (is_none c.args.named) c.in_ok-group.group inside.groups c.open_in.new.groups =
    opened_in c.args.named c.in_ok-group.group inside.groups c.open_in.new.groups
    (groups_take inside c.self.invariant c.context_of_tab-x.result own next may.contexts c.args.named may.group) c.in_ok-group.ensures.number c.in_ok-group.ensures.groups in
    facts_opened inside c.self.invariant c.context_of_tab-x.result own next c.args.p.0 c.in_ok-group.group c.note_origin.new.known.entries c.in_ok-note_origin.ensures
    c.attach.new.tree c.in_ok-attach.ensures.nodes c.add_to.new.contexts c.in_ok-add_to.ensures (is_none c.args.named) c.open_in.new.groups opened may.runs
    ∙ ap (λ (x : ContextId). facts_after (Opened x c.in_ok-group.group (is_none c.args.named) c.args.p.0) (facts_of inside)) is
    ∙ ap (λ (g : GroupId). facts_after (Opened (context_of_tab (facts_of inside)) g (is_none c.args.named) c.args.p.0) (facts_of inside)) c.in_ok-group.ensures.number
    ∙ ap (λ (k : Kept). facts_after (Opened (context_of_tab (facts_of k)) (group_of_tab (facts_of k) c.args.named) (is_none c.args.named) c.args.p.0) (facts_of k)) c.self.view_is
