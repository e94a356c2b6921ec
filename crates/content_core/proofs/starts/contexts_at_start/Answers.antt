use Rattle.std.proofs.Common.{◌+◌, refl, ap, subst, List, arith}
use Rattle.std.proofs.lemmas.List.{take_all}
use Rattle.wire_msgs.specs.declared.config.StartTab.{StartTab}
use Rattle.content_core.specs.Held.{AreAtStart}
use Rattle.content_core.proofs.Doings.{not_stored}
use Rattle.content_core.proofs.Tabs.{at_none, at_step, next_fresh}
use Rattle.content_core.proofs.starts.contexts_at_start.Goals as goal

pub loop-tab-init : goal.loop-tab-init
loop-tab-init c = record {
  serial = refl;
  held = at_none c.args.p.0 c.new-contexts.result c.requires.process c.new-contexts.ensures.tree c.new-contexts.ensures.store c.new-contexts.ensures.holds;
}

pub add_tab-requires-clause-absent : goal.add_tab-requires-clause-absent
add_tab-requires-clause-absent c =
    not_stored c.args.p.0 0 c.loop-tab.contexts (record { creator = 0; serial = c.loop-tab.serial + 1 }) c.loop-tab.invariant.held.whole
    (next_fresh c.args.tabs.now c.loop-tab.tab-index (c.loop-tab.serial + 1) c.args.p.0 c.loop-tab.contexts c.loop-tab-test.true (ap (λ n. n + 1) c.loop-tab.invariant.serial) c.loop-tab.invariant.held)

pub add_tab-requires-clause-new : goal.add_tab-requires-clause-new
add_tab-requires-clause-new c =
    next_fresh c.args.tabs.now c.loop-tab.tab-index (c.loop-tab.serial + 1) c.args.p.0 c.loop-tab.contexts c.loop-tab-test.true (ap (λ n. n + 1) c.loop-tab.invariant.serial) c.loop-tab.invariant.held

pub loop-tab-preserved : goal.loop-tab-preserved
loop-tab-preserved c = record {
  serial = ap (λ n. n + 1) c.loop-tab.invariant.serial;
  held = at_step c.args.tabs.now c.loop-tab.tab-index (c.loop-tab.serial + 1) c.args.p.0 (record { owner = record { 0 = 0 }; also = record { 0 = 0 } }) c.loop-tab.contexts _ c.loop-tab-test.true (ap (λ n. n + 1) c.loop-tab.invariant.serial) c.loop-tab.invariant.held c.in_ok-add_tab.ensures;
}

pub returns : goal.returns
returns c = subst (λ (ts : List StartTab). AreAtStart ts c.args.p.0 c.loop-tab.contexts) (take_all c.loop-tab.tab-index c.args.tabs.now (omega arith)) c.loop-tab.invariant.held
