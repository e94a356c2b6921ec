use Rattle.std.proofs.Common.{◌≡◌, length, ap, ◌∙◌, arith}
use Rattle.protocol.specs.Start.{some_if}
use Rattle.parent_core.proofs.Committed.{is_among, among_live}
use Rattle.parent_core.proofs.Tabs.{no_tabs, next_allowed, next_tab, first_contexts, top_node}
use Rattle.parent_core.proofs.starting.nodes_of.Goals as goal

pub loop-n-init : goal.loop-n-init
loop-n-init c = no_tabs c.new-tree.result c.new-tree.ensures c.stands_as_a_tree.ensures

pub attach-requires : goal.attach-requires
attach-requires c = next_allowed c.loop-n.n c.loop-n.tree c.loop-n.invariant

pub loop-n-preserved : goal.loop-n-preserved
loop-n-preserved c = next_tab c.loop-n.n c.loop-n.tree c.loop-n.invariant c.attach.new.tree c.in_ok-attach.ensures.nodes c.in_ok-attach.ensures.tree

pub returns-clause-found : goal.returns-clause-found
returns-clause-found c = λ x.
    let all : c.loop-n.n ≡ length c.args.tabs.now = omega arith in
    c.loop-n.invariant.found x ∙ ap (λ b. some_if b (top_node x)) (ap (λ n. is_among n x) all ∙ among_live c.args.tabs.now x)

pub returns-clause-order : goal.returns-clause-order
returns-clause-order c =
    let all : c.loop-n.n ≡ length c.args.tabs.now = omega arith in
    c.loop-n.invariant.order ∙ ap first_contexts all
