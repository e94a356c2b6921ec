use Rattle.std.proofs.Common.{map, ap, sym, ◌∙◌, ◌∷◌, [], ◌++◌}
use Rattle.std.proofs.lemmas.List.{take_all}
use Rattle.fission_ids.specs.declared.process.ProcSet.{ProcSet}
use Rattle.fission_ids.specs.ProcSet.{has}
use Rattle.parent_core.specs.Membership.{group_begun, group_of_tab}
use Rattle.parent_core.proofs.Tabs.{groups_next, room_left, tab_low}
use Rattle.parent_core.proofs.starting.groups_of.Goals as goal

pub begin_with-requires-clause-room : goal.begin_with-requires-clause-room
begin_with-requires-clause-room c = room_left c.loop-n.n c.args.tabs.now c.loop-n.groups c.requires.few c.loop-n-test.true c.loop-n.invariant

pub begin_with-requires-clause-low : goal.begin_with-requires-clause-low
begin_with-requires-clause-low c = λ q e.
    tab_low c.args.tabs.now c.loop-n.n (record { owner = record { 0 = 0 }; also = record { 0 = 0 } }) c.requires.fit c.loop-n-test.true q (ap (λ (s : ProcSet). has s q) (sym c.with.ensures.value) ∙ e)

pub loop-n-preserved : goal.loop-n-preserved
loop-n-preserved c = groups_next c.loop-n.n c.args.tabs.now (record { owner = record { 0 = 0 }; also = record { 0 = 0 } }) c.loop-n.groups c.begin_with.new.groups c.loop-n-test.true c.loop-n.invariant
    (c.in_ok-begin_with.ensures ∙ ap (λ (s : ProcSet). c.loop-n.groups ++ group_begun s ∷ []) c.with.ensures.value)

pub returns-clause-groups : goal.returns-clause-groups
returns-clause-groups c = c.loop-n.invariant ∙ ap (map group_of_tab) (take_all c.loop-n.n c.args.tabs.now c.loop-n-test.false)
