use Rattle.std.proofs.Common.{◌≡◌, length, ap, ◌∙◌, arith, if◌then◌else◌, None}
use Rattle.std.specs.Option.{option_map}
use Rattle.protocol.specs.Start.{tab_of}
use Rattle.parent_core.specs.Membership.{origin_of_tab}
use Rattle.parent_core.proofs.Committed.{is_among, among_live}
use Rattle.parent_core.proofs.Tabs.{none_fixed, next_fixed, where_live}
use Rattle.parent_core.proofs.starting.origins_of.Goals as goal

pub loop-n-init : goal.loop-n-init
loop-n-init c = none_fixed c.args.tabs.now c.new-known.result.entries c.new-known.ensures.empty

pub loop-n-preserved : goal.loop-n-preserved
loop-n-preserved c = next_fixed c.loop-n.n c.args.tabs.now (record { owner = record { 0 = 0 }; also = record { 0 = 0 } }) c.loop-n.known.entries c.note_origin.new.known.entries c.loop-n-test.true c.in_ok-note_origin.ensures c.loop-n.invariant

pub returns : goal.returns
returns c = λ x.
    let all : c.loop-n.n ≡ length c.args.tabs.now = omega arith in
    c.loop-n.invariant x
    ∙ ap (λ b. if b then option_map (origin_of_tab x) (tab_of c.args.tabs.now x) else None) (ap (λ n. is_among n x) all ∙ among_live c.args.tabs.now x)
    ∙ where_live (origin_of_tab x) (tab_of c.args.tabs.now x)
