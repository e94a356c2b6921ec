use Rattle.std.proofs.Common.{◌≡◌, ◌<◌, [], not, List, length, arith, ap, sym, subst, ◌∙◌}
use Rattle.wire_msgs.specs.declared.bundle.UpBundle.{UpBundle}
use Rattle.model.specs.Links.{up_waiting, is_nothing}
use Rattle.model.specs.Moments.{moments_of}
use Rattle.model.specs.Next.{Run}
use Rattle.model.specs.Settling.{moments_in}
use Rattle.world.proofs.PutBack.{any_default}
use Rattle.world.proofs.Shown.{ups_count, up_at, nothing_is}
use Rattle.world.proofs.world.World.waits_up.Goals as goal

pub index-requires : goal.index-requires
index-requires c =
    let count : length c.self.inside.sides.ups.items ≡ length c.args.self.now.config.types =
    ups_count c.self.inside.parent.config c.self.inside.journal c.self.inside.parent c.self.inside.sides.contents.items c.self.inside.sides.ups.items c.self.inside.sides.downs.items c.self.invariant
    ∙ ap (λ (r : Run). length r.config.types) c.self.view_is in
    omega (arith, c.self.inside.sides.ups.ok.0, c.requires)

pub returns : goal.returns
returns c =
    let lt : c.args.p.0 < length c.self.inside.parent.config.types = subst (λ (r : Run). c.args.p.0 < length r.config.types) (sym c.self.view_is) c.requires in
    let count : length c.self.inside.sides.ups.items ≡ length c.self.inside.parent.config.types =
    ups_count c.self.inside.parent.config c.self.inside.journal c.self.inside.parent c.self.inside.sides.contents.items c.self.inside.sides.ups.items c.self.inside.sides.downs.items c.self.invariant in
    let within : c.args.p.0 < length c.self.inside.sides.ups.items = subst (λ n. c.args.p.0 < n) (sym count) lt in
    let waits : c.index.result.now ≡ up_waiting c.args.p.0 (moments_of c.self.inside.parent.config c.self.inside.journal) =
    c.index.ensures ∙ any_default c.self.inside.sides.ups.items c.args.p.0 c.index.result.now [] within
    ∙ up_at c.self.inside.parent.config c.self.inside.journal c.self.inside.parent c.self.inside.sides.contents.items c.self.inside.sides.ups.items c.self.inside.sides.downs.items c.self.invariant c.args.p.0 lt in
    ap not (c.is_empty.ensures ∙ nothing_is c.index.result.now ∙ ap (λ (bs : List UpBundle). is_nothing bs) waits)
    ∙ ap (λ (r : Run). not (is_nothing (up_waiting c.args.p.0 (moments_in r)))) c.self.view_is
