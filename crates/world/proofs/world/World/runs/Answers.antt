use Rattle.std.proofs.Common.{◌<◌, None, IsSome, length, ap, sym, subst, ◌∙◌}
use Rattle.std.specs.Prelude.{slice_index_or}
use Rattle.model.specs.Moments.{seen_now}
use Rattle.model.specs.Next.{Run}
use Rattle.model.specs.Settling.{moments_in}
use Rattle.world.specs.Sides.{runs_at, sides_of}
use Rattle.world.proofs.Shown.{contents_count, there_at, runs_is}
use Rattle.world.proofs.world.World.runs.Goals as goal

pub runs_at-requires-clause-place : goal.runs_at-requires-clause-place
runs_at-requires-clause-place c =
    subst (λ n. c.args.p.0 < n)
    (sym (ap length c.as_slice.ensures.value ∙ contents_count c.self.inside.parent.config c.self.inside.journal c.self.inside.parent c.self.inside.sides.contents.items c.self.inside.sides.ups.items c.self.inside.sides.downs.items c.self.invariant ∙ ap (λ (r : Run). length r.config.types) c.self.view_is))
    c.requires

pub runs_at-requires-clause-there : goal.runs_at-requires-clause-there
runs_at-requires-clause-there c =
    let lt : c.args.p.0 < length c.self.inside.parent.config.types = subst (λ (r : Run). c.args.p.0 < length r.config.types) (sym c.self.view_is) c.requires in
    subst (λ l. IsSome (slice_index_or l c.args.p.0 None)) (sym c.as_slice.ensures.value)
    (there_at c.self.inside.parent.config c.self.inside.journal c.self.inside.parent c.self.inside.sides.contents.items c.self.inside.sides.ups.items c.self.inside.sides.downs.items c.self.invariant c.args.p.0 lt)

pub returns : goal.returns
returns c =
    let lt : c.args.p.0 < length c.self.inside.parent.config.types = subst (λ (r : Run). c.args.p.0 < length r.config.types) (sym c.self.view_is) c.requires in
    c.runs_at.ensures ∙ ap (λ l. runs_at c.args.p.0 (sides_of l)) c.as_slice.ensures.value
    ∙ runs_is c.self.inside.parent.config c.self.inside.journal c.self.inside.parent c.self.inside.sides.contents.items c.self.inside.sides.ups.items c.self.inside.sides.downs.items c.self.invariant c.args.p.0 lt
    ∙ ap (λ (r : Run). (seen_now r.config c.args.p.0 (moments_in r)).running) c.self.view_is
