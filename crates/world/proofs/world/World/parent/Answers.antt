use Rattle.std.proofs.Common.{ap, ◌∙◌}
use Rattle.model.specs.Moments.{facts_now}
use Rattle.model.specs.Next.{Run}
use Rattle.model.specs.Settling.{moments_in}
use Rattle.model.specs.View.{parent_view}
use Rattle.world.proofs.Shown.{parent_answers, parent_shows}
use Rattle.world.proofs.world.World.parent.Goals as goal

pub returns-clause-answers : goal.returns-clause-answers
returns-clause-answers c =
    parent_answers c.self.inside.parent.config c.self.inside.journal c.self.inside.parent c.self.inside.sides.contents.items c.self.inside.sides.ups.items c.self.inside.sides.downs.items c.self.invariant
    ∙ ap (λ (r : Run). facts_now r.config (moments_in r)) c.self.view_is

pub returns-clause-shows : goal.returns-clause-shows
returns-clause-shows c x f =
    parent_shows c.self.inside.parent.config c.self.inside.journal c.self.inside.parent c.self.inside.sides.contents.items c.self.inside.sides.ups.items c.self.inside.sides.downs.items c.self.invariant x f
    ∙ ap (λ (r : Run). parent_view r.config x f r.journal) c.self.view_is
