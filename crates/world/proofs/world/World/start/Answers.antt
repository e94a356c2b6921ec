use Rattle.world.proofs.Starting.{stands_at_start}
use Rattle.world.proofs.world.World.start.Goals as goal

pub invariant_of-result : goal.invariant_of-result
invariant_of-result c =
    rw c.new.ensures (stands_at_start c.args.config c.in_ok-start.field-0.config c.in_ok-start.field-0 c.in_ok-start_sides.field-0.contents.items c.in_ok-start_sides.field-0.ups.items c.in_ok-start_sides.field-0.downs.items
    c.requires c.in_ok-start.ensures.config c.in_ok-start.ensures.facts c.in_ok-start_sides.ensures.contents c.in_ok-start_sides.ensures.ups c.in_ok-start_sides.ensures.downs)
