use Rattle.field_rules.specs.RuleBounds.{bounds_of}
use Rattle.protocol.specs.Outside.{allowed_of}
use Rattle.parent_core.proofs.parent.Parent.hear_running.Goals as goal

pub hear_judged-requires-clause-cause : goal.hear_judged-requires-clause-cause
hear_judged-requires-clause-cause g c = c.in_ok-cause.ensures (allowed_of (bounds_of c.args.rules.now) c.args.bundle)
