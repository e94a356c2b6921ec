use Rattle.field_rules.specs.RuleBounds.{bounds_of}
use Rattle.protocol.specs.Outside.{allowed_of}
use Rattle.parent_core.proofs.Bundles.{ruled_ended}
use Rattle.parent_core.proofs.parent.Parent.hear.Goals as goal

pub returns-in-Some : goal.returns-in-Some
returns-in-Some g c = ruled_ended c.args.self (allowed_of (bounds_of c.args.rules.now) c.args.bundle) c.args.p.0 c.args.bundle _ c.ignore_bundle.result c.in-Some.ensures c.ignore_bundle.ensures
