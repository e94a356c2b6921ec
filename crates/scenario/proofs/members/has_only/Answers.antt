use Rattle.std.proofs.Common.{◌∙◌}
use Rattle.serde_json.specs.View.{view}
use Rattle.scenario.specs.Members.{allows}
use Rattle.scenario.proofs.Keys.{only_of_keys}
use Rattle.scenario.proofs.members.has_only.Goals as goal

pub returns-in-Some : goal.returns-in-Some
returns-in-Some c = c.all_allowed.ensures ∙ only_of_keys (allows c.args.kind) (view c.args.v.now) c.in-Some.members.now.entries c.in-Some.ensures
