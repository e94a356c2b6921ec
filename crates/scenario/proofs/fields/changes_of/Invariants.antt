use Rattle.std.proofs.Common.{◌≡◌}
use Rattle.serde_json.specs.View.{members_view}
use Rattle.scenario.specs.Reading.{named_changes}
use Rattle.scenario.proofs.Changes.{put_in}
use Rattle.scenario.proofs.fields.changes_of.Given as goal

abbrev pub invariant-loop-key : goal.invariant-loop-key
invariant-loop-key l = put_in l.place l.changes l.key-iterator ≡ named_changes l.place (members_view l.members.entries)
