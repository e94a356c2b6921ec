use Rattle.std.proofs.Common.{◌≡◌, drop}
use Rattle.serde_json.specs.View.{items_view}
use Rattle.scenario.specs.Reading.{raw_parts}
use Rattle.scenario.proofs.Loop.{with_front}
use Rattle.scenario.proofs.raw.raw_parts.Given as goal

abbrev pub invariant-loop-v : goal.invariant-loop-v
invariant-loop-v l = with_front l.parts (raw_parts l.place (items_view (drop l.v-index l.values))) ≡ raw_parts l.place (items_view l.values)
