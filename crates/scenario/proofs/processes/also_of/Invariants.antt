use Rattle.std.proofs.Common.{◌≡◌, drop}
use Rattle.serde_json.specs.View.{items_view}
use Rattle.scenario.specs.Reading.{also_of}
use Rattle.scenario.proofs.Also.{also_from}
use Rattle.scenario.proofs.processes.also_of.Given as goal

abbrev pub invariant-loop-v : goal.invariant-loop-v
invariant-loop-v l = also_from l.place l.count l.owner l.also (items_view (drop l.v-index l.values)) ≡ also_of l.place l.count l.owner (items_view l.values)
