use Rattle.std.proofs.Common.{◌≡◌, length, drop}
use Rattle.serde_json.specs.View.{items_view}
use Rattle.scenario.specs.Reading.{types_of}
use Rattle.scenario.proofs.Loop.{with_front}
use Rattle.scenario.proofs.processes.types_of.Given as goal

abbrev pub invariant-loop-v : goal.invariant-loop-v
invariant-loop-v l = record {
  so_far : with_front l.types (types_of (items_view (drop l.v-index l.values))) ≡ types_of (items_view l.values);
  len : length l.types ≡ l.v-index;
}
