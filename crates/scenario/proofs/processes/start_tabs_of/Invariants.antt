use Rattle.std.proofs.Common.{◌≡◌, ◌+◌, drop}
use Rattle.serde_json.specs.View.{items_view}
use Rattle.scenario.specs.Reading.{start_tabs_of}
use Rattle.scenario.proofs.Loop.{with_front}
use Rattle.scenario.proofs.processes.start_tabs_of.Given as goal

abbrev pub invariant-loop-v : goal.invariant-loop-v
invariant-loop-v l = record {
  so_far : with_front l.tabs (start_tabs_of l.place l.count (items_view (drop l.v-index l.values))) ≡ start_tabs_of 100001 l.count (items_view l.values);
  place : l.place ≡ 100001 + l.v-index;
}
