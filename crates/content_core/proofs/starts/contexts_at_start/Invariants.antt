use Rattle.std.proofs.Common.{◌≡◌, take}
use Rattle.content_core.specs.Held.{AreAtStart}
use Rattle.content_core.proofs.starts.contexts_at_start.Given as goal

abbrev pub invariant-loop-tab : goal.invariant-loop-tab
invariant-loop-tab l = record {
  serial : l.serial ≡ l.tab-index;
  held : AreAtStart (take l.tab-index l.tabs) l.p.0 l.contexts;
}
