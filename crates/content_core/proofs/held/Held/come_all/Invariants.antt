use Rattle.std.proofs.Common.{map, take}
use Rattle.protocol.specs.Seen.Doing.{Came}
use Rattle.content_core.specs.Held.{kept_of, DoesAll}
use Rattle.content_core.proofs.held.Held.come_all.Given as goal

abbrev pub invariant-loop-known : goal.invariant-loop-known
invariant-loop-known l = DoesAll (map Came (take l.known-index l.contexts)) (kept_of l.fn.self) (kept_of l.self)
