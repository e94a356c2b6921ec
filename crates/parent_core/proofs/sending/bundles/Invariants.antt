use Rattle.std.proofs.Common.{◌≡◌, ◌++◌, ◌-◌, length}
use Rattle.protocol.specs.Start.{numbers}
use Rattle.parent_core.specs.Parent.{counted_of}
use Rattle.parent_core.specs.Posts.{bundle_parts}
use Rattle.parent_core.specs.Sending.{bundles_to}
use Rattle.parent_core.proofs.sending.bundles.Given as goal

abbrev pub invariant-loop-i : goal.invariant-loop-i
invariant-loop-i l =
    l.sent.items ++ bundles_to (bundle_parts l.posts) (λ q. (counted_of q l.processes).heard) (numbers l.i (length l.processes - l.i))
    ≡ bundles_to (bundle_parts l.posts) (λ q. (counted_of q l.processes).heard) (numbers 0 (length l.processes))
