-- What is sent to the processes, and what is counted then.
use Rattle.std.specs.Prelude.{ℕ, Bool, List, [], ◌∷◌, ◌++◌}
use Rattle.std.specs.Prelude.{Option, None, Some}
use Rattle.fission_ids.specs.declared.process.ProcId.{ProcId}
use Rattle.wire_msgs.specs.declared.bundle.DownBundle.{DownBundle}
use Rattle.wire_msgs.specs.declared.part.DownPart.{DownPart}
use Rattle.protocol.specs.FactsAfter.{raised}
use Rattle.parent_core.specs.Parent.{Counted}
use Rattle.parent_core.specs.Ruled.{addressed}

-- parts as a bundle for a process of which this epoch was heard; none is no bundle
abbrev pub bundle_with : ℕ → List DownPart → Option DownBundle
bundle_with heard [] = None
bundle_with heard (d ∷ ds) = Some (record { epoch = record { 0 = heard }; parts = d ∷ ds })

-- the bundles for these processes
abbrev pub bundles_to : (ℕ → List DownPart) → (ℕ → ℕ) → List ℕ → List (ProcId × DownBundle)
bundles_to sends heard [] = []
bundles_to sends heard (q ∷ qs) =
    addressed q (bundle_with (heard q) (sends q)) ++ bundles_to sends heard qs

-- the counts of a process, behind a bundle if it is sent one
abbrev pub counted_after : Bool → Counted → Counted
counted_after told c = record { heard = c.heard; sent = raised told c.sent }

-- the counts of a process, behind a commit if it sent it
abbrev pub heard_after : Bool → Counted → Counted
heard_after is_sender c = record { heard = raised is_sender c.heard; sent = c.sent }
