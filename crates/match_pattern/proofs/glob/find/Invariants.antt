use Rattle.std.proofs.Common.{◌-◌, ◌≤◌, length}
use Rattle.match_pattern.proofs.Places.{PlaceFrom}
use Rattle.match_pattern.proofs.glob.find.Given as goal

abbrev pub invariant-loop-at : goal.invariant-loop-at
invariant-loop-at l = (l.at ≤ length l.text) × PlaceFrom l.at l.piece l.text

abbrev pub decreases-loop-at : goal.decreases-loop-at
decreases-loop-at l = length l.text - l.at
