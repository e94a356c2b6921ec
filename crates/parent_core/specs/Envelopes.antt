-- Where the parts of a bundle stand, told by the part before: none that passed is of a later kind.
use Rattle.std.specs.Prelude.{ℕ, ◌+◌, ◌==◌, nat_lt, Bool, not, ◌&&◌, ◌||◌, if◌then◌else◌, List, [], ◌∷◌}
use Rattle.std.specs.Prelude.{Option, None, Some}
use Rattle.wire_msgs.specs.declared.part.UpPart.{UpPart}
use Rattle.protocol.specs.Order.{up_rank, is_single, is_gone, is_empty}

-- whether a part may not stand behind one of this rank, which is 0 where there is none
abbrev pub is_misplaced_behind : ℕ → ℕ → Bool
is_misplaced_behind last rank =
    nat_lt 0 last && (nat_lt rank last || (is_single rank && last == rank) || rank == 11)

-- the number of the first part that is misplaced, from n on, behind one of this rank
unfoldable pub first_misplaced_behind : ℕ → ℕ → List UpPart → Option ℕ
first_misplaced_behind n last [] = None
first_misplaced_behind n last (a ∷ parts) =
    if is_misplaced_behind last (up_rank a) || (is_gone a && not (is_empty parts)) then Some n
    else first_misplaced_behind (n + 1) (up_rank a) parts
