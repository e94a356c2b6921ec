-- In which order the parts of a bundle stand: by kind, and within a kind in the order of what caused them.
use Rattle.std.specs.Prelude.{ℕ, ◌+◌, ◌==◌, nat_lt, Bool, true, false, ◌&&◌, ◌||◌, not, if◌then◌else◌}
use Rattle.std.specs.Prelude.{List, [], ◌∷◌, Option, None, Some}
use Rattle.std.specs.List.{list_any, insert, prefix_len}
use Rattle.wire_msgs.specs.declared.part.UpPart.{UpPart}
use Rattle.wire_msgs.specs.declared.part.UpPart.TheVariants as ups
use Rattle.wire_msgs.specs.declared.part.DownPart.{DownPart}
use Rattle.wire_msgs.specs.declared.part.DownPart.TheVariants as downs

-- the place of a kind among the parts that a process sends
abbrev pub up_rank : UpPart → ℕ
up_rank (ups.Create x above) = 1
up_rank (ups.Drop x) = 2
up_rank (ups.DropAck x) = 3
up_rank (ups.NewWindow w x url) = 4
up_rank (ups.WindowGone w) = 5
up_rank (ups.Commit x t) = 6
up_rank (ups.NavigateRequest x url) = 7
up_rank (ups.Ask q w actor text) = 8
up_rank (ups.Tell w actor text) = 9
up_rank (ups.Reply q outcome) = 10
up_rank ups.Gone = 11

-- the place of a kind among the parts that the parent sends
abbrev pub down_rank : DownPart → ℕ
down_rank (downs.Register g contexts) = 1
down_rank (downs.Create known) = 2
down_rank (downs.Commit x t) = 3
down_rank (downs.Discard x) = 4
down_rank (downs.CloseWindow x) = 5
down_rank (downs.Load x url) = 6
down_rank (downs.Ask q w actor text) = 7
down_rank (downs.Tell w actor text) = 8
down_rank (downs.Reply q outcome) = 9
down_rank downs.Kill = 10

-- a part behind all of its kind and of the kinds before it
abbrev pub parts_with : DownPart → List DownPart → List DownPart
parts_with d ds = insert ds (prefix_len (λ e. not (nat_lt (down_rank d) (down_rank e))) ds) d

-- parts put among others, one after the other
unfoldable pub parts_with_all : List DownPart → List DownPart → List DownPart
parts_with_all [] ds = ds
parts_with_all (d ∷ more) ds = parts_with_all more (parts_with d ds)

-- parts in their order
abbrev pub in_order : List DownPart → List DownPart
in_order ds = parts_with_all ds []

-- whether a bundle may have one part of a kind alone: a commit, and a request to navigate
abbrev pub is_single : ℕ → Bool
is_single rank = rank == 6 || rank == 7

-- whether a part may not stand behind parts of these ranks: one of them is of a later kind, or of the same
-- where one alone may stand, or it is Gone
abbrev pub is_misplaced : List ℕ → ℕ → Bool
is_misplaced before rank =
    list_any (λ r. nat_lt rank r || (is_single rank && r == rank) || rank == 11) before

abbrev pub is_gone : UpPart → Bool
is_gone ups.Gone = true
is_gone _ = false

abbrev pub is_empty : List UpPart → Bool
is_empty [] = true
is_empty (a ∷ parts) = false

-- the number of the first part that is misplaced, from n on, behind parts of these ranks
unfoldable pub first_misplaced : ℕ → List ℕ → List UpPart → Option ℕ
first_misplaced n before [] = None
first_misplaced n before (a ∷ parts) =
    if is_misplaced before (up_rank a) || (is_gone a && not (is_empty parts)) then Some n
    else first_misplaced (n + 1) (up_rank a ∷ before) parts
