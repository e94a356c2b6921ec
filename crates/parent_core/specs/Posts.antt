-- What is posted to the processes: parts, each for the processes of a set.
use Rattle.std.specs.Prelude.{ℕ, ◌==◌, Bool, List, [], ◌∷◌, ◌++◌, if◌then◌else◌, refl}
use Rattle.std.specs.Prelude.{Option, None, Some}
use Rattle.std.specs.List.{list_any}
use Rattle.std.specs.Coded.{Coded, code_by, coded×}
use Rattle.fission_ids.specs.declared.context.ContextId.{ContextId}
use Rattle.fission_ids.specs.declared.process.ProcSet.{ProcSet}
use Rattle.fission_ids.specs.contracts.process.ProcSet as set
use Rattle.fission_ids.specs.ProcSet.{has}
use Rattle.transaction.specs.Transaction.{Changes}
use Rattle.wire_msgs.specs.declared.cause.EndCause.{EndCause}
use Rattle.wire_msgs.specs.declared.part.DownPart.{DownPart}
use Rattle.wire_msgs.specs.declared.part.DownPart.TheVariants.{Kill}
use Rattle.wire_msgs.specs.contracts.part.DownPart as part
use Rattle.protocol.specs.Bundle.{end_parts}
use Rattle.protocol.specs.Hear.{commit_unless_empty}
use Rattle.protocol.specs.Order.{in_order}

-- a part for the processes of a set
pub record Posted : Type 0 where
  pub to : ProcSet
  pub part : DownPart

-- it is coded as a pair
abbrev pub posted_code : Coded Posted
posted_code =
    code_by
    (ProcSet × DownPart)
    (coded× set.the_row.coded part.the_row.coded)
    (λ a. (a.to, a.part))
    (λ p. record { to = p.0; part = p.1 })
    (λ _. refl)

-- a list of one part, by its part
abbrev pub first_part : List DownPart → DownPart
first_part [] = Kill
first_part (d ∷ ds) = d

-- the list of a part, for a process of a set
abbrev pub part_to : ProcSet → DownPart → ℕ → List DownPart
part_to to part q = if has to q then part ∷ [] else []

-- a commit for a process of a set, unless it modifies nothing
abbrev pub commit_to : ProcSet → ContextId → Changes → ℕ → List DownPart
commit_to to x t q = if has to q then commit_unless_empty x t else []

-- what process q is sent, in the order of what caused it
abbrev pub sent_to : List Posted → ℕ → List DownPart
sent_to [] q = []
sent_to (a ∷ posts) q = part_to a.to a.part q ++ sent_to posts q

-- whether it is sent anything
abbrev pub is_sent_to : List Posted → ℕ → Bool
is_sent_to posts q = list_any (λ a. has a.to q) posts

-- the parts of its bundle
abbrev pub bundle_parts : List Posted → ℕ → List DownPart
bundle_parts posts q = in_order (sent_to posts q)

-- parts, if there are any
abbrev pub some_parts : List DownPart → Option (List DownPart)
some_parts [] = None
some_parts (d ∷ ds) = Some (d ∷ ds)

-- what is sent where process p is ended
abbrev pub end_to : ℕ → EndCause → ℕ → List DownPart
end_to p cause q = if q == p then end_parts cause else []
