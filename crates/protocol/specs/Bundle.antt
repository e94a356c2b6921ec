-- What a whole bundle comes to in the parent. As in `Fold`, it is told over anything that is kept.
use Rattle.std.specs.Prelude.{ℕ, ◌+◌, ◌==◌, nat_lt, Bool, true, false, not, if◌then◌else◌}
use Rattle.std.specs.Prelude.{zero, suc, List, [], ◌∷◌, Option, None, Some, is_some, ◌&&◌}
use Rattle.std.specs.List.{list_any}
use Rattle.std.specs.Option.{option_map, option_map_or}
use Rattle.field_table.specs.declared.field.Field.{Field}
use Rattle.wire_msgs.specs.declared.answer.Answer.{Answer}
use Rattle.wire_msgs.specs.declared.answer.Answer.TheVariants as answers
use Rattle.wire_msgs.specs.declared.bundle.UpBundle.{UpBundle}
use Rattle.wire_msgs.specs.declared.bundle.DownBundle.{DownBundle}
use Rattle.wire_msgs.specs.declared.cause.EndCause.{EndCause}
use Rattle.wire_msgs.specs.declared.cause.EndCause.TheVariants.{BadEpoch, BadStamp, BadPart, Failed}
use Rattle.wire_msgs.specs.declared.part.UpPart.{UpPart}
use Rattle.wire_msgs.specs.declared.part.UpPart.TheVariants as ups
use Rattle.wire_msgs.specs.declared.part.DownPart.{DownPart}
use Rattle.wire_msgs.specs.declared.part.DownPart.TheVariants as downs
use Rattle.protocol.specs.Questions.{Facts}
use Rattle.protocol.specs.Sayings.{Saying}
use Rattle.protocol.specs.Sayings.Saying.{Counted, Sent, Ended}
use Rattle.protocol.specs.Fold.{or_later, after_parts, first_fault, notes_of, posts_of}
use Rattle.protocol.specs.Hear.{hear_rules}
use Rattle.protocol.specs.Order.{first_misplaced, in_order}

abbrev pub is_commit : UpPart → Bool
is_commit (ups.Commit x t) = true
is_commit _ = false

-- whether a bundle is told by the process's end alone
abbrev pub is_end : List UpPart → Bool
is_end (ups.Gone ∷ []) = true
is_end _ = false

-- the epoch that is due of a process whose bundle has these parts
abbrev pub due : Facts → ℕ → List UpPart → ℕ
due f p parts = f.processes.commits_heard p + (if list_any is_commit parts then 1 else 0)

-- why a bundle ends its sender before its parts are looked at
unfoldable pub envelope_fault : Facts → ℕ → UpBundle → Option EndCause
envelope_fault f p b =
    if is_end b.parts then Some Failed
    else if not (b.epoch.0 == due f p b.parts)
    then Some (BadEpoch b.epoch (record { 0 = due f p b.parts }))
    else if nat_lt (f.processes.bundles_sent p) b.seen
    then Some (BadStamp b.seen (f.processes.bundles_sent p))
    else option_map BadPart (first_misplaced 1 [] b.parts)

-- whether the epoch of a bundle is recorded: it is the one that is due, and it counts a commit
abbrev pub is_counted : Facts → ℕ → UpBundle → Bool
is_counted f p b = not (is_end b.parts) && list_any is_commit b.parts && b.epoch.0 == due f p b.parts

-- what a process that is ended is sent
abbrev pub end_parts : EndCause → List DownPart
end_parts Failed = []
end_parts _ = downs.Kill ∷ []

-- no parts are no bundle
abbrev pub is_no_bundle : List DownPart → Bool
is_no_bundle [] = true
is_no_bundle (d ∷ ds) = false

-- an answer, what is kept behind it, and the parts that each process is sent; none is no bundle
pub record Ruling (Kept : Type 0) : Type 0 where
  pub answer : Answer
  pub kept : Kept
  pub sends : ℕ → List DownPart

module _ {Kept : Type 0} (facts : Kept → Facts) (next : Saying → Kept → Kept) where
  -- behind the bundles that the first n processes are sent
  abbrev pub after_sending : ℕ → (ℕ → List DownPart) → Kept → Kept
  after_sending zero sends s = s
  after_sending (suc n) sends s =
      let before = after_sending n sends s in
      if is_no_bundle (sends n) then before else next (Sent n) before

  abbrev pub ruling : ℕ → Answer → (ℕ → List DownPart) → Kept → Ruling Kept
  ruling n answer sends s = record { answer = answer; kept = after_sending n sends s; sends = sends }

  -- a process is ended
  abbrev pub end_ruling : ℕ → ℕ → EndCause → Kept → Ruling Kept
  end_ruling n p cause s =
      ruling n (answers.Ended cause) (λ q. if q == p then end_parts cause else []) (next (Ended p cause) s)

  -- the parts are done, one after the other
  abbrev pub parts_ruling : ℕ → (Field → Bool) → ℕ → UpBundle → Kept → Ruling Kept
  parts_ruling n says_yes p b s =
      let posts : ℕ → List DownPart =
      λ q. in_order (posts_of (hear_rules says_yes p q) facts next s b.parts) in
      ruling n (answers.Parts (notes_of (hear_rules says_yes p p) facts next s b.parts)) posts
      (after_parts (hear_rules says_yes p p) facts next s b.parts)

  -- a bundle of process p is heard, where there are n processes
  abbrev pub bundle_ruling : ℕ → (Field → Bool) → ℕ → UpBundle → Kept → Ruling Kept
  bundle_ruling n says_yes p b s =
      if is_some ((facts s).processes.ended p) then ruling n answers.Ignored (λ q. []) s
      else
      let counted = if is_counted (facts s) p b then next (Counted p) s else s in
      option_map_or (λ cause. end_ruling n p cause counted)
      (or_later (envelope_fault (facts s) p b)
      (first_fault (hear_rules says_yes p p) facts next 1 counted b.parts))
      (parts_ruling n says_yes p b counted)

-- the bundle of a process that has these parts, if it has any, by the parent's answers behind the step
abbrev pub bundle_for : Facts → ℕ → List DownPart → Option DownBundle
bundle_for f q [] = None
bundle_for f q (d ∷ ds) =
    Some (record { epoch = record { 0 = f.processes.commits_heard q }; parts = d ∷ ds })
