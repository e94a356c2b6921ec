-- Why the parts of a bundle end its sender: by the draft it is what the rules say behind the earlier parts.
use Rattle.std.proofs.Common.{◌≡◌, ℕ, ◌+◌, Bool, true, false, not, ◌&&◌, ◌||◌, if◌then◌else◌, Option, None, Some, List, [], ◌∷◌, ◌<◌, ◌≤◌, length, drop, get_or, refl, sym, ap, ap₂, subst, ◌∙◌, filter}
use Rattle.std.specs.Prelude.{is_none, unwrap_or}
use Rattle.std.proofs.Math.Path.{fun_ext}
use Rattle.std.proofs.lemmas.List.{drop_more, drop_all}
use Rattle.fission_ids.specs.declared.any_id.AnyId.TheVariants as ids
use Rattle.fission_ids.specs.declared.context.ContextId.{ContextId}
use Rattle.fission_ids.specs.declared.process.ProcId.{ProcId}
use Rattle.field_table.specs.declared.field.Field.{Field}
use Rattle.field_table.specs.declared.value.Value.{Value}
use Rattle.field_table.specs.declared.value.Value.TheVariants.{Flag}
use Rattle.field_rules.specs.declared.rule.Rule.{Rule}
use Rattle.field_rules.specs.declared.rule.Rule.TheVariants.{Any, ParentOnly, TopOnly, OwnerElseRevert, Window, Custom}
use Rattle.field_rules.specs.Rules.{rule, row, is_denied}
use Rattle.transaction.specs.Transaction.{Changes, new_value}
use Rattle.wire_msgs.specs.declared.cause.EndCause.{EndCause}
use Rattle.wire_msgs.specs.declared.cause.EndCause.TheVariants.{BadId}
use Rattle.wire_msgs.specs.declared.note.FieldNote.{FieldNote}
use Rattle.wire_msgs.specs.declared.note.Mark.TheVariants.{Done, Late, Ignored}
use Rattle.wire_msgs.specs.declared.note.PartNote.TheVariants as notes
use Rattle.wire_msgs.specs.declared.part.UpPart.{UpPart}
use Rattle.wire_msgs.specs.declared.part.UpPart.TheVariants as ups
use Rattle.protocol.specs.Questions.{Facts, option_any, is_owner, is_judged}
use Rattle.protocol.specs.Fold.{or_later, behind_all, after_part, first_fault}
use Rattle.protocol.specs.FactsAfter.{facts_after}
use Rattle.protocol.specs.Hear.{fault, note, says, hear_rules, is_new_frame, is_late, may_be_dropped, modified_fields, denied_of, denial, field_notes}
use Rattle.protocol.proofs.Judging.{denied_is}
use Rattle.parent_core.specs.Drafts.{live_in, owner_in, above_in, told_in, known_in, takes_frame, may_drop_in, fault_in, step_in, draft_with, first_fault_in, counted}
use Rattle.parent_core.specs.Sound.{IsSound}
use Rattle.protocol.specs.Bundle.{is_counted}
use Rattle.protocol.specs.Sayings.Saying.{Counted}
use Rattle.wire_msgs.specs.declared.bundle.UpBundle.{UpBundle}
use Rattle.parent_core.specs.Writes.{question_from, denied_from}
use Rattle.parent_core.specs.declared.drafts.Step.{Step}
use Rattle.parent_core.specs.declared.drafts.Step.TheVariants.{Made, Gone}
use Rattle.parent_core.proofs.Drafted.{IsDrafted, any_alike, drafted_first, drafted_made, drafted_late, drafted_gone, drafted_acked, drafted_wrote}

-- who owns the context is nothing to a denial
denied_by : (r : Rule) (from : Option ProcId) (x : ContextId) (top owns other : Bool) (fld : Field) (v : Value)
    → (row r).denies (question_from from x top owns fld v) ≡ (row r).denies (question_from from x top other fld v)
unfolding row
denied_by Any from x top owns other fld v = refl
denied_by ParentOnly from x top owns other fld v = refl
denied_by TopOnly from x top owns other fld v = refl
denied_by OwnerElseRevert from x top owns other fld v = refl
denied_by Window from x top owns other fld v = refl
denied_by (Custom z) from x top owns other fld v = refl

-- an id that passes is new
free : (new known above : Bool) (c e : EndCause) → (if not new || known then Some c else if not above then Some e else None) ≡ None → known ≡ false
free true false above c e fine = refl
free true true above c e fine = absurd cc
free false known above c e fine = absurd cc

module _ (allows : Field → Bool) (f0 : Facts) (p : ℕ) (draft : List Step) (f : Facts) (d : IsDrafted f0 p draft f) where
  denied_same : (x : ContextId) (t : Changes)
      → denied_of allows f p x t ≡ denied_from (Some (record { 0 = p })) x (is_none (above_in f0 x draft)) (is_owner f0 p x) t
  denied_same x t =
      denied_is allows f p x t
      ∙ ap (λ (test : Field → Bool). filter test (modified_fields t)) (fun_ext (λ fld.
      denied_by (rule fld) (Some (record { 0 = p })) x (is_none (f.contexts.above x)) (is_owner f p x) (is_owner f0 p x) fld (unwrap_or (new_value t fld) (Flag false))
      ∙ ap (λ (o : Option ContextId). is_denied (question_from (Some (record { 0 = p })) x (is_none o) (is_owner f0 p x) fld (unwrap_or (new_value t fld) (Flag false)))) (d.above x)))

  may_same : (x : ContextId) → may_be_dropped f p x ≡ may_drop_in f0 p x draft
  may_same x =
      any_alike (f.contexts.above x) (λ a. not (f.contexts.live x) || is_owner f p a) (λ a. not (live_in f0 x draft) || owner_in f0 p a draft)
      (λ a e. by a e (f.contexts.live x) refl ∙ ap (λ b. not b || owner_in f0 p a draft) (d.live x))
      ∙ ap (λ (o : Option ContextId). option_any (λ a. not (live_in f0 x draft) || owner_in f0 p a draft) o) (d.above x)
    where
      by : (a : ContextId) → f.contexts.above x ≡ Some a → (live : Bool) → f.contexts.live x ≡ live
          → (not live || is_owner f p a) ≡ (not live || owner_in f0 p a draft)
      by a e true live = d.owner a (d.above_live x a live e)
      by a e false live = refl

  pub fault_same : (n : ℕ) (a : UpPart) → fault allows p n f a ≡ fault_in f0 p draft a
  unfolding fault fault_in
  fault_same n (ups.Create x above) =
      ap₂ (λ b c. if not (is_new_frame p x) || b then Some (BadId (ids.Context x)) else if not c then Some (BadId (ids.Context above)) else None)
      (d.known x) (d.known above)
  fault_same n (ups.Drop x) = ap₂ (λ b c. if b && c then None else Some (BadId (ids.Context x))) (d.known x) (may_same x)
  fault_same n (ups.Commit x t) =
      ap₂ (λ b c. if b && c then denial x (denied_of allows f p x t) else None) (d.live x) (d.told x)
      ∙ ap (λ (flds : List Field). if live_in f0 x draft && told_in f0 p x draft then denial x flds else None) (denied_same x t)
  fault_same n _ = refl

  -- ---- behind a part without a fault

  takes_same : (a : ContextId) → takes_frame f0 p a draft ≡ (f.contexts.live a && is_owner f p a)
  takes_same a = ap (λ b. b && owner_in f0 p a draft) (sym (d.live a)) ∙ by (f.contexts.live a) refl
    where
      by : (live : Bool) → f.contexts.live a ≡ live → (live && owner_in f0 p a draft) ≡ (live && is_owner f p a)
      by true e = sym (d.owner a e)
      by false e = refl

  made_by : (x a : ContextId) → f.contexts.known x ≡ false → (live owns : Bool) → f.contexts.live a ≡ live
      → IsDrafted f0 p (Made x a (live && owns) ∷ draft) (behind_all facts_after (says p (ups.Create x a) (notes.Create x (if not (live && owns) then Late else Done))) f)
  unfolding says behind_all
  made_by x a new true true e = drafted_made f0 p draft f d x a new e
  made_by x a new true false e = drafted_late f0 p draft f d x a new
  made_by x a new false owns e = drafted_late f0 p draft f d x a new

  drop_by : (x : ContextId) (live : Bool)
      → IsDrafted f0 p (draft_with (if live then Some (Gone x) else None) draft) (behind_all facts_after (says p (ups.Drop x) (notes.Drop x (if live then Done else Ignored))) f)
  unfolding says behind_all
  drop_by x true = drafted_gone f0 p draft f d x (Some p)
  drop_by x false = d

  commit_by : (x : ContextId) (t : Changes) (ns : List FieldNote) (judged : Bool)
      → IsDrafted f0 p draft (behind_all facts_after (says p (ups.Commit x t) (if judged then notes.Commit x ns else notes.CommitIgnored x)) f)
  unfolding says behind_all
  commit_by x t ns true = drafted_wrote f0 p draft f d x _
  commit_by x t ns false = d

  pub drafted_next : (a : UpPart) → fault_in f0 p draft a ≡ None
      → IsDrafted f0 p (draft_with (step_in f0 p draft a) draft) (after_part (hear_rules allows p p) (λ g. g) facts_after a f)
  unfolding fault_in step_in note says behind_all
  drafted_next (ups.Create x a) fine =
      let new : f.contexts.known x ≡ false = d.known x ∙ free (is_new_frame p x) (known_in f0 x draft) (known_in f0 a draft) (BadId (ids.Context x)) (BadId (ids.Context a)) fine in
      subst (λ b. IsDrafted f0 p (Made x a b ∷ draft) (behind_all facts_after (says p (ups.Create x a) (notes.Create x (if is_late f p a then Late else Done))) f))
      (sym (takes_same a))
      (made_by x a new (f.contexts.live a) (is_owner f p a) refl)
  drafted_next (ups.Drop x) fine =
      subst (λ b. IsDrafted f0 p (draft_with (if b then Some (Gone x) else None) draft) (behind_all facts_after (says p (ups.Drop x) (notes.Drop x (if f.contexts.live x then Done else Ignored))) f))
      (d.live x)
      (drop_by x (f.contexts.live x))
  drafted_next (ups.DropAck x) fine = drafted_acked f0 p draft f d x
  drafted_next (ups.Commit x t) fine = commit_by x t (field_notes allows f p x t) (is_judged f p x)
  drafted_next _ fine = d

-- ---- all parts

pub first_same : (allows : Field → Bool) (f0 : Facts) (p n : ℕ) (draft : List Step) (f : Facts) → IsDrafted f0 p draft f → (parts : List UpPart)
    → first_fault (hear_rules allows p p) (λ g. g) facts_after n f parts ≡ first_fault_in f0 p draft parts
unfolding first_fault first_fault_in
first_same allows f0 p n draft f d [] = refl
first_same allows f0 p n draft f d (a ∷ parts) =
    by (λ e. first_same allows f0 p (n + 1) (draft_with (step_in f0 p draft a) draft) (after_part (hear_rules allows p p) (λ g. g) facts_after a f) (drafted_next allows f0 p draft f d a e) parts)
    (fault_in f0 p draft a) refl
  where
    behind : Option EndCause
    behind = first_fault (hear_rules allows p p) (λ g. g) facts_after (n + 1) (after_part (hear_rules allows p p) (λ g. g) facts_after a f) parts

    drafted : Option EndCause
    drafted = first_fault_in f0 p (draft_with (step_in f0 p draft a) draft) parts

    by : (fault_in f0 p draft a ≡ None → behind ≡ drafted) → (o : Option EndCause) → fault_in f0 p draft a ≡ o → or_later (fault allows p n f a) behind ≡ or_later (fault_in f0 p draft a) drafted
    by later (Some cause) e =
        ap (λ (o : Option EndCause). or_later o behind) (fault_same allows f0 p draft f d n a ∙ e)
        ∙ sym (ap (λ (o : Option EndCause). or_later o drafted) e)
    by later None e = ap₂ (λ (o r : Option EndCause). or_later o r) (fault_same allows f0 p draft f d n a) (later e)

-- ---- one part after the other

module _ (f : Facts) (p : ℕ) (draft : List Step) (parts : List UpPart) (i : ℕ) (a : UpPart) (is : a ≡ get_or parts i a) (below : i < length parts)
    (whole : Option EndCause) (so_far : first_fault_in f p draft (drop i parts) ≡ whole)
  where
    one_more : or_later (fault_in f p draft a) (first_fault_in f p (draft_with (step_in f p draft a) draft) (drop (i + 1) parts)) ≡ whole
    unfolding first_fault_in
    one_more =
        ap (λ (b : UpPart). or_later (fault_in f p draft b) (first_fault_in f p (draft_with (step_in f p draft b) draft) (drop (i + 1) parts))) is
        ∙ sym (ap (first_fault_in f p draft) (drop_more parts i a below))
        ∙ so_far

    pub fault_found : (cause : EndCause) → Some cause ≡ fault_in f p draft a → Some cause ≡ whole
    fault_found cause e =
        ap (λ (o : Option EndCause). or_later o (first_fault_in f p (draft_with (step_in f p draft a) draft) (drop (i + 1) parts))) e ∙ one_more

    pub fault_passed : (step : Option Step) (after : List Step) → None ≡ fault_in f p draft a → step ≡ step_in f p draft a → after ≡ draft_with step draft
        → first_fault_in f p after (drop (i + 1) parts) ≡ whole
    fault_passed step after fine is_step is_after =
        ap (λ (l : List Step). first_fault_in f p l (drop (i + 1) parts)) (is_after ∙ ap (λ (o : Option Step). draft_with o draft) is_step)
        ∙ ap (λ (o : Option EndCause). or_later o (first_fault_in f p (draft_with (step_in f p draft a) draft) (drop (i + 1) parts))) fine
        ∙ one_more

pub faults_end : (f : Facts) (p : ℕ) (draft : List Step) (parts : List UpPart) (i : ℕ) (whole : Option EndCause) → length parts ≤ i
    → first_fault_in f p draft (drop i parts) ≡ whole → None ≡ whole
unfolding first_fault_in
faults_end f p draft parts i whole past so_far = sym (ap (first_fault_in f p draft) (drop_all i parts past)) ∙ so_far

-- ---- the bundle

-- the count of a bundle changes nothing that judging reads
drafted_counted : (f : Facts) (p : ℕ) (b : UpBundle) → IsSound f → IsDrafted f p [] (counted p b f)
unfolding facts_after
drafted_counted f p b sound = by (is_counted f p b)
  where
    by : (is : Bool) → IsDrafted f p [] (if is then facts_after (Counted p) f else f)
    by true =
        let d : IsDrafted f p [] f = drafted_first f p sound in
        record {
          known = d.known;
          above = d.above;
          live = d.live;
          under = d.under;
          told = d.told;
          owner = d.owner;
          live_known = d.live_known;
          above_live = d.above_live;
          under_above = d.under_above;
        }
    by false = drafted_first f p sound

pub bundle_same : (allows : Field → Bool) (f : Facts) (p : ℕ) (b : UpBundle) → IsSound f
    → first_fault (hear_rules allows p p) (λ g. g) facts_after 1 (counted p b f) b.parts ≡ first_fault_in f p [] b.parts
bundle_same allows f p b sound = first_same allows f p 1 [] (counted p b f) (drafted_counted f p b sound) b.parts
