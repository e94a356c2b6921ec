-- What each part comes to, by what the parent does of it.
use Rattle.std.proofs.Common.{◌≡◌, ℕ, ◌<◌, ◌==◌, Bool, true, false, not, ◌||◌, if◌then◌else◌, None, Some, List, [], ◌∷◌, ◌++◌, map, refl, sym, ap, ap₂, subst, ◌∙◌}
use Rattle.std.proofs.lemmas.List.{append-nil}
use Rattle.std.specs.Prelude.{is_none}
use Rattle.fission_ids.specs.declared.any_id.AnyId.TheVariants as ids
use Rattle.fission_ids.specs.declared.context.ContextId.{ContextId}
use Rattle.wire_msgs.specs.declared.cause.EndCause.TheVariants.{BadId}
use Rattle.fission_ids.specs.declared.process.ProcSet.{ProcSet}
use Rattle.fission_ids.specs.ProcSet.{has}
use Rattle.field_table.specs.declared.field.Field.{Field}
use Rattle.field_table.specs.declared.field_set.FieldSet.{FieldSet}
use Rattle.field_table.specs.Field.{fields}
use Rattle.field_table.specs.FieldSet.{has as has_field, set_of}
use Rattle.transaction.specs.Transaction.{Changes, new_value}
use Rattle.field_rules.specs.Bounds.{Bounds}
use Rattle.wire_msgs.specs.declared.note.FieldNote.{FieldNote}
use Rattle.wire_msgs.specs.declared.note.Mark.TheVariants.{Done, Late, Ignored}
use Rattle.wire_msgs.specs.declared.note.PartNote.{PartNote}
use Rattle.wire_msgs.specs.declared.note.PartNote.TheVariants as notes
use Rattle.wire_msgs.specs.declared.part.DownPart.{DownPart}
use Rattle.wire_msgs.specs.declared.part.DownPart.TheVariants as downs
use Rattle.wire_msgs.specs.declared.part.UpPart.{UpPart}
use Rattle.wire_msgs.specs.declared.part.UpPart.TheVariants as ups
use Rattle.protocol.specs.Questions.{Facts, is_judged, is_owner, is_told}
use Rattle.protocol.specs.Sayings.Saying.{Made, BornDead, Removed, Wrote, Acked}
use Rattle.protocol.specs.Fold.{behind_all}
use Rattle.protocol.specs.FactsAfter.{facts_after}
use Rattle.protocol.specs.Hear.{fault, note, says, posts, is_new_frame, is_late, is_other_told, frame_known, field_notes, commit_unless_empty, values_where, changes_where, is_noted, is_applied, is_reverted}
use Rattle.protocol.specs.Commits.{applied}
use Rattle.protocol.specs.Outside.{allowed_in}
use Rattle.parent_core.specs.Parent.{Kept, facts_of}
use Rattle.parent_core.specs.Posts.{Posted, part_to, sent_to}
use Rattle.parent_core.specs.Heard.{PartDone}
use Rattle.parent_core.specs.Writes.{is_reverted_in, notes_with}
use Rattle.parent_core.proofs.Judged.{notes_are, applied_are, back_are}

part_done : (allows : Field → Bool) (p : ℕ) (a : UpPart) (m : PartNote) (before after : Kept) (sent more : List Posted) → m ≡ note allows p (facts_of before) a
    → after.config ≡ before.config → facts_of after ≡ behind_all facts_after (says p a m) (facts_of before)
    → ((q : ℕ) → q < 16 → sent_to more q ≡ sent_to sent q ++ posts (facts_of before) p a m q)
    → PartDone allows p a before sent more (record { core = after; note = m })
part_done allows p a m before after sent more e config facts told = record {
  config = config;
  facts = facts ∙ ap (λ n. behind_all facts_after (says p a n) (facts_of before)) e;
  note = e;
  posts = told;
}

-- what is posted to a set, by a test of who is in it
to_by : (b c : Bool) (d : DownPart) (ds es : List DownPart) → es ≡ ds ++ (if b then d ∷ [] else []) → b ≡ c → es ≡ ds ++ (if c then d ∷ [] else [])
to_by b c d ds es is same = is ∙ ap (λ z. ds ++ (if z then d ∷ [] else [])) same

-- ---- frames

-- a making without fault
pub create_sound : (allows : Field → Bool) (p n : ℕ) (f : Facts) (x above : ContextId) → fault allows p n f (ups.Create x above) ≡ None
    → (is_new_frame p x ≡ true) × ((f.contexts.known x ≡ false) × (f.contexts.known above ≡ true))
unfolding fault
create_sound allows p n f x above e = by (is_new_frame p x) (f.contexts.known x) (f.contexts.known above) e
  where
    by : (a b c : Bool) → (if not a || b then Some (BadId (ids.Context x)) else if not c then Some (BadId (ids.Context above)) else None) ≡ None
        → (a ≡ true) × ((b ≡ false) × (c ≡ true))
    by true false true e = (refl, (refl, refl))
    by true false false e = absurd cc
    by true true c e = absurd cc
    by false b c e = absurd cc

module _ (p : ℕ) (x above : ContextId) (before after : Kept) (sent more : List Posted) (to : ProcSet) (config : after.config ≡ before.config) where
  pub late_done : is_late (facts_of before) p above ≡ true → facts_of after ≡ facts_after (BornDead p x above) (facts_of before)
      → ((q : ℕ) → q < 16 → has to q ≡ (q == p)) → ((q : ℕ) → sent_to more q ≡ sent_to sent q ++ part_to to (downs.Discard x) q)
      → (allows : Field → Bool) → PartDone allows p (ups.Create x above) before sent more (record { core = after; note = notes.Create x Late })
  unfolding note says posts behind_all
  late_done late facts to_is told allows =
      part_done allows p (ups.Create x above) (notes.Create x Late) before after sent more (ap (λ b. notes.Create x (if b then Late else Done)) (sym late)) config facts
      (λ q lt. to_by (has to q) (q == p) (downs.Discard x) (sent_to sent q) (sent_to more q) (told q) (to_is q lt))

  pub timely_done : (part : DownPart) → is_late (facts_of before) p above ≡ false → facts_of after ≡ facts_after (Made p x above) (facts_of before)
      → part ≡ downs.Create (frame_known (facts_of before) x above)
      → ((q : ℕ) → q < 16 → has to q ≡ is_other_told (facts_of before) p q above) → ((q : ℕ) → sent_to more q ≡ sent_to sent q ++ part_to to part q)
      → (allows : Field → Bool) → PartDone allows p (ups.Create x above) before sent more (record { core = after; note = notes.Create x Done })
  unfolding note says posts behind_all
  timely_done part timely facts is to_is told allows =
      part_done allows p (ups.Create x above) (notes.Create x Done) before after sent more (ap (λ b. notes.Create x (if b then Late else Done)) (sym timely)) config facts
      (λ q lt. to_by (has to q) (is_other_told (facts_of before) p q above) (downs.Create (frame_known (facts_of before) x above)) (sent_to sent q) (sent_to more q)
      (told q ∙ ap (λ d. sent_to sent q ++ (if has to q then d ∷ [] else [])) is) (to_is q lt))

  pub drop_done : (facts_of before).contexts.live x ≡ true → facts_of after ≡ facts_after (Removed x (Some p)) (facts_of before)
      → ((q : ℕ) → q < 16 → has to q ≡ is_other_told (facts_of before) p q x) → ((q : ℕ) → sent_to more q ≡ sent_to sent q ++ part_to to (downs.Discard x) q)
      → (allows : Field → Bool) → PartDone allows p (ups.Drop x) before sent more (record { core = after; note = notes.Drop x Done })
  unfolding note says posts behind_all
  drop_done live facts to_is told allows =
      part_done allows p (ups.Drop x) (notes.Drop x Done) before after sent more (ap (λ b. notes.Drop x (if b then Done else Ignored)) (sym live)) config facts
      (λ q lt. to_by (has to q) (is_other_told (facts_of before) p q x) (downs.Discard x) (sent_to sent q) (sent_to more q) (told q) (to_is q lt))

pub dead_done : (p : ℕ) (x : ContextId) (before : Kept) (sent : List Posted) → (facts_of before).contexts.live x ≡ false
    → (allows : Field → Bool) → PartDone allows p (ups.Drop x) before sent sent (record { core = before; note = notes.Drop x Ignored })
unfolding note says posts behind_all
dead_done p x before sent dead allows =
    part_done allows p (ups.Drop x) (notes.Drop x Ignored) before before sent sent (ap (λ b. notes.Drop x (if b then Done else Ignored)) (sym dead)) refl refl
    (λ q lt. sym (append-nil (sent_to sent q)))

pub ack_done : (p : ℕ) (x : ContextId) (before after : Kept) (sent : List Posted) → after.config ≡ before.config → facts_of after ≡ facts_after (Acked p x) (facts_of before)
    → (allows : Field → Bool) → PartDone allows p (ups.DropAck x) before sent sent (record { core = after; note = notes.Ack x })
unfolding note says posts behind_all
ack_done p x before after sent config facts allows =
    part_done allows p (ups.DropAck x) (notes.Ack x) before after sent sent refl config facts (λ q lt. sym (append-nil (sent_to sent q)))

-- ---- commits

pub ignored_done : (allows : Field → Bool) (p : ℕ) (x : ContextId) (t : Changes) (before : Kept) (sent : List Posted) → is_judged (facts_of before) p x ≡ false
    → PartDone allows p (ups.Commit x t) before sent sent (record { core = before; note = notes.CommitIgnored x })
unfolding note says posts behind_all
ignored_done allows p x t before sent unjudged =
    part_done allows p (ups.Commit x t) (notes.CommitIgnored x) before before sent sent
    (ap (λ b. if b then notes.Commit x (field_notes allows (facts_of before) p x t) else notes.CommitIgnored x) (sym unjudged)) refl refl
    (λ q lt. sym (append-nil (sent_to sent q)))

-- by its notes, by what is applied and by what goes back
applied_done : (allows : Field → Bool) (p : ℕ) (x : ContextId) (t applied_is back_is : Changes) (before after : Kept) (sent more : List Posted)
    → is_judged (facts_of before) p x ≡ true → after.config ≡ before.config → facts_of after ≡ facts_after (Wrote x applied_is) (facts_of before)
    → applied_is ≡ changes_where (is_noted is_applied (field_notes allows (facts_of before) p x t)) t
    → back_is ≡ values_where (is_noted is_reverted (field_notes allows (facts_of before) p x t)) (facts_of before) x
    → ((q : ℕ) → q < 16 → sent_to more q ≡ sent_to sent q ++ (if q == p then commit_unless_empty x back_is else if is_told (facts_of before) q x then commit_unless_empty x applied_is else []))
    → PartDone allows p (ups.Commit x t) before sent more (record { core = after; note = notes.Commit x (field_notes allows (facts_of before) p x t) })
unfolding note says posts behind_all
applied_done allows p x t applied_is back_is before after sent more judged config facts same_applied same_back told =
    let f : Facts = facts_of before in
    let ns : List FieldNote = field_notes allows f p x t in
    part_done allows p (ups.Commit x t) (notes.Commit x ns) before after sent more
    (ap (λ b. if b then notes.Commit x ns else notes.CommitIgnored x) (sym judged)) config (facts ∙ ap (λ u. facts_after (Wrote x u) f) same_applied)
    (λ q lt. told q lt ∙ ap₂ (λ u v. sent_to sent q ++ (if q == p then commit_unless_empty x v else if is_told f q x then commit_unless_empty x u else [])) same_applied same_back)

pub commit_done : (k after : Kept) (b : Bounds) (p : ℕ) (x : ContextId) (top owns : Bool) (t applied_is back_is : Changes) (reverted : FieldSet) (m : PartNote) (sent more : List Posted)
    → is_judged (facts_of k) p x ≡ true → top ≡ is_none ((facts_of k).contexts.above x) → owns ≡ is_owner (facts_of k) p x → reverted ≡ set_of (is_reverted_in b p x top owns t)
    → m ≡ notes.Commit x (notes_with reverted t)
    → back_is ≡ map (λ fld. if has_field reverted fld then (facts_of k).contexts.value x fld else None) fields
    → applied_is ≡ map (λ fld. if has_field reverted fld then None else new_value t fld) fields
    → after.config ≡ k.config → facts_of after ≡ facts_after (Wrote x applied_is) (facts_of k)
    → ((q : ℕ) → q < 16 → sent_to more q ≡ sent_to sent q ++ (if q == p then commit_unless_empty x back_is else if is_told (facts_of k) q x then commit_unless_empty x applied_is else []))
    → PartDone (allowed_in b t) p (ups.Commit x t) k sent more (record { core = after; note = m })
commit_done k after b p x top owns t applied_is back_is reverted m sent more judged is_top owner is noted back applied_as config facts told =
    let same : notes_with reverted t ≡ field_notes (allowed_in b t) (facts_of k) p x t = notes_are k b p x top owns t reverted is_top owner is in
    subst (λ (n : PartNote). PartDone (allowed_in b t) p (ups.Commit x t) k sent more (record { core = after; note = n })) (sym (noted ∙ ap (notes.Commit x) same))
    (applied_done (allowed_in b t) p x t applied_is back_is k after sent more judged config facts
    (applied_as ∙ applied_are k b p x top owns t reverted is_top owner is ∙ ap (λ ns. applied ns t) same)
    (back ∙ back_are k b p x top owns t reverted is_top owner is ∙ ap (λ ns. values_where (is_noted is_reverted ns) (facts_of k) x) same)
    told)
