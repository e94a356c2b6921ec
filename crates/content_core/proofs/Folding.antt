-- The parts of a bundle, one after the other.
use Rattle.std.proofs.Common.{◌≡◌, ◌∙◌, refl, sym, ap, ap₂, ℕ, suc, zero, ◌+◌, ◌<◌, ◌≤◌, if◌then◌else◌, List, [], ◌∷◌, ◌++◌, length, get_or, drop, arith, append_assoc, append-nil}
use Rattle.std.proofs.lemmas.List.{drop_more, drop_all}
use Rattle.std.specs.List.{list_any, AllByRecursion}
use Rattle.wire_msgs.specs.declared.answer.Answer.TheVariants.{Parts}
use Rattle.wire_msgs.specs.declared.bundle.DownBundle.{DownBundle}
use Rattle.wire_msgs.specs.declared.note.PartNote.{PartNote}
use Rattle.wire_msgs.specs.declared.part.DownPart.{DownPart}
use Rattle.wire_msgs.specs.declared.part.UpPart.{UpPart}
use Rattle.protocol.specs.Seen.{Seen}
use Rattle.protocol.specs.Seen.Doing.{Took}
use Rattle.protocol.specs.SeenAfter.{seen_after}
use Rattle.protocol.specs.Fold.{after_part, after_parts, notes_of, posts_of}
use Rattle.protocol.specs.Take as taking
use Rattle.protocol.specs.Take.{take_rules, bundle_step, bundle_sent, is_kill}
use Rattle.content_core.specs.Content.{Kept, IsWhole, seen_of}
use Rattle.content_core.specs.Held.{TakesPart, TakesParts}
use Rattle.content_core.specs.Moved.{MovedBy}
use Rattle.content_core.specs.Steps.{acks_of, sends_of}
use Rattle.content_core.specs.declared.moved.Moved.{Moved}

-- what holds of each holds of the one at an index
pub all_at : {A : Type 0} (P : A → Type 0) (xs : List A) (i : ℕ) (d : A) → AllByRecursion P xs → i < length xs → P (get_or xs i d)
all_at P [] i d all within = absurd (omega (arith, within))
all_at P (x ∷ xs) zero d all within = all.0
all_at P (x ∷ xs) (suc i) d all within = all_at P xs i d all.1 (omega (arith, within))

module _ (p e : ℕ) where
  abbrev kept_behind : Seen → List DownPart → Seen
  kept_behind s parts = after_parts (take_rules p e) (λ q. q) (seen_after p) s parts

  abbrev told_of : Seen → List DownPart → List PartNote
  told_of s parts = notes_of (take_rules p e) (λ q. q) (seen_after p) s parts

  module _ (parts : List DownPart) (i : ℕ) (d : DownPart) (s new : Seen) (within : i < length parts)
      (behind : new ≡ after_part (take_rules p e) (λ q. q) (seen_after p) (get_or parts i d) s)
    where
      pub kept_next : (end : Seen) → kept_behind s (drop i parts) ≡ end → kept_behind new (drop (i + 1) parts) ≡ end
      unfolding after_parts
      kept_next end so_far =
          ap (λ (q : Seen). kept_behind q (drop (i + 1) parts)) behind
          ∙ sym (ap (kept_behind s) (drop_more parts i d within)) ∙ so_far

      pub told_next : (told : List PartNote) (note : PartNote) (all : List PartNote) → note ≡ (take_rules p e).note s (get_or parts i d)
          → told ++ told_of s (drop i parts) ≡ all → (told ++ note ∷ []) ++ told_of new (drop (i + 1) parts) ≡ all
      unfolding notes_of
      told_next told note all is so_far =
          append_assoc told (note ∷ []) (told_of new (drop (i + 1) parts))
          ∙ ap₂ (λ (n : PartNote) (q : Seen). told ++ n ∷ told_of q (drop (i + 1) parts)) is behind
          ∙ sym (ap (λ (ds : List DownPart). told ++ told_of s ds) (drop_more parts i d within)) ∙ so_far

  module _ (parts : List DownPart) (i : ℕ) (s : Seen) (past : length parts ≤ i) where
    pub kept_last : (end : Seen) → kept_behind s (drop i parts) ≡ end → s ≡ end
    unfolding after_parts
    kept_last end so_far = sym (ap (kept_behind s) (drop_all i parts past)) ∙ so_far

    pub told_last : (told all : List PartNote) → told ++ told_of s (drop i parts) ≡ all → told ≡ all
    unfolding notes_of
    told_last told all so_far = sym (append-nil told) ∙ sym (ap (λ (ds : List DownPart). told ++ told_of s ds) (drop_all i parts past)) ∙ so_far

  -- what the parts send doesn't rest on what is kept
  pub posts_are : (s : Seen) (parts : List DownPart) → acks_of parts ≡ posts_of (take_rules p e) (λ q. q) (seen_after p) s parts
  unfolding posts_of
  posts_are s [] = refl
  posts_are s (a ∷ parts) = ap (λ (us : List UpPart). taking.posts a ++ us) (posts_are (after_part (take_rules p e) (λ q. q) (seen_after p) a s) parts)

-- ---- so many of the parts are taken

pub record IsAt (parts : List DownPart) (i e : ℕ) (told : List PartNote) (old now : Kept) : Type 0 where
  pub process : now.process ≡ old.process
  pub taken : now.taken ≡ old.taken
  pub whole : IsWhole now
  pub kept : kept_behind old.process e (seen_of now) (drop i parts) ≡ kept_behind old.process e (seen_of old) parts
  pub all_told : told ++ told_of old.process e (seen_of now) (drop i parts) ≡ told_of old.process e (seen_of old) parts

pub at_first : (parts : List DownPart) (e : ℕ) (old : Kept) → IsWhole old → IsAt parts 0 e [] old old
at_first parts e old whole = record { process = refl; taken = refl; whole = whole; kept = refl; all_told = refl }

pub at_next : (parts : List DownPart) (i e : ℕ) (told : List PartNote) (old now next : Kept) (d : DownPart) (note : PartNote) → i < length parts
    → IsAt parts i e told old now → TakesPart (get_or parts i d) e note now next → IsAt parts (i + 1) e (told ++ note ∷ []) old next
at_next parts i e told old now next d note within at takes =
    let p : ℕ = old.process in
    let behind : seen_of next ≡ after_part (take_rules p e) (λ q. q) (seen_after p) (get_or parts i d) (seen_of now) =
    takes.seen ∙ ap (λ (q : ℕ). after_part (take_rules q e) (λ r. r) (seen_after q) (get_or parts i d) (seen_of now)) at.process in
    let note_is : note ≡ (take_rules p e).note (seen_of now) (get_or parts i d) =
    takes.note ∙ ap (λ (q : ℕ). (take_rules q e).note (seen_of now) (get_or parts i d)) at.process in
    record {
      process = takes.process ∙ at.process;
      taken = takes.taken ∙ at.taken;
      whole = takes.whole;
      kept = kept_next p e parts i d (seen_of now) (seen_of next) within behind _ at.kept;
      all_told = told_next p e parts i d (seen_of now) (seen_of next) within behind told note _ note_is at.all_told;
    }

pub at_last : (parts : List DownPart) (i e : ℕ) (told : List PartNote) (old now : Kept) → length parts ≤ i → IsAt parts i e told old now → TakesParts parts e told old now
at_last parts i e told old now past at = record {
  process = at.process;
  taken = at.taken;
  seen = kept_last old.process e parts i (seen_of now) past _ at.kept;
  notes = told_last old.process e parts i (seen_of now) past told _ at.all_told;
  whole = at.whole;
}

-- ---- the whole bundle

pub moved-taken : (old new : Kept) (b : DownBundle) (told : List PartNote) (sends : List UpPart) (m : Moved) → TakesParts b.parts b.epoch.0 told old new
    → sends ≡ sends_of b.parts → m.core ≡ record new { taken = new.taken + 1 } → m.answer ≡ Parts told
    → m.sent ≡ bundle_sent (seen_of (record new { taken = new.taken + 1 })) sends
    → MovedBy old (bundle_step (λ s. s) (seen_after old.process) old.process b (seen_of old)) m
unfolding seen_after
moved-taken old new b told sends m takes sends_are core answer sent =
    let p : ℕ = old.process in
    let behind : seen_of (record new { taken = new.taken + 1 }) ≡ seen_after p Took (after_parts (take_rules p b.epoch.0) (λ s. s) (seen_after p) (seen_of old) b.parts) =
    ap (seen_after p Took) takes.seen in
    let posts : sends ≡ (if list_any is_kill b.parts then [] else posts_of (take_rules p b.epoch.0) (λ s. s) (seen_after p) (seen_of old) b.parts) =
    sends_are ∙ ap (λ (us : List UpPart). if list_any is_kill b.parts then [] else us) (posts_are p b.epoch.0 (seen_of old) b.parts) in
    record {
      process = ap (λ (k : Kept). k.process) core ∙ takes.process;
      seen = ap seen_of core ∙ behind;
      answer = answer ∙ ap Parts takes.notes;
      sent = sent ∙ ap₂ bundle_sent behind posts;
    }
