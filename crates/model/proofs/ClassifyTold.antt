-- An entry in which the parent acts, or hears another process: what it is for a process that isn't ended by it.
use Rattle.std.proofs.Common.{◌≡◌, inl, inr, ℕ, ◌+◌, ◌==◌, Bool, true, false, not, ◌&&◌, ◌||◌, if◌then◌else◌, Option, None, Some, is_some, List, [], ◌∷◌, ◌++◌, length, refl, ap, sym, subst, ◌∙◌}
use Rattle.std.specs.List.{list_any}
use Rattle.std.specs.Option.{option_map_or}
use Rattle.std.proofs.lemmas.List.{append-nil, append_assoc}
use Rattle.fission_ids.specs.declared.context.ContextId.{ContextId}
use Rattle.field_table.specs.declared.field.Field.{Field}
use Rattle.transaction.specs.Transaction.{Changes}
use Rattle.wire_msgs.specs.declared.answer.Answer.{Answer}
use Rattle.fission_ids.specs.declared.any_id.AnyId.TheVariants as ids
use Rattle.wire_msgs.specs.declared.cause.EndCause.TheVariants.{BadId}
use Rattle.wire_msgs.specs.declared.config.Config.{Config}
use Rattle.wire_msgs.specs.declared.note.Mark.TheVariants.{Done, Late, Ignored}
use Rattle.wire_msgs.specs.declared.note.PartNote.TheVariants as notes
use Rattle.wire_msgs.specs.declared.part.DownPart.{DownPart}
use Rattle.wire_msgs.specs.declared.part.DownPart.TheVariants as downs
use Rattle.wire_msgs.specs.declared.part.UpPart.{UpPart}
use Rattle.wire_msgs.specs.declared.part.UpPart.TheVariants as ups
use Rattle.protocol.specs.Questions.{Facts, is_told, is_judged, is_owner}
use Rattle.protocol.specs.Sayings.{Saying}
use Rattle.protocol.specs.Sayings.Saying.{Made, BornDead, Removed, Wrote, Acked}
use Rattle.protocol.specs.Fold.{or_later, behind_all, after_part, after_parts, first_fault, posts_of}
use Rattle.protocol.specs.Hear.{fault, note, says, posts, hear_rules, is_new_frame, is_late, is_other_told, frame_known, field_notes, changes_where, values_where, is_noted, is_applied, is_reverted, commit_unless_empty}
use Rattle.protocol.specs.Order.{in_order, parts_with_all}
use Rattle.protocol.specs.Bundle.{Ruling, ruling, bundle_for}
use Rattle.model.specs.Moments.{Moment, Written, ProcessEvent, said, ends, told, heard, sent_to, events_heard, parent_moment}
use Rattle.model.specs.Parent.{asked}
use Rattle.model.proofs.Cases.{both_true}
use Rattle.model.proofs.Entry.{Entry, IsCommitOf, PostOf}
use Rattle.model.proofs.Entry.Entry.{Tells}
use Rattle.model.proofs.Entry.Posted.{NonePosted, OnePosted}
use Rattle.model.proofs.ClassifySending.{Joinable, Tellable, joinable, behind, sending_tells, told_ends, eqb_swapped}

pub by_option : {A B : Type 0} (P : B → Type 0) (g : A → B) (o : Option A) (d : B) → ((a : A) → o ≡ Some a → P (g a)) → (o ≡ None → P d) → P (option_map_or g o d)
by_option P g None d some none = none refl
by_option P g (Some a) d some none = some a refl

-- ---- a moment that tells

pub tells_told : (c : Config) (p : ℕ) (ms : List Moment) (m : Moment) (ds sends : List DownPart) → m.did p ≡ [] → Joinable c p (said ms) m.says ds → sends ≡ in_order ds
    → m.events p ≡ ends p m.says ++ told (length ms + 1) m.says (bundle_for (asked c.tabs (m.says ++ said ms)) p sends) ∷ [] → Entry c p ms m
tells_told c p ms m ds sends did t is events = Tells ds (record {
  did = did;
  fits = t.fits;
  joins = t.joins;
  posted = t.posted;
  events =
      events ∙ ap (λ es. es ++ told (length ms + 1) m.says (bundle_for (asked c.tabs (m.says ++ said ms)) p sends) ∷ []) (told_ends c p (said ms) m.says ds t.posted)
      ∙ ap (λ sends. told (length ms + 1) m.says (bundle_for (asked c.tabs (m.says ++ said ms)) p sends) ∷ []) is;
})

-- the moment of a hear, by its ruling
abbrev pub hear_moment : Config → ℕ → List Moment → Written → Ruling (List Saying) → Moment
hear_moment c q ms w rule = record { says = rule.kept; did = λ r. []; events = events_heard c q ms w rule; answer = rule.answer }

-- the answers behind what was newly said
abbrev pub facts_behind : Config → List Moment → List Saying → Facts
facts_behind c ms says = asked c.tabs (says ++ said ms)

-- a ruling that sends to n processes
abbrev pub ruling_behind : Config → List Moment → ℕ → Answer → (ℕ → List DownPart) → List Saying → Ruling (List Saying)
ruling_behind c ms n answer sends ys = ruling (facts_behind c ms) (λ y says. y ∷ says) n answer sends ys

pub parent_joins : (c : Config) (p : ℕ) (ms : List Moment) (n : ℕ) (answer : Answer) (sends : ℕ → List DownPart) (ys : List Saying) (ds : List DownPart)
    → Joinable c p (said ms) ys ds → sends p ≡ in_order ds → Entry c p ms (parent_moment c ms (ruling_behind c ms n answer sends ys))
parent_joins c p ms n answer sends ys ds t is =
    tells_told c p ms (parent_moment c ms (ruling_behind c ms n answer sends ys)) ds (sends p) refl (sending_tells c p (said ms) ds (facts_behind c ms) n sends ys t) is refl

pub parent_tells : (c : Config) (p : ℕ) (ms : List Moment) (n : ℕ) (answer : Answer) (sends : ℕ → List DownPart) (ys : List Saying) (ds : List DownPart)
    → Tellable c p (said ms) ys ds → sends p ≡ in_order ds → Entry c p ms (parent_moment c ms (ruling_behind c ms n answer sends ys))
parent_tells c p ms n answer sends ys ds t is = parent_joins c p ms n answer sends ys ds (joinable c p (said ms) ys ds t) is

pub hear_tells : (c : Config) (p q : ℕ) (ms : List Moment) (w : Written) (n : ℕ) (answer : Answer) (sends : ℕ → List DownPart) (ys : List Saying) (ds : List DownPart)
    → (p == q) ≡ false → Tellable c p (said ms) ys ds → sends p ≡ in_order ds → Entry c p ms (hear_moment c q ms w (ruling_behind c ms n answer sends ys))
hear_tells c p q ms w n answer sends ys ds other t is =
    tells_told c p ms (hear_moment c q ms w (ruling_behind c ms n answer sends ys)) ds (sends p) refl (sending_tells c p (said ms) ds (facts_behind c ms) n sends ys (joinable c p (said ms) ys ds t)) is
    (ap (λ (b : Bool). events_if b) other)
  where
    kept : List Saying
    kept = behind (facts_behind c ms) n sends ys

    events_if : Bool → List ProcessEvent
    events_if b =
        ends p kept ++ (if b then heard (length ms + 1) w answer kept (sent_to c ms (ruling_behind c ms n answer sends ys) q)
        else told (length ms + 1) kept (bundle_for (asked c.tabs (kept ++ said ms)) p (sends p)) ∷ [])

pub nothing_tells : (c : Config) (p : ℕ) (old : List Saying) → Tellable c p old [] []
nothing_tells c p old = record { fits = tt; plain = tt; posted = NonePosted }

pub nothing_in_order : in_order [] ≡ []
unfolding parts_with_all
nothing_in_order = refl

pub one_in_order : (d : DownPart) → in_order (d ∷ []) ≡ d ∷ []
unfolding parts_with_all
one_in_order d = refl

-- ---- one part of another's bundle

create_clear : {A : Type 0} (n k a : Bool) (u v : A) → (if not n || k then Some u else if not a then Some v else None) ≡ None → (n ≡ true) × (k ≡ false) × (a ≡ true)
create_clear true true a u v e = absurd cc
create_clear true false true u v e = (refl, refl, refl)
create_clear true false false u v e = absurd cc
create_clear false k a u v e = absurd cc

pub not_false : (b : Bool) → not b ≡ false → b ≡ true
not_false true e = refl
not_false false e = absurd cc

module _ (c : Config) (allows : Field → Bool) (q p : ℕ) (old : List Saying) (other : (q == p) ≡ false) where
  -- another one is told as any subscriber
  other_told : (f : Facts) (x : ContextId) → is_other_told f q p x ≡ is_told f p x
  other_told f x = ap (λ (b : Bool). not b && is_told f p x) (eqb_swapped q p other)

  pub one_part : (n : ℕ) (a : UpPart) (ys : List Saying) (ds : List DownPart) → fault allows q n (asked c.tabs (ys ++ old)) a ≡ None → Tellable c p old ys ds
      → Tellable c p old (behind_all (λ y says. y ∷ says) (says q a (note allows q (asked c.tabs (ys ++ old)) a)) ys)
      (ds ++ posts (asked c.tabs (ys ++ old)) q a (note allows q (asked c.tabs (ys ++ old)) a) p)
  unfolding fault note says posts behind_all
  one_part n (ups.Create x a) ys ds clear t = by_late (is_late (asked c.tabs (ys ++ old)) q a) refl
    where
      f : Facts
      f = asked c.tabs (ys ++ old)

      tests : (is_new_frame q x ≡ true) × (f.contexts.known x ≡ false) × (f.contexts.known a ≡ true)
      tests = create_clear (is_new_frame q x) (f.contexts.known x) (f.contexts.known a) (BadId (ids.Context x)) (BadId (ids.Context a)) clear

      by_late : (b : Bool) → is_late f q a ≡ b
          → Tellable c p old (behind_all (λ y says. y ∷ says) (says q (ups.Create x a) (notes.Create x (if b then Late else Done))) ys)
          (ds ++ posts f q (ups.Create x a) (notes.Create x (if b then Late else Done)) p)
      by_late true e = record {
        fits = (record { frame = tests.0; new = tests.1; below = tests.2 }, t.fits);
        plain = (tt, t.plain);
        posted = OnePosted (BornDead q x a) ys ds (if p == q then downs.Discard x ∷ [] else []) t.posted other (ap (λ (b : Bool). if b then downs.Discard x ∷ [] else []) (eqb_swapped q p other));
      }
      by_late false e =
          let both : (f.contexts.live a ≡ true) × (is_owner f q a ≡ true) = both_true (f.contexts.live a) (is_owner f q a) (not_false (f.contexts.live a && is_owner f q a) e) in
          record {
            fits = (record { frame = tests.0; new = tests.1; live = both.0; owner = both.1 }, t.fits);
            plain = (tt, t.plain);
            posted = OnePosted (Made q x a) ys ds (if is_other_told f q p a then downs.Create (frame_known f x a) ∷ [] else []) t.posted other
                (ap (λ (b : Bool). if b then downs.Create (frame_known f x a) ∷ [] else []) (other_told f a));
          }
  one_part n (ups.Drop x) ys ds clear t = by_live ((asked c.tabs (ys ++ old)).contexts.live x) refl
    where
      f : Facts
      f = asked c.tabs (ys ++ old)

      by_live : (b : Bool) → f.contexts.live x ≡ b
          → Tellable c p old (behind_all (λ y says. y ∷ says) (says q (ups.Drop x) (notes.Drop x (if b then Done else Ignored))) ys)
          (ds ++ posts f q (ups.Drop x) (notes.Drop x (if b then Done else Ignored)) p)
      by_live true e = record {
        fits = (e, t.fits);
        plain = (tt, t.plain);
        posted = OnePosted (Removed x (Some q)) ys ds (if is_other_told f q p x then downs.Discard x ∷ [] else []) t.posted tt
            (ap (λ (b : Bool). if b then downs.Discard x ∷ [] else []) (other_told f x));
      }
      by_live false e = subst (Tellable c p old ys) (sym (append-nil ds)) t
  one_part n (ups.DropAck x) ys ds clear t = record { fits = (tt, t.fits); plain = (tt, t.plain); posted = OnePosted (Acked q x) ys ds [] t.posted tt refl }
  one_part n (ups.Commit x t) ys ds clear tl = by_judged (is_judged (asked c.tabs (ys ++ old)) q x) refl
    where
      f : Facts
      f = asked c.tabs (ys ++ old)

      u : Changes
      u = changes_where (is_noted is_applied (field_notes allows f q x t)) t

      by_some : (b : Bool) → list_any is_some u ≡ b → IsCommitOf x u (if b then downs.Commit x u ∷ [] else [])
      by_some true e = inl refl
      by_some false e = inr (refl, e)

      by_told : (b : Bool) → is_told f p x ≡ b → PostOf f p (Wrote x u) (if b then commit_unless_empty x u else [])
      by_told true e = inl (e, by_some (list_any is_some u) refl)
      by_told false e = inr (e, refl)

      back : List DownPart
      back = commit_unless_empty x (values_where (is_noted is_reverted (field_notes allows f q x t)) f x)

      by_judged : (b : Bool) → is_judged f q x ≡ b
          → Tellable c p old (behind_all (λ y says. y ∷ says) (says q (ups.Commit x t) (if b then notes.Commit x (field_notes allows f q x t) else notes.CommitIgnored x)) ys)
          (ds ++ posts f q (ups.Commit x t) (if b then notes.Commit x (field_notes allows f q x t) else notes.CommitIgnored x) p)
      by_judged true e = record {
        fits = ((both_true (f.contexts.live x) (is_told f q x) e).0, tl.fits);
        plain = (tt, tl.plain);
        posted = OnePosted (Wrote x u) ys ds (if p == q then back else if is_told f p x then commit_unless_empty x u else []) tl.posted tt
            (subst (λ (b : Bool). PostOf f p (Wrote x u) (if b then back else if is_told f p x then commit_unless_empty x u else [])) (sym (eqb_swapped q p other)) (by_told (is_told f p x) refl));
      }
      by_judged false e = subst (Tellable c p old ys) (sym (append-nil ds)) tl
  one_part n (_) ys ds clear t = subst (Tellable c p old ys) (sym (append-nil ds)) t

  -- ---- all of them

  first_clear : {A : Type 0} (o r : Option A) → or_later o r ≡ None → (o ≡ None) × (r ≡ None)
  first_clear None r e = (refl, e)
  first_clear (Some a) r e = absurd cc

  pub all_parts : (n : ℕ) (parts : List UpPart) (ys : List Saying) (ds : List DownPart) → first_fault (hear_rules allows q q) (λ ys. asked c.tabs (ys ++ old)) (λ y says. y ∷ says) n ys parts ≡ None → Tellable c p old ys ds
      → Tellable c p old (after_parts (hear_rules allows q q) (λ ys. asked c.tabs (ys ++ old)) (λ y says. y ∷ says) ys parts)
      (ds ++ posts_of (hear_rules allows q p) (λ ys. asked c.tabs (ys ++ old)) (λ y says. y ∷ says) ys parts)
  unfolding first_fault after_parts posts_of
  all_parts n [] ys ds clear t = subst (Tellable c p old ys) (sym (append-nil ds)) t
  all_parts n (a ∷ parts) ys ds clear t =
      let both : (fault allows q n (asked c.tabs (ys ++ old)) a ≡ None) × (first_fault (hear_rules allows q q) (λ ys. asked c.tabs (ys ++ old)) (λ y says. y ∷ says) (n + 1)
      (after_part (hear_rules allows q q) (λ ys. asked c.tabs (ys ++ old)) (λ y says. y ∷ says) a ys) parts ≡ None) =
      first_clear (fault allows q n (asked c.tabs (ys ++ old)) a)
      (first_fault (hear_rules allows q q) (λ ys. asked c.tabs (ys ++ old)) (λ y says. y ∷ says) (n + 1) (after_part (hear_rules allows q q) (λ ys. asked c.tabs (ys ++ old)) (λ y says. y ∷ says) a ys) parts) clear in
      let one : List DownPart = posts (asked c.tabs (ys ++ old)) q a (note allows q (asked c.tabs (ys ++ old)) a) p in
      let zs : List Saying = after_part (hear_rules allows q q) (λ ys. asked c.tabs (ys ++ old)) (λ y says. y ∷ says) a ys in
      subst (Tellable c p old (after_parts (hear_rules allows q q) (λ ys. asked c.tabs (ys ++ old)) (λ y says. y ∷ says) zs parts))
      (append_assoc ds one (posts_of (hear_rules allows q p) (λ ys. asked c.tabs (ys ++ old)) (λ y says. y ∷ says) zs parts))
      (all_parts (n + 1) parts zs (ds ++ one) both.1 (one_part n a ys ds both.0 t))
