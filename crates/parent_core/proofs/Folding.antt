-- The parts of a bundle without fault, one after the other.
use Rattle.std.proofs.Common.{◌≡◌, ℕ, ◌+◌, ◌<◌, ◌==◌, nat_lt, Bool, true, false, not, ◌&&◌, ◌||◌, if◌then◌else◌, Option, None, Some, List, [], ◌∷◌, ◌++◌, refl, sym, ap, ap₂, subst, ◌∙◌}
use Rattle.std.proofs.Common.{append_assoc}
use Rattle.std.proofs.lemmas.List.{append-nil}
use Rattle.std.specs.List.{AllByRecursion, list_any}
use Rattle.std.specs.Option.{option_map}
use Rattle.field_table.specs.declared.field.Field.{Field}
use Rattle.transaction.specs.Transaction.{Changes}
use Rattle.field_rules.specs.Bounds.{Bounds}
use Rattle.wire_msgs.specs.declared.bundle.UpBundle.{UpBundle}
use Rattle.wire_msgs.specs.declared.cause.EndCause.{EndCause}
use Rattle.wire_msgs.specs.declared.cause.EndCause.TheVariants.{Failed, BadEpoch, BadStamp, BadPart}
use Rattle.wire_msgs.specs.declared.note.Mark.TheVariants.{Done, Late}
use Rattle.wire_msgs.specs.declared.note.PartNote.{PartNote}
use Rattle.wire_msgs.specs.declared.note.PartNote.TheVariants as notes
use Rattle.wire_msgs.specs.declared.part.UpPart.{UpPart}
use Rattle.wire_msgs.specs.declared.part.UpPart.TheVariants as ups
use Rattle.protocol.specs.Questions.{Facts, Processes}
use Rattle.protocol.specs.Fold.{or_later, behind_all, after_part, after_parts, first_fault, notes_of, posts_of}
use Rattle.protocol.specs.FactsAfter.{facts_after}
use Rattle.protocol.specs.Hear.{hear_rules, fault, note, says, posts}
use Rattle.protocol.specs.Order.{first_misplaced, is_empty, is_gone, is_misplaced, up_rank}
use Rattle.protocol.specs.Outside.{allowed_in, changes_in}
use Rattle.protocol.specs.Bundle.{envelope_fault, due, is_end}
use Rattle.parent_core.specs.Parent.{Kept, facts_of}
use Rattle.parent_core.specs.Posts.{Posted, sent_to}
use Rattle.protocol.specs.Played.{IsPlayed}
use Rattle.parent_core.specs.Heard.{AllCommit, PartDone, PartsDone, allowed_of_part}
use Rattle.parent_core.specs.declared.parts.PartHeard.{PartHeard}
use Rattle.parent_core.specs.declared.hearing.PartsHeard.{PartsHeard}

-- ---- a bundle in order has one commit

or_true : (b : Bool) → (b || true) ≡ true
or_true true = refl
or_true false = refl

else_none : {X : Type 0} (b : Bool) (x : X) (o : Option X) → (if b then Some x else o) ≡ None → o ≡ None
else_none true x o e = absurd cc
else_none false x o e = e

abbrev has_commit : List ℕ → Bool
has_commit before = list_any (λ r. r == 6) before

misplaced_in : (a b c : Bool) (m : Bool) → (b || c) ≡ true → (c ≡ true → m ≡ true) → ((a || b || false) || m) ≡ true
misplaced_in true b c m e rest = refl
misplaced_in false true c m e rest = refl
misplaced_in false false c m e rest = rest e

commit_misplaced : (before : List ℕ) → has_commit before ≡ true → is_misplaced before 6 ≡ true
commit_misplaced [] e = absurd cc
commit_misplaced (r ∷ before) e = misplaced_in (nat_lt 6 r) (r == 6) (has_commit before) (is_misplaced before 6) e (commit_misplaced before)

-- behind a commit there is none
none_behind : (n : ℕ) (before : List ℕ) (parts : List UpPart) (u : Changes) → has_commit before ≡ true → first_misplaced n before parts ≡ None → AllCommit u parts
unfolding first_misplaced
none_behind n before [] u has e = tt
none_behind n before (ups.Commit x t ∷ parts) u has e = absurd (some_none (ap (λ b. if b || false then Some n else first_misplaced (n + 1) (6 ∷ before) parts) (sym (commit_misplaced before has)) ∙ e))
  where
    some_none : Some n ≡ None → ⊥
    some_none x = absurd cc
none_behind n before (a ∷ parts) u has e =
    none_behind (n + 1) (up_rank a ∷ before) parts u (ap (λ b. (up_rank a == 6) || b) has ∙ or_true (up_rank a == 6))
    (else_none (is_misplaced before (up_rank a) || (is_gone a && not (is_empty parts))) n (first_misplaced (n + 1) (up_rank a ∷ before) parts) e)

one_commit : (n : ℕ) (before : List ℕ) (parts : List UpPart) → first_misplaced n before parts ≡ None → AllCommit (changes_in parts) parts
unfolding first_misplaced
one_commit n before [] e = tt
one_commit n before (ups.Commit x t ∷ parts) e =
    (refl, none_behind (n + 1) (6 ∷ before) parts t refl (else_none (is_misplaced before 6 || false) n (first_misplaced (n + 1) (6 ∷ before) parts) e))
one_commit n before (a ∷ parts) e =
    one_commit (n + 1) (up_rank a ∷ before) parts
    (else_none (is_misplaced before (up_rank a) || (is_gone a && not (is_empty parts))) n (first_misplaced (n + 1) (up_rank a ∷ before) parts) e)

placed : (f : Facts) (p : ℕ) (b : UpBundle) → envelope_fault f p b ≡ None → first_misplaced 1 [] b.parts ≡ None
unfolding envelope_fault
placed f p b e =
    let late : Option EndCause = option_map BadPart (first_misplaced 1 [] b.parts) in
    let stamp : Option EndCause = if nat_lt (f.processes.bundles_sent p) b.seen then Some (BadStamp b.seen (f.processes.bundles_sent p)) else late in
    let epoch : Option EndCause = if not (b.epoch.0 == due f p b.parts) then Some (BadEpoch b.epoch (record { 0 = due f p b.parts })) else stamp in
    by (first_misplaced 1 [] b.parts) (else_none (nat_lt (f.processes.bundles_sent p) b.seen) (BadStamp b.seen (f.processes.bundles_sent p)) late
    (else_none (not (b.epoch.0 == due f p b.parts)) (BadEpoch b.epoch (record { 0 = due f p b.parts })) stamp (else_none (is_end b.parts) Failed epoch e)))
  where
    by : (o : Option ℕ) → option_map BadPart o ≡ None → o ≡ None
    by None e = refl
    by (Some n) e = absurd cc

pub commits_alike : (f : Facts) (p : ℕ) (b : UpBundle) → envelope_fault f p b ≡ None → AllCommit (changes_in b.parts) b.parts
commits_alike f p b e = one_commit 1 [] b.parts (placed f p b e)

-- ---- what is allowed of a part is what is allowed of the bundle

module _ (b : Bounds) (u : Changes) (p : ℕ) (f : Facts) where
  note_alike : (a : UpPart) (parts : List UpPart) → AllCommit u (a ∷ parts) → note (allowed_of_part b a) p f a ≡ note (allowed_in b u) p f a
  unfolding note
  note_alike (ups.Commit x t) parts all = ap (λ (v : Changes). note (allowed_in b v) p f (ups.Commit x t)) all.0
  note_alike a parts all = refl

  fault_alike : (n : ℕ) (a : UpPart) (parts : List UpPart) → AllCommit u (a ∷ parts) → fault (allowed_of_part b a) p n f a ≡ fault (allowed_in b u) p n f a
  unfolding fault
  fault_alike n (ups.Commit x t) parts all = ap (λ (v : Changes). fault (allowed_in b v) p n f (ups.Commit x t)) all.0
  fault_alike n a parts all = refl

rest_commit : (u : Changes) (a : UpPart) (parts : List UpPart) → AllCommit u (a ∷ parts) → AllCommit u parts
rest_commit u (ups.Commit x t) parts all = all.1
rest_commit u a parts all = all

-- ---- each part has no fault, whatever its number

pub later_none : {X : Type 0} (o l : Option X) → or_later o l ≡ None → (o ≡ None) × (l ≡ None)
later_none None l e = (refl, e)
later_none (Some x) l e = absurd cc

fault_at : (allows : Field → Bool) (p n m : ℕ) (f : Facts) (a : UpPart) → fault allows p n f a ≡ fault allows p m f a
unfolding fault
fault_at allows p n m f (ups.Create x above) = refl
fault_at allows p n m f (ups.Drop x) = refl
fault_at allows p n m f (ups.Commit x t) = refl
fault_at allows p n m f a = refl

module _ (allows : Field → Bool) (p : ℕ) where
  any_number : (n m : ℕ) (f : Facts) (parts : List UpPart) → first_fault (hear_rules allows p p) (λ f. f) facts_after n f parts ≡ None
      → first_fault (hear_rules allows p p) (λ f. f) facts_after m f parts ≡ None
  unfolding first_fault
  any_number n m f [] e = refl
  any_number n m f (a ∷ parts) e =
      let both = later_none (fault allows p n f a) (first_fault (hear_rules allows p p) (λ f. f) facts_after (n + 1) (after_part (hear_rules allows p p) (λ f. f) facts_after a f) parts) e in
      ap₂ or_later (fault_at allows p m n f a ∙ both.0) (any_number (n + 1) (m + 1) (after_part (hear_rules allows p p) (λ f. f) facts_after a f) parts both.1)

-- ---- what a part comes to keeps the counts and the ends

says_keep : (p : ℕ) (a : UpPart) (m : PartNote) (f : Facts) → (behind_all facts_after (says p a m) f).processes ≡ f.processes
unfolding says behind_all facts_after
says_keep p (ups.Create x above) (notes.Create y Done) f = refl
says_keep p (ups.Create x above) (notes.Create y Late) f = refl
says_keep p (ups.Drop x) (notes.Drop y Done) f = refl
says_keep p (ups.DropAck x) (notes.Ack y) f = refl
says_keep p (ups.Commit x t) (notes.Commit y ns) f = refl
says_keep p a m f = refl

-- ---- the loop

-- the rest of the parts leads from what is there to what all parts come to
pub record Goes (b : Bounds) (p : ℕ) (u : Changes) (before : Kept) (all : List UpPart) (now : Kept) (rest : List UpPart) (ns : List PartNote) (ps : List Posted) : Type 0 where
  pub config : now.config ≡ before.config
  pub processes : (facts_of now).processes ≡ (facts_of before).processes
  pub facts : after_parts (hear_rules (allowed_in b u) p p) (λ f. f) facts_after (facts_of now) rest
      ≡ after_parts (hear_rules (allowed_in b u) p p) (λ f. f) facts_after (facts_of before) all
  pub notes : ns ++ notes_of (hear_rules (allowed_in b u) p p) (λ f. f) facts_after (facts_of now) rest
      ≡ notes_of (hear_rules (allowed_in b u) p p) (λ f. f) facts_after (facts_of before) all
  pub posts : (q : ℕ) → q < 16 → sent_to ps q ++ posts_of (hear_rules (allowed_in b u) p q) (λ f. f) facts_after (facts_of now) rest
      ≡ posts_of (hear_rules (allowed_in b u) p q) (λ f. f) facts_after (facts_of before) all
  pub faultless : (n : ℕ) → first_fault (hear_rules (allowed_in b u) p p) (λ f. f) facts_after n (facts_of now) rest ≡ None
  pub played : AllByRecursion IsPlayed rest
  pub commits : AllCommit u rest

pub goes_start : (b : Bounds) (p : ℕ) (u : Changes) (before : Kept) (all rest : List UpPart) (ns : List PartNote) (ps : List Posted) → rest ≡ all → ns ≡ [] → ps ≡ []
    → first_fault (hear_rules (allowed_in b u) p p) (λ f. f) facts_after 1 (facts_of before) all ≡ None → AllByRecursion IsPlayed all → AllCommit u all
    → Goes b p u before all before rest ns ps
goes_start b p u before all rest ns ps all_left none_noted none_posted faultless played commits =
    subst (λ (us : List UpPart). Goes b p u before all before us ns ps) (sym all_left) (record {
      config = refl;
      processes = refl;
      facts = refl;
      notes = ap (λ ms. ms ++ notes_of (hear_rules (allowed_in b u) p p) (λ f. f) facts_after (facts_of before) all) none_noted;
      posts = λ q lt. ap (λ (qs : List Posted). sent_to qs q ++ posts_of (hear_rules (allowed_in b u) p q) (λ f. f) facts_after (facts_of before) all) none_posted;
      faultless = λ n. any_number (allowed_in b u) p 1 n (facts_of before) all faultless;
      played = played;
      commits = commits;
    })

module _ (b : Bounds) (p : ℕ) (u : Changes) (before : Kept) (all : List UpPart) (now : Kept) (rest : List UpPart) (ns : List PartNote) (ps : List Posted) (goes : Goes b p u before all now rest ns ps) where
  -- the next part may be done
  module _ (a : UpPart) (parts : List UpPart) (is : rest ≡ a ∷ parts) where
    commits_here : AllCommit u (a ∷ parts)
    commits_here = subst (AllCommit u) is goes.commits

    faultless_here : (n : ℕ) → (fault (allowed_in b u) p n (facts_of now) a ≡ None)
        × (first_fault (hear_rules (allowed_in b u) p p) (λ f. f) facts_after (n + 1) (after_part (hear_rules (allowed_in b u) p p) (λ f. f) facts_after a (facts_of now)) parts ≡ None)
    unfolding first_fault
    faultless_here n =
        later_none (fault (allowed_in b u) p n (facts_of now) a)
        (first_fault (hear_rules (allowed_in b u) p p) (λ f. f) facts_after (n + 1) (after_part (hear_rules (allowed_in b u) p p) (λ f. f) facts_after a (facts_of now)) parts)
        (sym (ap (first_fault (hear_rules (allowed_in b u) p p) (λ f. f) facts_after n (facts_of now)) is) ∙ goes.faultless n)

    pub next_faultless : (n : ℕ) → fault (allowed_of_part b a) p n (facts_of now) a ≡ None
    next_faultless n = fault_alike b u p (facts_of now) n a parts commits_here ∙ (faultless_here n).0

    pub next_played : IsPlayed a
    next_played = (subst (AllByRecursion IsPlayed) is goes.played).0

    pub next_runs : (facts_of before).processes.ended p ≡ None → (facts_of now).processes.ended p ≡ None
    next_runs runs = ap (λ (ps : Processes). ps.ended p) goes.processes ∙ runs

    -- and then the rest goes on
    pub goes_next : (heard : PartHeard) (ms : List PartNote) (qs : List Posted) → PartDone (allowed_of_part b a) p a now ps qs heard → ms ≡ ns ++ heard.note ∷ []
        → Goes b p u before all heard.core parts ms qs
    unfolding after_parts notes_of posts_of
    goes_next heard ms qs done noted =
        let f : Facts = facts_of now in
        let allows : Field → Bool = allowed_in b u in
        let m : PartNote = note allows p f a in
        let next : Facts = behind_all facts_after (says p a m) f in
        let same : heard.note ≡ m = done.note ∙ note_alike b u p f a parts commits_here in
        let behind : facts_of heard.core ≡ next = done.facts ∙ ap (λ n. behind_all facts_after (says p a n) f) (note_alike b u p f a parts commits_here) in
        record {
          config = done.config ∙ goes.config;
          processes = ap (λ (g : Facts). g.processes) behind ∙ says_keep p a m f ∙ goes.processes;
          facts =
              ap (λ (g : Facts). after_parts (hear_rules allows p p) (λ f. f) facts_after g parts) behind
              ∙ sym (ap (after_parts (hear_rules allows p p) (λ f. f) facts_after f) is) ∙ goes.facts;
          notes =
              ap₂ (λ (xs : List PartNote) (g : Facts). xs ++ notes_of (hear_rules allows p p) (λ f. f) facts_after g parts) (noted ∙ ap (λ n. ns ++ n ∷ []) same) behind
              ∙ append_assoc ns (m ∷ []) (notes_of (hear_rules allows p p) (λ f. f) facts_after next parts)
              ∙ sym (ap (λ (us : List UpPart). ns ++ notes_of (hear_rules allows p p) (λ f. f) facts_after f us) is) ∙ goes.notes;
          posts = λ q lt.
              let here = posts f p a m q in
              let later = posts_of (hear_rules allows p q) (λ f. f) facts_after next parts in
              ap₂ (λ ds (g : Facts). ds ++ posts_of (hear_rules allows p q) (λ f. f) facts_after g parts) (done.posts q lt ∙ ap (λ n. sent_to ps q ++ posts f p a n q) same) behind
              ∙ append_assoc (sent_to ps q) here later
              ∙ sym (ap (λ (us : List UpPart). sent_to ps q ++ posts_of (hear_rules allows p q) (λ f. f) facts_after f us) is) ∙ goes.posts q lt;
          faultless = λ n.
              any_number allows p 2 n (facts_of heard.core) parts
              (ap (λ (g : Facts). first_fault (hear_rules allows p p) (λ f. f) facts_after 2 g parts) behind ∙ (faultless_here 1).1);
          played = (subst (AllByRecursion IsPlayed) is goes.played).1;
          commits = rest_commit u a parts commits_here;
        }

  -- at the end all parts are done
  pub goes_end : (heard : PartsHeard) → rest ≡ [] → heard.core ≡ now → heard.notes.items ≡ ns → heard.posts.items ≡ ps → PartsDone (allowed_in b u) p all before heard
  unfolding after_parts notes_of posts_of
  goes_end heard is core noted posted =
      let f : Facts = facts_of now in
      let allows : Field → Bool = allowed_in b u in
      record {
        config = ap (λ (k : Kept). k.config) core ∙ goes.config;
        facts = ap facts_of core ∙ sym (ap (after_parts (hear_rules allows p p) (λ f. f) facts_after f) is) ∙ goes.facts;
        notes = noted ∙ sym (append-nil ns) ∙ sym (ap (λ (us : List UpPart). ns ++ notes_of (hear_rules allows p p) (λ f. f) facts_after f us) is) ∙ goes.notes;
        posts = λ q lt.
            ap (λ (qs : List Posted). sent_to qs q) posted ∙ sym (append-nil (sent_to ps q))
            ∙ sym (ap (λ (us : List UpPart). sent_to ps q ++ posts_of (hear_rules allows p q) (λ f. f) facts_after f us) is) ∙ goes.posts q lt;
      }

-- what all parts come to keeps the counts and the ends
pub parts_keep : (allows : Field → Bool) (p : ℕ) (f : Facts) (parts : List UpPart) → (after_parts (hear_rules allows p p) (λ f. f) facts_after f parts).processes ≡ f.processes
unfolding after_parts
parts_keep allows p f [] = refl
parts_keep allows p f (a ∷ parts) =
    parts_keep allows p (after_part (hear_rules allows p p) (λ f. f) facts_after a f) parts ∙ says_keep p a (note allows p f a) f
