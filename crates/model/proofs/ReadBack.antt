-- What the functions of the outside allowed is read back from the notes: a step comes to the same by them.
use Rattle.std.proofs.Common.{◌≡◌, ℕ, ◌+◌, ◌==◌, nat_lt, Bool, true, false, ◌&&◌, ◌||◌, not, if◌then◌else◌, Option, None, Some, List, [], ◌∷◌, ◌++◌, length, refl, ap, sym, ◌∙◌, eqb-true}
use Rattle.std.proofs.Math.Path.{fun_ext}
use Rattle.std.specs.Prelude.{is_some}
use Rattle.std.specs.List.{list_any}
use Rattle.std.specs.Option.{option_map, option_map_or}
use Rattle.fission_ids.specs.declared.context.ContextId.{ContextId}
use Rattle.field_table.specs.declared.field.Field.{Field}
use Rattle.transaction.specs.Transaction.{Changes}
use Rattle.field_rules.specs.Bounds.{Bounds}
use Rattle.wire_msgs.specs.declared.answer.Answer.TheVariants.{Ignored, Parts}
use Rattle.wire_msgs.specs.declared.bundle.UpBundle.{UpBundle}
use Rattle.wire_msgs.specs.declared.cause.EndCause.{EndCause}
use Rattle.wire_msgs.specs.declared.cause.EndCause.TheVariants.{BadEpoch, BadStamp, BadPart, Failed}
use Rattle.wire_msgs.specs.declared.config.Config.{Config}
use Rattle.wire_msgs.specs.declared.note.PartNote.{PartNote}
use Rattle.wire_msgs.specs.declared.note.PartNote.TheVariants as notes
use Rattle.wire_msgs.specs.declared.part.DownPart.{DownPart}
use Rattle.wire_msgs.specs.declared.part.UpPart.{UpPart}
use Rattle.wire_msgs.specs.declared.part.UpPart.TheVariants as ups
use Rattle.journal.specs.Step.{StepFits}
use Rattle.journal.specs.declared.entry.Step.{Step}
use Rattle.journal.specs.declared.entry.Step.TheVariants.{Act, Take, Raw as RawStep, ParentAct, Hear}
use Rattle.protocol.specs.Questions.{Facts, is_judged}
use Rattle.protocol.specs.Fold.{or_later, behind_all, after_parts, first_fault, notes_of, posts_of}
use Rattle.protocol.specs.Hear.{denial, field_notes, hear_rules, fault, note, says}
use Rattle.protocol.specs.Order.{up_rank, is_single, is_misplaced, is_gone, is_empty, first_misplaced, in_order}
use Rattle.protocol.specs.Outside.{applied_in, told_allowed}
use Rattle.protocol.specs.Sayings.{Saying}
use Rattle.protocol.specs.Sayings.Saying.{Counted}
use Rattle.protocol.specs.Bundle.{Ruling, is_end, due, is_counted, envelope_fault, ruling, end_ruling, parts_ruling, bundle_ruling}
use Rattle.protocol.proofs.Judging.{denied_is, notes_again}
use Rattle.traces.specs.Links.{writes_waiting}
use Rattle.model.specs.Laws.{RunFits}
use Rattle.model.specs.Moments.{Moment, Written, said, events_of, events_heard, bundle_moment, heard_moment, moment, moments_of}
use Rattle.model.specs.Moments.Written.{Own, Raw, Said}
use Rattle.model.specs.Next.{Run, moment_after, allowed_by, run_after}
use Rattle.model.specs.Parent.{asked}

-- ---- where parts stand

either_none : {X : Type 0} (b : Bool) (x : X) (o : Option X) → (if b then Some x else o) ≡ None → (b ≡ false) × (o ≡ None)
either_none true x o e = absurd cc
either_none false x o e = (refl, e)

or_false : (a b : Bool) → (a || b) ≡ false → a ≡ false
or_false true b e = absurd cc
or_false false b e = refl

or_true : (b : Bool) → (b || true) ≡ true
or_true true = refl
or_true false = refl

-- a part that may stand behind none of rank 6 is misplaced behind one
late : (rank : ℕ) (before : List ℕ) → (nat_lt rank 6 || (is_single rank && 6 == rank) || rank == 11) ≡ true → list_any (λ r. r == 6) before ≡ true → is_misplaced before rank ≡ true
late rank [] not_behind some = absurd cc
late rank (r ∷ before) not_behind some = by (late rank before not_behind) (r == 6) refl some
  where
    by : (list_any (λ r. r == 6) before ≡ true → is_misplaced before rank ≡ true) → (b : Bool) → (r == 6) ≡ b → (b || list_any (λ r. r == 6) before) ≡ true → ((nat_lt rank r || (is_single rank && r == rank) || rank == 11) || is_misplaced before rank) ≡ true
    by further true is e =
        ap (λ m. (nat_lt rank m || (is_single rank && m == rank) || rank == 11) || is_misplaced before rank) (eqb-true r 6 is) ∙ ap (λ b. b || is_misplaced before rank) not_behind
    by further false other e = ap (λ b. (nat_lt rank r || (is_single rank && r == rank) || rank == 11) || b) (further e) ∙ or_true (nat_lt rank r || (is_single rank && r == rank) || rank == 11)

true_false : {A : Type 0} (b : Bool) → b ≡ true → b ≡ false → A
true_false b is not_so = absurd cc

still_behind : (r : ℕ) (before : List ℕ) → list_any (λ r. r == 6) before ≡ true → list_any (λ r. r == 6) (r ∷ before) ≡ true
still_behind r before some = ap (λ b. (r == 6) || b) some ∙ or_true (r == 6)

-- a part in its place, and the others in theirs
record ArePlaced (n : ℕ) (before : List ℕ) (u : UpPart) (parts : List UpPart) : Type 0 where
  here : is_misplaced before (up_rank u) ≡ false
  others : first_misplaced (n + 1) (up_rank u ∷ before) parts ≡ None

placed : (n : ℕ) (before : List ℕ) (u : UpPart) (parts : List UpPart) → first_misplaced n before (u ∷ parts) ≡ None → ArePlaced n before u parts
unfolding first_misplaced
placed n before u parts fine =
    let both : ((is_misplaced before (up_rank u) || (is_gone u && not (is_empty parts))) ≡ false) × (first_misplaced (n + 1) (up_rank u ∷ before) parts ≡ None) =
    either_none (is_misplaced before (up_rank u) || (is_gone u && not (is_empty parts))) n (first_misplaced (n + 1) (up_rank u ∷ before) parts) fine in
    record { here = or_false (is_misplaced before (up_rank u)) (is_gone u && not (is_empty parts)) both.0; others = both.1 }

-- ---- parts that come to the same by two answers of the outside

module _ {Kept : Type 0} (facts : Kept → Facts) (next : Saying → Kept → Kept) (p : ℕ) where
  -- what is kept behind a part with this note
  abbrev behind : UpPart → PartNote → Kept → Kept
  behind u w s = behind_all next (says p u w) s

  record AreSame (a d : Field → Bool) (s : Kept) (parts : List UpPart) : Type 0 where
    notes : notes_of (hear_rules a p p) facts next s parts ≡ notes_of (hear_rules d p p) facts next s parts
    kept : after_parts (hear_rules a p p) facts next s parts ≡ after_parts (hear_rules d p p) facts next s parts
    posts : (q : ℕ) → posts_of (hear_rules a p q) facts next s parts ≡ posts_of (hear_rules d p q) facts next s parts

  none_same : (a d : Field → Bool) (s : Kept) → AreSame a d s []
  unfolding notes_of after_parts posts_of
  none_same a d s = record { notes = refl; kept = refl; posts = λ q. refl }

  one_same : (a d : Field → Bool) (s : Kept) (u : UpPart) (parts : List UpPart) → note a p (facts s) u ≡ note d p (facts s) u → AreSame a d (behind u (note d p (facts s) u) s) parts → AreSame a d s (u ∷ parts)
  unfolding notes_of after_parts posts_of
  one_same a d s u parts e rest = record {
    notes = ap (λ w. w ∷ notes_of (hear_rules a p p) facts next (behind u w s) parts) e ∙ ap (λ ws. note d p (facts s) u ∷ ws) rest.notes;
    kept = ap (λ w. after_parts (hear_rules a p p) facts next (behind u w s) parts) e ∙ rest.kept;
    posts = λ q.
        ap (λ w. (hear_rules a p q).posts (facts s) u w ++ posts_of (hear_rules a p q) facts next (behind u w s) parts) e
        ∙ ap (λ ds. (hear_rules d p q).posts (facts s) u (note d p (facts s) u) ++ ds) (rest.posts q);
  }

  -- behind a commit nothing reads what was allowed
  same_behind : (a d : Field → Bool) (n : ℕ) (before : List ℕ) (s : Kept) (parts : List UpPart) → list_any (λ r. r == 6) before ≡ true → first_misplaced n before parts ≡ None → AreSame a d s parts
  unfolding note
  same_behind a d n before s [] some fine = none_same a d s
  same_behind a d n before s (ups.Commit x t ∷ parts) some fine =
      let at : ArePlaced n before (ups.Commit x t) parts = placed n before (ups.Commit x t) parts fine in
      true_false (is_misplaced before 6) (late 6 before refl some) at.here
  same_behind a d n before s (u ∷ parts) some fine =
      let at : ArePlaced n before u parts = placed n before u parts fine in
      one_same a d s u parts refl (same_behind a d (n + 1) (up_rank u ∷ before) (behind u (note d p (facts s) u) s) parts (still_behind (up_rank u) before some) at.others)

  -- and nothing ends the sender
  no_fault_behind : (a : Field → Bool) (n m : ℕ) (before : List ℕ) (s : Kept) (parts : List UpPart) → list_any (λ r. r == 6) before ≡ true → first_misplaced n before parts ≡ None
      → first_fault (hear_rules a p p) facts next m s parts ≡ None
  unfolding first_fault fault
  no_fault_behind a n m before s [] some fine = refl
  no_fault_behind a n m before s (ups.Create x above ∷ parts) some fine =
      let at : ArePlaced n before (ups.Create x above) parts = placed n before (ups.Create x above) parts fine in
      true_false (is_misplaced before 1) (late 1 before refl some) at.here
  no_fault_behind a n m before s (ups.Drop x ∷ parts) some fine =
      let at : ArePlaced n before (ups.Drop x) parts = placed n before (ups.Drop x) parts fine in
      true_false (is_misplaced before 2) (late 2 before refl some) at.here
  no_fault_behind a n m before s (ups.Commit x t ∷ parts) some fine =
      let at : ArePlaced n before (ups.Commit x t) parts = placed n before (ups.Commit x t) parts fine in
      true_false (is_misplaced before 6) (late 6 before refl some) at.here
  no_fault_behind a n m before s (u ∷ parts) some fine =
      let at : ArePlaced n before u parts = placed n before u parts fine in
      no_fault_behind a (n + 1) (m + 1) (up_rank u ∷ before) (behind u (note a p (facts s) u) s) parts (still_behind (up_rank u) before some) at.others

  -- ---- the fault

  commit_fault : (a d : Field → Bool) (f : Facts) (m : ℕ) (x : ContextId) (t : Changes) → fault a p m f (ups.Commit x t) ≡ fault d p m f (ups.Commit x t)
  unfolding fault
  commit_fault a d f m x t = ap (λ flds. if is_judged f p x then denial x flds else None) (denied_is a f p x t ∙ sym (denied_is d f p x t))

  fault_again : (a d : Field → Bool) (n m : ℕ) (before : List ℕ) (s : Kept) (parts : List UpPart) → first_misplaced n before parts ≡ None
      → first_fault (hear_rules a p p) facts next m s parts ≡ first_fault (hear_rules d p p) facts next m s parts
  unfolding first_fault note fault
  fault_again a d n m before s [] fine = refl
  fault_again a d n m before s (ups.Commit x t ∷ parts) fine =
      let at : ArePlaced n before (ups.Commit x t) parts = placed n before (ups.Commit x t) parts fine in
      ap (λ o. or_later o (first_fault (hear_rules a p p) facts next (m + 1) (behind (ups.Commit x t) (note a p (facts s) (ups.Commit x t)) s) parts)) (commit_fault a d (facts s) m x t)
      ∙ ap (or_later (fault d p m (facts s) (ups.Commit x t)))
      (no_fault_behind a (n + 1) (m + 1) (6 ∷ before) (behind (ups.Commit x t) (note a p (facts s) (ups.Commit x t)) s) parts refl at.others
      ∙ sym (no_fault_behind d (n + 1) (m + 1) (6 ∷ before) (behind (ups.Commit x t) (note d p (facts s) (ups.Commit x t)) s) parts refl at.others))
  fault_again a d n m before s (u ∷ parts) fine =
      let at : ArePlaced n before u parts = placed n before u parts fine in
      ap (or_later (fault d p m (facts s) u)) (fault_again a d (n + 1) (m + 1) (up_rank u ∷ before) (behind u (note d p (facts s) u) s) parts at.others)

  -- ---- what is done

  -- by what the notes tell
  told_same : (a : Field → Bool) (n : ℕ) (before : List ℕ) (s : Kept) (parts : List UpPart) → first_misplaced n before parts ≡ None → AreSame (applied_in (notes_of (hear_rules a p p) facts next s parts)) a s parts
  unfolding notes_of note
  told_same a n before s [] fine = none_same (λ fld. false) a s
  told_same a n before s (ups.Commit x t ∷ parts) fine =
      let at : ArePlaced n before (ups.Commit x t) parts = placed n before (ups.Commit x t) parts fine in
      let more : List PartNote = notes_of (hear_rules a p p) facts next (behind (ups.Commit x t) (note a p (facts s) (ups.Commit x t)) s) parts in
      let told : Field → Bool = applied_in (note a p (facts s) (ups.Commit x t) ∷ more) in
      one_same told a s (ups.Commit x t) parts (by_test more (is_judged (facts s) p x))
      (same_behind told a (n + 1) (6 ∷ before) (behind (ups.Commit x t) (note a p (facts s) (ups.Commit x t)) s) parts refl at.others)
    where
      by_test : (more : List PartNote) (v : Bool)
          → (if v then notes.Commit x (field_notes (applied_in ((if v then notes.Commit x (field_notes a (facts s) p x t) else notes.CommitIgnored x) ∷ more)) (facts s) p x t) else notes.CommitIgnored x)
          ≡ (if v then notes.Commit x (field_notes a (facts s) p x t) else notes.CommitIgnored x)
      by_test more true = ap (notes.Commit x) (notes_again a (facts s) p x t)
      by_test more false = refl
  told_same a n before s (u ∷ parts) fine =
      let at : ArePlaced n before u parts = placed n before u parts fine in
      let later : Kept = behind u (note a p (facts s) u) s in
      one_same (applied_in (notes_of (hear_rules a p p) facts next later parts)) a s u parts refl (told_same a (n + 1) (up_rank u ∷ before) later parts at.others)

  -- ---- a whole bundle

  done_same : (a d : Field → Bool) (n : ℕ) (b : UpBundle) (s : Kept) → AreSame a d s b.parts → parts_ruling facts next n a p b s ≡ parts_ruling facts next n d p b s
  done_same a d n b s same =
      let notes_by : (Field → Bool) → List PartNote = λ e. notes_of (hear_rules e p p) facts next s b.parts in
      let kept_by : (Field → Bool) → Kept = λ e. after_parts (hear_rules e p p) facts next s b.parts in
      let posts_by : (Field → Bool) → ℕ → List DownPart = λ e q. posts_of (hear_rules e p q) facts next s b.parts in
      ap (λ ws. ruling facts next n (Parts ws) (λ q. in_order (posts_by a q)) (kept_by a)) same.notes
      ∙ ap (λ k. ruling facts next n (Parts (notes_by d)) (λ q. in_order (posts_by a q)) k) same.kept
      ∙ ap (λ (ds : ℕ → List DownPart). ruling facts next n (Parts (notes_by d)) (λ q. in_order (ds q)) (kept_by d)) (fun_ext same.posts)

-- a ruling comes to the same by what its own answer tells
abbrev IsAgain : {Kept : Type 0} → ((Field → Bool) → Ruling Kept) → Type 0
IsAgain rule = (allows : Field → Bool) → rule (told_allowed (rule allows).answer) ≡ rule allows

-- one that may end its sender, for a cause that rests on nothing of the outside
ending_again : {Kept : Type 0} (ends : EndCause → Ruling Kept) (cause : (Field → Bool) → Option EndCause) (rule : (Field → Bool) → Ruling Kept) → ((a d : Field → Bool) → cause a ≡ cause d) → IsAgain rule
    → IsAgain (λ a. option_map_or ends (cause a) (rule a))
ending_again ends cause rule same one allows =
    ap (λ o. option_map_or ends o (rule (told_allowed (option_map_or ends (cause allows) (rule allows)).answer))) (same (told_allowed (option_map_or ends (cause allows) (rule allows)).answer) allows)
    ∙ by (cause allows)
  where
    by : (o : Option EndCause) → option_map_or ends o (rule (told_allowed (option_map_or ends o (rule allows)).answer)) ≡ option_map_or ends o (rule allows)
    by (Some why) = refl
    by None = one allows

-- where a bundle has no fault of its own its parts are in their places
no_misplaced : (f : Facts) (p : ℕ) (b : UpBundle) → envelope_fault f p b ≡ None → first_misplaced 1 [] b.parts ≡ None
unfolding envelope_fault
no_misplaced f p b fine =
    let one : (is_end b.parts ≡ false) × ((if not (b.epoch.0 == due f p b.parts) then Some (BadEpoch b.epoch (record { 0 = due f p b.parts })) else if nat_lt (f.processes.bundles_sent p) b.seen then Some (BadStamp b.seen (f.processes.bundles_sent p)) else option_map BadPart (first_misplaced 1 [] b.parts)) ≡ None) =
    either_none (is_end b.parts) Failed _ fine in
    let two : (not (b.epoch.0 == due f p b.parts) ≡ false) × ((if nat_lt (f.processes.bundles_sent p) b.seen then Some (BadStamp b.seen (f.processes.bundles_sent p)) else option_map BadPart (first_misplaced 1 [] b.parts)) ≡ None) =
    either_none (not (b.epoch.0 == due f p b.parts)) (BadEpoch b.epoch (record { 0 = due f p b.parts })) _ one.1 in
    let three : (nat_lt (f.processes.bundles_sent p) b.seen ≡ false) × (option_map BadPart (first_misplaced 1 [] b.parts) ≡ None) =
    either_none (nat_lt (f.processes.bundles_sent p) b.seen) (BadStamp b.seen (f.processes.bundles_sent p)) _ two.1 in
    none_mapped (first_misplaced 1 [] b.parts) three.1
  where
    none_mapped : (o : Option ℕ) → option_map BadPart o ≡ None → o ≡ None
    none_mapped None e = refl
    none_mapped (Some k) e = absurd cc

module _ {Kept : Type 0} (facts : Kept → Facts) (next : Saying → Kept → Kept) (n p : ℕ) where
  pub ruling_again : (b : UpBundle) (s : Kept) → IsAgain (λ a. bundle_ruling facts next n a p b s)
  ruling_again b s = by_end (is_some ((facts s).processes.ended p))
    where
      counted : Kept
      counted = if is_counted (facts s) p b then next (Counted p) s else s

      by_fault : (o : Option EndCause) → envelope_fault (facts s) p b ≡ o
          → IsAgain (λ a. option_map_or (λ cause. end_ruling facts next n p cause counted) (or_later o (first_fault (hear_rules a p p) facts next 1 counted b.parts)) (parts_ruling facts next n a p b counted))
      by_fault (Some why) e = λ allows. refl
      by_fault None e =
          let fine : first_misplaced 1 [] b.parts ≡ None = no_misplaced (facts s) p b e in
          ending_again (λ cause. end_ruling facts next n p cause counted) (λ a. first_fault (hear_rules a p p) facts next 1 counted b.parts) (λ a. parts_ruling facts next n a p b counted)
          (λ a d. fault_again facts next p a d 1 1 [] counted b.parts fine)
          (λ a. done_same facts next p (applied_in (notes_of (hear_rules a p p) facts next counted b.parts)) a n b counted (told_same facts next p a 1 [] counted b.parts fine))

      by_end : (v : Bool) → IsAgain (λ a. if v then ruling facts next n Ignored (λ q. []) s else option_map_or (λ cause. end_ruling facts next n p cause counted)
          (or_later (envelope_fault (facts s) p b) (first_fault (hear_rules a p p) facts next 1 counted b.parts)) (parts_ruling facts next n a p b counted))
      by_end true = λ allows. refl
      by_end false = by_fault (envelope_fault (facts s) p b) refl

-- the moment of a bundle
again_bundle : (c : Config) (ms : List Moment) (p : ℕ) (allows : Field → Bool) (w : Written) (b : UpBundle)
    → bundle_moment c p ms (told_allowed (bundle_moment c p ms allows w b).answer) w b ≡ bundle_moment c p ms allows w b
again_bundle c ms p allows w b =
    ap (λ (rule : Ruling (List Saying)). record { says = rule.kept; did = λ q. []; events = events_heard c p ms w rule; answer = rule.answer })
    (ruling_again (λ says. asked c.tabs (says ++ said ms)) (λ y says. y ∷ says) (length c.types) p b [] allows)

-- the one that waits first
waiting_again : (c : Config) (ms : List Moment) (p : ℕ) (allows : Field → Bool) (ws : List Written) → heard_moment c p ms (told_allowed (heard_moment c p ms allows ws).answer) ws ≡ heard_moment c p ms allows ws
waiting_again c ms p allows [] = refl
waiting_again c ms p allows (Own b ∷ ws) = again_bundle c ms p allows (Own b) b
waiting_again c ms p allows (Raw b ∷ ws) = again_bundle c ms p allows (Raw b) b
waiting_again c ms p allows (Said says ∷ ws) = refl

-- whatever was done before, and whatever the step
pub again : (c : Config) (ms : List Moment) (allows : Field → Bool) (s : Step) → moment c ms (told_allowed (moment c ms allows s).answer) s ≡ moment c ms allows s
again c ms allows (Act p action) = refl
again c ms allows (Take p) = refl
again c ms allows (RawStep p b) = refl
again c ms allows (ParentAct action) = refl
again c ms allows (Hear p) = waiting_again c ms p.0 allows (writes_waiting (events_of p.0 ms))

pub moment_again : (allows : Field → Bool) (r : Run) (s : Step) → RunFits r → StepFits (length r.config.types) s
    → moment r.config (moments_of r.config r.journal) (told_allowed (moment r.config (moments_of r.config r.journal) allows s).answer) s ≡ moment r.config (moments_of r.config r.journal) allows s
moment_again allows r s fits fit = again r.config (moments_of r.config r.journal) allows s

-- so behind a step more there is its moment
pub moments_after : (b : Bounds) (r : Run) (s : Step) → RunFits r → StepFits (length r.config.types) s
    → moments_of r.config (run_after b r s).journal ≡ moment_after b r.config r.journal s ∷ moments_of r.config r.journal
unfolding moments_of
moments_after b r s fits fit = ap (λ m. m ∷ moments_of r.config r.journal) (moment_again (allowed_by b (moments_of r.config r.journal) s) r s fits fit)
