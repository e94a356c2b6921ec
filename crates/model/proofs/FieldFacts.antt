-- The parent's value of a field, by what was said, and by the trace of the field.
use Rattle.std.proofs.Common.{◌≡◌, ◌⊎◌, inl, inr, ℕ, ◌<◌, Bool, true, false, not, ◌&&◌, if◌then◌else◌, Option, None, Some, is_some, List, [], ◌∷◌, ◌++◌, refl, ap, ap₂, sym, subst, ◌∙◌}
use Rattle.std.specs.List.{AllByRecursion, list_any}
use Rattle.fission_ids.specs.declared.context.ContextId.{ContextId}
use Rattle.fission_ids.specs.Ids.{same_context}
use Rattle.field_table.specs.declared.field.Field.{Field}
use Rattle.field_table.specs.declared.value.Value.{Value}
use Rattle.field_table.specs.declared.verdict.Verdict.{Verdict}
use Rattle.field_table.specs.declared.verdict.Verdict.TheVariants.{Allow, Deny, Revert}
use Rattle.field_table.specs.Field.{initial}
use Rattle.field_table.proofs.Tables.{at_number}
use Rattle.transaction.specs.Transaction.{Changes, new_value}
use Rattle.wire_msgs.specs.declared.answer.Answer.{Answer}
use Rattle.wire_msgs.specs.declared.answer.Answer.TheVariants.{Ended as EndedBy}
use Rattle.wire_msgs.specs.declared.bundle.DownBundle.{DownBundle}
use Rattle.wire_msgs.specs.declared.bundle.UpBundle.{UpBundle}
use Rattle.wire_msgs.specs.declared.config.Config.{Config}
use Rattle.wire_msgs.specs.declared.note.FieldMark.{FieldMark}
use Rattle.wire_msgs.specs.declared.note.FieldNote.{FieldNote}
use Rattle.wire_msgs.specs.declared.part.DownPart.TheVariants as downs
use Rattle.protocol.specs.Commits.{applied, sent_back}
use Rattle.protocol.specs.Fold.{or_later}
use Rattle.protocol.specs.Hear.{is_noted, is_applied, is_reverted, mark_of, verdict_of, field_notes, values_where}
use Rattle.protocol.specs.Questions.{Facts}
use Rattle.protocol.specs.Sayings.{Saying}
use Rattle.protocol.specs.Sayings.Saying.{Opened, Made, BornDead, Removed, Wrote, Acked, Subscribed, Counted, Sent, Ended}
use Rattle.protocol.proofs.Notes.{noted, marked_value, unmodified}
use Rattle.traces.specs.Event.Event.{Accepts, Reverts}
use Rattle.traces.specs.Field.{Content}
use Rattle.traces.specs.Field.Content.{Nothing, Gives}
use Rattle.traces.specs.Words.{or_else}
use Rattle.model.specs.Lines.{Making}
use Rattle.model.specs.Moments.{Moment, Written, said, facts_now, heard, is_done}
use Rattle.model.specs.Parent.{asked, known, live, under, value}
use Rattle.model.specs.View.{value_for, value_said, given, singles, content_of}
use Rattle.model.proofs.Cases.{true_false, same_context_is}
use Rattle.model.proofs.Entry.{FitsOver, IsSending, IsAcking, Says, Hearing, Entry}
use Rattle.model.proofs.Entry.Entry.{Idle, Sets, Frames, Drops, TakesOne, Tells, Killing, HearsOne}
use Rattle.model.proofs.Entry.Hearing.{AsMade, AsLate, AsDrop, AsOldDrop, AsAcks, AsCommit, AsOldCommit, AsOver}
use Rattle.model.proofs.Fitting.{FactsTies}
use Rattle.model.proofs.Lining.{Lined}
use Rattle.model.proofs.Living.{opened_new}
use Rattle.model.proofs.Owning.{known_all}
use Rattle.model.proofs.Telling.{Saids, saids_before, facts_behind}

-- ---- all that is said in an entry fits

sent_fits : (c : Config) (old sent core : List Saying) → AllByRecursion IsSending sent → FitsOver c old core → FitsOver c old (sent ++ core)
sent_fits c old [] core all fits = fits
sent_fits c old (Sent q ∷ sent) core all fits = (tt, sent_fits c old sent core all.1 fits)
sent_fits c old (_ ∷ sent) core all fits = absurd all.0

acking_fits : (c : Config) (old ys : List Saying) → AllByRecursion IsAcking ys → FitsOver c old ys
acking_fits c old [] all = tt
acking_fits c old (Acked q x ∷ ys) all = (tt, acking_fits c old ys all.1)
acking_fits c old (Sent q ∷ ys) all = (tt, acking_fits c old ys all.1)
acking_fits c old (_ ∷ ys) all = absurd all.0

module _ (c : Config) (p : ℕ) (ms : List Moment) (m : Moment) (low : p < 16) where
  none_said : m.says ≡ [] → FitsOver c (said ms) m.says
  none_said is = subst (FitsOver c (said ms)) (sym is) tt

  core_fits : (core : List Saying) → Says c p ms m core → FitsOver c (said ms) core → FitsOver c (said ms) m.says
  core_fits core s fits = subst (FitsOver c (said ms)) (sym s.is) (sent_fits c (said ms) s.sent core s.all_sent fits)

  commit_fits : (x : ContextId) (t : Changes) → (facts_now c ms).contexts.live x ≡ true → FitsOver c (said ms) (Wrote x t ∷ Counted p ∷ [])
  unfolding live
  commit_fits x t is = (is, (tt, tt))

  hears_fit : (b : UpBundle) → Hearing c p ms m b → FitsOver c (said ms) m.says
  hears_fit b (AsMade x a is) = core_fits (Made p x a ∷ []) is.says (is.fits, tt)
  hears_fit b (AsLate x a d is) = core_fits (BornDead p x a ∷ []) is.says (is.fits, tt)
  hears_fit b (AsDrop x is) = core_fits (Removed x (Some p) ∷ []) is.says (is.live, tt)
  hears_fit b (AsOldDrop x is) = none_said is.says
  hears_fit b (AsAcks is) = acking_fits c (said ms) m.says is.says
  hears_fit b (AsCommit x t ns back is) = core_fits (Wrote x (applied ns t) ∷ Counted p ∷ []) is.says (commit_fits x (applied ns t) is.live)
  hears_fit b (AsOldCommit x t is) = subst (FitsOver c (said ms)) (sym is.says) (tt, tt)
  hears_fit b (AsOver is) = none_said is.says

  pub entry_fits : Entry c p ms m → FitsOver c (said ms) m.says
  entry_fits (Idle is) = none_said is.says
  entry_fits (Sets y t b is) = none_said is.says
  entry_fits (Frames a b is) = none_said is.says
  entry_fits (Drops y b is) = none_said is.says
  entry_fits (TakesOne d rest is) = none_said is.says
  entry_fits (Tells posts is) = is.fits
  entry_fits (Killing d is) = subst (FitsOver c (said ms)) (sym is.says) (tt, (low, tt))
  entry_fits (HearsOne b rest first hears) = hears_fit b hears

-- ---- the parent's value behind what is said

-- a value that is there is written over
pub over_value : (o v : Option Value) (before : Value) → v ≡ Some before → or_later o v ≡ Some (or_else o before)
over_value None v before e = e
over_value (Some w) v before e = refl

pub else_later : (a b : Option Value) (v : Value) → or_else (or_later a b) v ≡ or_else a (or_else b v)
else_later None b v = refl
else_later (Some w) b v = refl

module _ (c : Config) (mk : List Making) (l : Lined mk) (old : List Saying) (ft : FactsTies c.tabs mk (asked c.tabs old)) where
  -- of what isn't known nothing is said
  pub unsaid : (x : ContextId) (fld : Field) (ys : List Saying) → Saids c mk l old ft ys → known c.tabs x (ys ++ old) ≡ false → value_said x fld ys ≡ None
  unfolding known
  unsaid x fld [] s new = refl
  unsaid x fld (Opened y g is_new q ∷ ys) s new = unsaid x fld ys (saids_before c mk l old ft (Opened y g is_new q) ys s) (new_before (same_context x y) new)
    where
      new_before : (b : Bool) → (if b then true else known c.tabs x (ys ++ old)) ≡ false → known c.tabs x (ys ++ old) ≡ false
      new_before true e = absurd cc
      new_before false e = e
  unsaid x fld (Subscribed q g ∷ ys) s new = unsaid x fld ys (saids_before c mk l old ft (Subscribed q g) ys s) new
  unsaid x fld (Made q y a ∷ ys) s new = unsaid x fld ys (saids_before c mk l old ft (Made q y a) ys s) (new_before (same_context x y) new)
    where
      new_before : (b : Bool) → (if b then true else known c.tabs x (ys ++ old)) ≡ false → known c.tabs x (ys ++ old) ≡ false
      new_before true e = absurd cc
      new_before false e = e
  unsaid x fld (BornDead q y a ∷ ys) s new = unsaid x fld ys (saids_before c mk l old ft (BornDead q y a) ys s) (new_before (same_context x y) new)
    where
      new_before : (b : Bool) → (if b then true else known c.tabs x (ys ++ old)) ≡ false → known c.tabs x (ys ++ old) ≡ false
      new_before true e = absurd cc
      new_before false e = e
  unsaid x fld (Wrote y t ∷ ys) s new = by_same (same_context x y) refl (unsaid x fld ys earlier new)
    where
      earlier : Saids c mk l old ft ys
      earlier = saids_before c mk l old ft (Wrote y t) ys s

      by_same : (b : Bool) → same_context x y ≡ b → value_said x fld ys ≡ None → or_later (if b then new_value t fld else None) (value_said x fld ys) ≡ None
      by_same false e rest = rest
      by_same true e rest = true_false (known c.tabs x (ys ++ old)) (ap (λ z. known c.tabs z (ys ++ old)) (same_context_is x y e) ∙ (facts_behind c mk l old ft ys earlier).live_known y s.fits.0) new
  unsaid x fld (Removed w but ∷ ys) s new = unsaid x fld ys (saids_before c mk l old ft (Removed w but) ys s) new
  unsaid x fld (Acked q y ∷ ys) s new = unsaid x fld ys (saids_before c mk l old ft (Acked q y) ys s) new
  unsaid x fld (Counted q ∷ ys) s new = unsaid x fld ys (saids_before c mk l old ft (Counted q) ys s) new
  unsaid x fld (Sent q ∷ ys) s new = unsaid x fld ys (saids_before c mk l old ft (Sent q) ys s) new
  unsaid x fld (Ended q cause ∷ ys) s new = unsaid x fld ys (saids_before c mk l old ft (Ended q cause) ys s) new

  module _ (x : ContextId) (fld : Field) (base : Value) (was : live c.tabs x old ≡ true → value c.tabs x fld old ≡ Some base) (new_is : known c.tabs x old ≡ false → base ≡ initial fld) where
    unknown_before : (ys : List Saying) → known c.tabs x (ys ++ old) ≡ false → known c.tabs x old ≡ false
    unknown_before ys new = by_known (known c.tabs x old) refl
      where
        by_known : (b : Bool) → known c.tabs x old ≡ b → known c.tabs x old ≡ false
        by_known false e = e
        by_known true e = true_false (known c.tabs x (ys ++ old)) (known_all c old ys x e) new

    -- what was said last, or the value before, or the initial one of what is new
    pub value_behind : (ys : List Saying) → Saids c mk l old ft ys → live c.tabs x (ys ++ old) ≡ true → value c.tabs x fld (ys ++ old) ≡ Some (or_else (value_said x fld ys) base)
    unfolding live value
    value_behind [] s e = was e
    value_behind (Opened y g is_new q ∷ ys) s e = by_same (same_context x y) refl e (value_behind ys earlier)
      where
        earlier : Saids c mk l old ft ys
        earlier = saids_before c mk l old ft (Opened y g is_new q) ys s

        by_same : (b : Bool) → same_context x y ≡ b → (if b then true else live c.tabs x (ys ++ old)) ≡ true → (live c.tabs x (ys ++ old) ≡ true → value c.tabs x fld (ys ++ old) ≡ Some (or_else (value_said x fld ys) base))
            → (if b then Some (initial fld) else value c.tabs x fld (ys ++ old)) ≡ Some (or_else (value_said x fld ys) base)
        by_same false is e rest = rest e
        by_same true is e rest =
            let new : known c.tabs x (ys ++ old) ≡ false =
            ap (λ z. known c.tabs z (ys ++ old)) (same_context_is x y is) ∙ opened_new c.tabs mk (asked c.tabs (ys ++ old)) y q (facts_behind c mk l old ft ys earlier) s.fits.0 in
            ap Some (sym (ap₂ or_else (unsaid x fld ys earlier new) (new_is (unknown_before ys new))))
    value_behind (Subscribed q g ∷ ys) s e = value_behind ys (saids_before c mk l old ft (Subscribed q g) ys s) e
    value_behind (Made q y a ∷ ys) s e = by_same (same_context x y) refl e (value_behind ys earlier)
      where
        earlier : Saids c mk l old ft ys
        earlier = saids_before c mk l old ft (Made q y a) ys s

        by_same : (b : Bool) → same_context x y ≡ b → (if b then true else live c.tabs x (ys ++ old)) ≡ true → (live c.tabs x (ys ++ old) ≡ true → value c.tabs x fld (ys ++ old) ≡ Some (or_else (value_said x fld ys) base))
            → (if b then Some (initial fld) else value c.tabs x fld (ys ++ old)) ≡ Some (or_else (value_said x fld ys) base)
        by_same false is e rest = rest e
        by_same true is e rest =
            let new : known c.tabs x (ys ++ old) ≡ false = ap (λ z. known c.tabs z (ys ++ old)) (same_context_is x y is) ∙ s.fits.0.new in
            ap Some (sym (ap₂ or_else (unsaid x fld ys earlier new) (new_is (unknown_before ys new))))
    value_behind (BornDead q y a ∷ ys) s e = value_behind ys (saids_before c mk l old ft (BornDead q y a) ys s) e
    value_behind (Removed w but ∷ ys) s e = by_under (under c.tabs x w (ys ++ old)) e (value_behind ys (saids_before c mk l old ft (Removed w but) ys s))
      where
        by_under : (b : Bool) → (if b then false else live c.tabs x (ys ++ old)) ≡ true → (live c.tabs x (ys ++ old) ≡ true → value c.tabs x fld (ys ++ old) ≡ Some (or_else (value_said x fld ys) base))
            → (if b then None else value c.tabs x fld (ys ++ old)) ≡ Some (or_else (value_said x fld ys) base)
        by_under true e rest = absurd cc
        by_under false e rest = rest e
    value_behind (Wrote y t ∷ ys) s e = by_same (same_context x y) (value_behind ys (saids_before c mk l old ft (Wrote y t) ys s) e)
      where
        by_same : (b : Bool) → value c.tabs x fld (ys ++ old) ≡ Some (or_else (value_said x fld ys) base)
            → (if b then or_later (new_value t fld) (value c.tabs x fld (ys ++ old)) else value c.tabs x fld (ys ++ old)) ≡ Some (or_else (or_later (if b then new_value t fld else None) (value_said x fld ys)) base)
        by_same false rest = rest
        by_same true rest = over_value (new_value t fld) (value c.tabs x fld (ys ++ old)) (or_else (value_said x fld ys) base) rest ∙ ap Some (sym (else_later (new_value t fld) (value_said x fld ys) base))
    value_behind (Acked q y ∷ ys) s e = value_behind ys (saids_before c mk l old ft (Acked q y) ys s) e
    value_behind (Counted q ∷ ys) s e = value_behind ys (saids_before c mk l old ft (Counted q) ys s) e
    value_behind (Sent q ∷ ys) s e = value_behind ys (saids_before c mk l old ft (Sent q) ys s) e
    value_behind (Ended q cause ∷ ys) s e = value_behind ys (saids_before c mk l old ft (Ended q cause) ys s) e

-- ---- a commit that is heard

applied_or_reverted : (v : Verdict) → is_reverted (mark_of v) ≡ not (is_applied (mark_of v))
applied_or_reverted Allow = refl
applied_or_reverted Deny = refl
applied_or_reverted Revert = refl

-- it was applied for the field, or the parent's value is sent back
pub record WasApplied (wrote says : Option Value) (back : Content Value) : Type 0 where
  pub said : says ≡ wrote
  pub nothing : back ≡ Nothing

pub record WasSentBack (now wrote says : Option Value) (back : Content Value) : Type 0 where
  pub value : Value
  pub returns : Value
  pub written : wrote ≡ Some value
  pub said : says ≡ None
  pub gives : back ≡ Gives returns
  pub present : now ≡ Some returns

module _ (allows : Field → Bool) (f : Facts) (p : ℕ) (y : ContextId) (t : Changes) (x : ContextId) (ln : List ContextId) (fld : Field) where
  abbrev mark : FieldMark
  mark = mark_of (verdict_of allows f p y t fld)

  abbrev notes : List FieldNote
  notes = field_notes allows f p y t

  abbrev back_values : Changes
  back_values = values_where (is_noted is_reverted (field_notes allows f p y t)) f y

  applied_value : new_value (applied (field_notes allows f p y t) t) fld ≡ (if is_applied mark then new_value t fld else None)
  applied_value = marked_value is_applied (λ g. mark_of (verdict_of allows f p y t g)) t fld

  pub back_value : new_value (values_where (is_noted is_reverted (field_notes allows f p y t)) f y) fld ≡ (if is_some (new_value t fld) && not (is_applied mark) then f.contexts.value y fld else None)
  back_value =
      at_number (λ g. if is_noted is_reverted (field_notes allows f p y t) g then f.contexts.value y g else None) None fld
      ∙ ap (λ b. if b then f.contexts.value y fld else None)
      (noted is_reverted (λ g. mark_of (verdict_of allows f p y t g)) t fld ∙ ap (λ b. is_some (new_value t fld) && b) (applied_or_reverted (verdict_of allows f p y t fld)))

  pub back_content : content_of x ln fld (sent_back (field_notes allows f p y t) f y) ≡ given (value_for x fld y (values_where (is_noted is_reverted (field_notes allows f p y t)) f y)) Nothing
  back_content = by_any (list_any is_some back_values) refl
    where
      none_of : (b : Bool) → list_any is_some (values_where (is_noted is_reverted (field_notes allows f p y t)) f y) ≡ false
          → Nothing ≡ given (if b then new_value (values_where (is_noted is_reverted (field_notes allows f p y t)) f y) fld else None) Nothing
      none_of true e = ap (λ o. given o Nothing) (sym (unmodified back_values fld e))
      none_of false e = refl

      by_any : (b : Bool) → list_any is_some (values_where (is_noted is_reverted (field_notes allows f p y t)) f y) ≡ b
          → content_of x ln fld (if b then downs.Commit y (values_where (is_noted is_reverted (field_notes allows f p y t)) f y) ∷ [] else []) ≡ given (value_for x fld y (values_where (is_noted is_reverted (field_notes allows f p y t)) f y)) Nothing
      by_any true e = refl
      by_any false e = none_of (same_context x y) e

  abbrev Result : Option Value → Option Value → Content Value → Type 0
  Result w s b = WasApplied w s b ⊎ WasSentBack (f.contexts.value x fld) w s b

  pub commit_for : (now : Value) → (same_context x y ≡ true → f.contexts.value x fld ≡ Some now)
      → WasApplied (value_for x fld y t) (value_for x fld y (applied (field_notes allows f p y t) t)) (content_of x ln fld (sent_back (field_notes allows f p y t) f y))
      ⊎ WasSentBack (f.contexts.value x fld) (value_for x fld y t) (value_for x fld y (applied (field_notes allows f p y t) t)) (content_of x ln fld (sent_back (field_notes allows f p y t) f y))
  commit_for now here = by_same (same_context x y) refl
    where
      by_mark : (b : Bool) (o : Option Value) → f.contexts.value y fld ≡ Some now → f.contexts.value x fld ≡ Some now
          → WasApplied o (if b then o else None) (given (if is_some o && not b then f.contexts.value y fld else None) Nothing) ⊎ WasSentBack (f.contexts.value x fld) o (if b then o else None) (given (if is_some o && not b then f.contexts.value y fld else None) Nothing)
      by_mark true None e d = inl (record { said = refl; nothing = refl })
      by_mark true (Some v) e d = inl (record { said = refl; nothing = refl })
      by_mark false None e d = inl (record { said = refl; nothing = refl })
      by_mark false (Some v) e d = inr (record { value = v; returns = now; written = refl; said = refl; gives = ap (λ o. given o Nothing) e; present = d })

      by_same : (b : Bool) → same_context x y ≡ b
          → WasApplied (value_for x fld y t) (value_for x fld y (applied (field_notes allows f p y t) t)) (content_of x ln fld (sent_back (field_notes allows f p y t) f y))
          ⊎ WasSentBack (f.contexts.value x fld) (value_for x fld y t) (value_for x fld y (applied (field_notes allows f p y t) t)) (content_of x ln fld (sent_back (field_notes allows f p y t) f y))
      by_same false e = inl (record {
        said = ap (λ (b : Bool). if b then new_value (applied (field_notes allows f p y t) t) fld else None) e ∙ sym (ap (λ (b : Bool). if b then new_value t fld else None) e);
        nothing = back_content ∙ ap (λ (b : Bool). given (if b then new_value back_values fld else None) Nothing) e;
      })
      by_same true e =
          let at : f.contexts.value y fld ≡ Some now = ap (λ z. f.contexts.value z fld) (sym (same_context_is x y e)) ∙ here e in
          let w : new_value t fld ≡ value_for x fld y t = sym (ap (λ (b : Bool). if b then new_value t fld else None) e) in
          let s : (if is_applied mark then new_value t fld else None) ≡ value_for x fld y (applied notes t) = sym (ap (λ (b : Bool). if b then new_value (applied notes t) fld else None) e ∙ applied_value) in
          let g : given (if is_some (new_value t fld) && not (is_applied mark) then f.contexts.value y fld else None) Nothing ≡ content_of x ln fld (sent_back notes f y) =
          sym (back_content ∙ ap (λ (b : Bool). given (if b then new_value back_values fld else None) Nothing) e ∙ ap (λ o. given o Nothing) back_value) in
          subst (λ v. Result v (value_for x fld y (applied notes t)) (content_of x ln fld (sent_back notes f y))) w
          (subst (λ v. Result (new_value t fld) v (content_of x ln fld (sent_back notes f y))) s
          (subst (λ d. Result (new_value t fld) (if is_applied mark then new_value t fld else None) d) g
          (by_mark (is_applied mark) (new_value t fld) at (here e))))

-- what goes back is no coming
pub back_single : (ns : List FieldNote) (f : Facts) (y : ContextId) → singles (sent_back ns f y) ≡ sent_back ns f y
back_single ns f y = by_any (list_any is_some (values_where (is_noted is_reverted ns) f y))
  where
    by_any : (b : Bool) → singles (if b then downs.Commit y (values_where (is_noted is_reverted ns) f y) ∷ [] else []) ≡ (if b then downs.Commit y (values_where (is_noted is_reverted ns) f y) ∷ [] else [])
    by_any true = refl
    by_any false = refl

-- the events of a hear that did something
pub heard_accepts : (k : ℕ) (w : Written) (answer : Answer) (says : List Saying) → is_done answer ≡ true → heard k w answer says None ≡ Accepts k w ∷ []
heard_accepts k w (EndedBy cause) says done = absurd cc
heard_accepts k w answer says done = ap (λ (b : Bool). (if b then Accepts k w else Rattle.traces.specs.Event.Event.Ignores k w) ∷ []) done

pub heard_reverts : (k : ℕ) (w : Written) (answer : Answer) (says : List Saying) (d : DownBundle) → is_done answer ≡ true → heard k w answer says (Some d) ≡ Reverts k w d ∷ []
heard_reverts k w (EndedBy cause) says d done = absurd cc
heard_reverts k w answer says d done = refl
