-- What goes back for a commit is commits alone, so that the point of a field doesn't depend on where contexts hang.
use Rattle.std.proofs.Common.{◌≡◌, ◌⊎◌, inl, inr, ℕ, ◌+◌, true, Option, None, Some, List, [], ◌∷◌, ◌++◌, length, refl, ap, sym, subst, ◌∙◌}
use Rattle.std.specs.Prelude.{is_some}
use Rattle.std.specs.List.{AllByRecursion, list_any}
use Rattle.fission_ids.specs.declared.context.ContextId.{ContextId}
use Rattle.field_table.specs.declared.field.Field.{Field}
use Rattle.field_table.specs.declared.value.Value.{Value}
use Rattle.transaction.specs.Transaction.{Changes}
use Rattle.wire_msgs.specs.declared.answer.Answer.{Answer}
use Rattle.wire_msgs.specs.declared.answer.Answer.TheVariants as answers
use Rattle.wire_msgs.specs.declared.bundle.DownBundle.{DownBundle}
use Rattle.wire_msgs.specs.declared.bundle.UpBundle.{UpBundle}
use Rattle.wire_msgs.specs.declared.config.Config.{Config}
use Rattle.wire_msgs.specs.declared.part.DownPart.{DownPart}
use Rattle.wire_msgs.specs.declared.part.DownPart.TheVariants as downs
use Rattle.protocol.specs.Bundle.{bundle_for}
use Rattle.protocol.specs.Commits.{sent_back}
use Rattle.protocol.specs.Hear.{commit_unless_empty, values_where, is_noted, is_reverted}
use Rattle.protocol.specs.Questions.{Facts}
use Rattle.traces.specs.Event.Event.{Takes, Accepts, Reverts, Ignores}
use Rattle.traces.specs.Field.{Content, Trace, reverted_for, trace_for}
use Rattle.traces.specs.Field.Content.{Nothing, Gives, Begins, Removes, Leaves}
use Rattle.traces.specs.Words as words
use Rattle.model.specs.Lines.{Making, line}
use Rattle.model.specs.Moments.{Moment, ProcessEvent, facts_now, told, heard, is_done, written}
use Rattle.model.specs.Moments.Written.{Own}
use Rattle.model.specs.View.{look, value_for, value_written, value_in_parts, content_of, given, singles}
use Rattle.model.proofs.Cases.{by_if, some_is, none_some}
use Rattle.model.proofs.Entry.{Entry, Hearing}
use Rattle.model.proofs.Entry.Entry.{Idle, Sets, Frames, Drops, TakesOne, Tells, Killing, HearsOne}
use Rattle.model.proofs.Entry.Hearing.{AsMade, AsLate, AsDrop, AsOldDrop, AsAcks, AsCommit, AsOldCommit, AsOver}

abbrev pub IsCommitPart : DownPart → Type 0
IsCommitPart (downs.Commit x t) = Unit {0}
IsCommitPart part = ⊥

-- what went back for a write of fields are commits
abbrev pub BackFits : ProcessEvent → Type 0
BackFits (Reverts k w d) = ((x : ContextId) (f : Field) → value_written x f w ≡ None) ⊎ AllByRecursion IsCommitPart d.parts
BackFits e = Unit {0}

-- ---- each entry

pub back_commits : (x : ContextId) (cs : Changes) → AllByRecursion IsCommitPart (commit_unless_empty x cs)
back_commits x cs = by_if (AllByRecursion IsCommitPart) (list_any is_some cs) (downs.Commit x cs ∷ []) [] (λ is. (tt, tt)) (λ isnt. tt)

pub bundle_parts : (f : Facts) (p : ℕ) (parts : List DownPart) (d : DownBundle) → AllByRecursion IsCommitPart parts → Some d ≡ bundle_for f p parts → AllByRecursion IsCommitPart d.parts
bundle_parts f p [] d all is = none_some d (sym is)
bundle_parts f p (part ∷ parts) d all is = subst (λ (g : DownBundle). AllByRecursion IsCommitPart g.parts) (some_is (record { epoch = record { 0 = f.processes.commits_heard p }; parts = part ∷ parts }) d (sym is)) all

module _ (c : Config) (p : ℕ) (ms : List Moment) (m : Moment) where
  by : (es : List ProcessEvent) → m.events p ≡ es → AllByRecursion BackFits es → AllByRecursion BackFits (m.events p)
  by es is all = subst (AllByRecursion BackFits) (sym is) all

  heard_backs : (b : UpBundle) (answer : Answer) (back : Option DownBundle) → is_done answer ≡ true → ((d : DownBundle) → back ≡ Some d → AllByRecursion IsCommitPart d.parts) → AllByRecursion BackFits (heard (length ms + 1) (Own b) answer m.says back)
  heard_backs b (answers.Parts ns) None done fits = by_if (λ e. BackFits e × Unit {0}) (is_done (answers.Parts ns)) (Accepts (length ms + 1) (Own b)) (Ignores (length ms + 1) (Own b)) (λ is. (tt, tt)) (λ isnt. (tt, tt))
  heard_backs b (answers.Parts ns) (Some d) done fits = (inr (fits d refl), tt)
  heard_backs b (_) back done fits = absurd cc

  sent_backs : (o : Option UpBundle) (es : List ProcessEvent) → AllByRecursion BackFits es → AllByRecursion BackFits (written o ++ es)
  sent_backs None es all = all
  sent_backs (Some b) es all = (tt, all)

  told_backs : (k : ℕ) (o : Option DownBundle) → AllByRecursion BackFits (told k m.says o ∷ [])
  told_backs k None = (tt, tt)
  told_backs k (Some d) = (tt, tt)

  hears_backs : (b : UpBundle) → Hearing c p ms m b → AllByRecursion BackFits (m.events p)
  hears_backs b (AsMade x a e) = by _ e.events (tt, tt)
  hears_backs b (AsLate x a d e) = by _ e.events (inl (λ y f. ap (value_in_parts y f) e.parts), tt)
  hears_backs b (AsDrop x e) = by _ e.events (tt, tt)
  hears_backs b (AsOldDrop x e) = by _ e.events (tt, tt)
  hears_backs b (AsAcks e) = by _ e.events (tt, tt)
  hears_backs b (AsCommit x t ns back e) = by _ e.events (heard_backs b m.answer back e.done (λ d is. bundle_parts (facts_now c (m ∷ ms)) p (sent_back ns (facts_now c ms) x) d (back_commits x (values_where (is_noted is_reverted ns) (facts_now c ms) x)) (sym is ∙ e.is_back)))
  hears_backs b (AsOldCommit x t e) = by _ e.events (tt, tt)
  hears_backs b (AsOver e) = by _ e.events (tt, tt)

  pub entry_backs : Entry c p ms m → AllByRecursion BackFits (m.events p)
  entry_backs (Idle is) = by _ is.events tt
  entry_backs (Sets x t b is) = by _ is.events (tt, tt)
  entry_backs (Frames a b is) = by _ is.events (tt, (tt, tt))
  entry_backs (Drops x b is) = by _ is.events (tt, (tt, tt))
  entry_backs (TakesOne d rest is) = by _ is.events (sent_backs _ (Takes d ∷ []) (tt, tt))
  entry_backs (Tells posts is) = by _ is.events (told_backs _ _)
  entry_backs (Killing d is) = by _ is.events (tt, (tt, tt))
  entry_backs (HearsOne b rest first hears) = hears_backs b hears

-- ---- the point

content_same : (x : ContextId) (f : Field) (ln ln' : List ContextId) (parts : List DownPart) → AllByRecursion IsCommitPart parts → content_of x ln f parts ≡ content_of x ln' f parts
content_same x f ln ln' [] all = refl
content_same x f ln ln' (downs.Commit y t ∷ parts) all = ap (given (value_for x f y t)) (content_same x f ln ln' parts all.1)
content_same x f ln ln' (_ ∷ parts) all = absurd all.0

base_reverted : (k : ℕ) (w : Option Value) (c : Content Value) (t : Trace Value) → words.base (reverted_for k w c t) ≡ words.base t
base_reverted k None c t = refl
base_reverted k (Some v) (Gives b) t = refl
base_reverted k (Some v) Nothing t = refl
base_reverted k (Some v) (Begins b) t = refl
base_reverted k (Some v) Removes t = refl
base_reverted k (Some v) Leaves t = refl

-- commits stand alone already
singles_same : (parts : List DownPart) → AllByRecursion IsCommitPart parts → singles parts ≡ parts
singles_same [] all = refl
singles_same (downs.Commit y t ∷ parts) all = ap (λ ds. downs.Commit y t ∷ ds) (singles_same parts all.1)
singles_same (_ ∷ parts) all = absurd all.0

pub base_same : (x : ContextId) (f : Field) (mk mk' : List Making) (h : List ProcessEvent) → words.base (trace_for (look x f mk) h) ≡ words.base (trace_for (look x f mk') h)
base_same x f mk mk' [] = refl
base_same x f mk mk' (Takes d ∷ h) = refl
base_same x f mk mk' (Reverts k w d ∷ h) =
    base_reverted k (value_written x f w) (content_of x (line x mk) f (singles d.parts)) (trace_for (look x f mk) h) ∙ base_same x f mk mk' h ∙ sym (base_reverted k (value_written x f w) (content_of x (line x mk') f (singles d.parts)) (trace_for (look x f mk') h))
base_same x f mk mk' (_ ∷ h) = base_same x f mk mk' h

accepted_reverted : (k : ℕ) (w : Option Value) (c : Content Value) (t t' : Trace Value) → words.accepted_at t ≡ words.accepted_at t' → words.accepted_at (reverted_for k w c t) ≡ words.accepted_at (reverted_for k w c t')
accepted_reverted k None c t t' e = e
accepted_reverted k (Some v) (Gives b) t t' e = e
accepted_reverted k (Some v) Nothing t t' e = refl
accepted_reverted k (Some v) (Begins b) t t' e = refl
accepted_reverted k (Some v) Removes t t' e = refl
accepted_reverted k (Some v) Leaves t t' e = refl

pub accepted_same : (x : ContextId) (f : Field) (mk mk' : List Making) (h : List ProcessEvent) → AllByRecursion BackFits h → words.accepted_at (trace_for (look x f mk) h) ≡ words.accepted_at (trace_for (look x f mk') h)
accepted_same x f mk mk' [] all = refl
accepted_same x f mk mk' (Accepts k w ∷ h) all = ap (words.latest_number (value_written x f w) k) (accepted_same x f mk mk' h all.1)
accepted_same x f mk mk' (Reverts k w d ∷ h) all = by_back all.0 (accepted_same x f mk mk' h all.1)
  where
    by_back : ((y : ContextId) (g : Field) → value_written y g w ≡ None) ⊎ AllByRecursion IsCommitPart d.parts → words.accepted_at (trace_for (look x f mk) h) ≡ words.accepted_at (trace_for (look x f mk') h)
        → words.accepted_at (reverted_for k (value_written x f w) (content_of x (line x mk) f (singles d.parts)) (trace_for (look x f mk) h)) ≡ words.accepted_at (reverted_for k (value_written x f w) (content_of x (line x mk') f (singles d.parts)) (trace_for (look x f mk') h))
    by_back (inl none) rest =
        ap (λ v. words.accepted_at (reverted_for k v (content_of x (line x mk) f (singles d.parts)) (trace_for (look x f mk) h))) (none x f) ∙ rest
        ∙ sym (ap (λ v. words.accepted_at (reverted_for k v (content_of x (line x mk') f (singles d.parts)) (trace_for (look x f mk') h))) (none x f))
    by_back (inr commits) rest =
        accepted_reverted k (value_written x f w) (content_of x (line x mk) f (singles d.parts)) (trace_for (look x f mk) h) (trace_for (look x f mk') h) rest
        ∙ ap (λ c. words.accepted_at (reverted_for k (value_written x f w) c (trace_for (look x f mk') h))) (ap (content_of x (line x mk) f) (singles_same d.parts commits) ∙ content_same x f (line x mk) (line x mk') d.parts commits ∙ sym (ap (content_of x (line x mk') f) (singles_same d.parts commits)))
accepted_same x f mk mk' (_ ∷ h) all = accepted_same x f mk mk' h all.1
