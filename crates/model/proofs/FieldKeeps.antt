-- What holds of a field at each moment is kept by every entry, and holds at the start.
use Rattle.std.proofs.Common.{◌≡◌, ◌⊎◌, inl, inr, ℕ, ◌+◌, Bool, true, false, if◌then◌else◌, Option, None, Some, List, [], ◌∷◌, ◌++◌, length, refl, ap, sym, subst, ◌∙◌, arith}
use Rattle.std.specs.List.{AllByRecursion, list_any}
use Rattle.fission_ids.specs.declared.context.ContextId.{ContextId}
use Rattle.fission_ids.specs.Ids.{same_context}
use Rattle.field_table.specs.declared.field.Field.{Field}
use Rattle.field_table.specs.declared.value.Value.{Value}
use Rattle.field_table.specs.Field.{initial}
use Rattle.transaction.specs.Transaction.{Changes, new_value}
use Rattle.wire_msgs.specs.declared.bundle.DownBundle.{DownBundle}
use Rattle.wire_msgs.specs.declared.bundle.UpBundle.{UpBundle}
use Rattle.wire_msgs.specs.declared.config.Config.{Config}
use Rattle.wire_msgs.specs.declared.note.FieldNote.{FieldNote}
use Rattle.wire_msgs.specs.declared.part.DownPart.{DownPart}
use Rattle.wire_msgs.specs.declared.part.DownPart.TheVariants as downs
use Rattle.wire_msgs.specs.declared.part.UpPart.{UpPart}
use Rattle.wire_msgs.specs.declared.part.UpPart.TheVariants as ups
use Rattle.protocol.specs.Bundle.{bundle_for}
use Rattle.protocol.specs.Commits.{applied, sent_back}
use Rattle.protocol.specs.Fold.{or_later}
use Rattle.protocol.specs.Order.{in_order}
use Rattle.protocol.specs.OwnActs.{next_frame}
use Rattle.protocol.specs.Sayings.{Saying}
use Rattle.protocol.specs.Sayings.Saying.{Made, BornDead, Removed, Wrote as SaysWrote, Acked, Counted, Sent}
use Rattle.protocol.specs.Take.{bundle_sent, is_kill}
use Rattle.traces.specs.Event.{Bundle}
use Rattle.traces.specs.Event.Event.{Writes, Sends, Takes, Accepts, Reverts, Ignores, Ends}
use Rattle.traces.specs.Field.{Content, Trace, reverted_for}
use Rattle.traces.specs.Field.Content.{Nothing, Gives, Removes}
use Rattle.traces.specs.Links.{writes, bundles_sent, hears}
use Rattle.traces.specs.Rules.{Flows, IsNoNews, NoNews}
use Rattle.traces.specs.Words.{or_else}
use Rattle.traces.specs.Words.Stage.{Coming, Held}
use Rattle.traces.specs.Words as words
use Rattle.traces.proofs.Stages.{untouched_value}
use Rattle.trees.specs.Look.{Effect}
use Rattle.trees.specs.Look.Effect.{Stays as NoEffect, Comes, Goes}
use Rattle.trees.specs.Words.{Stands}
use Rattle.trees.proofs.Effects.{new_before}
use Rattle.trees.proofs.Lists.{all_push}
use Rattle.model.specs.Lines.{Making, line, above_in, is_among}
use Rattle.model.specs.Moments.{Moment, Written, ProcessEvent, said, events_of, facts_now, seen_now, own_known, deed, told, heard, written}
use Rattle.model.specs.Moments.Written.{Own, Said}
use Rattle.model.specs.Parent.{known, live, value}
use Rattle.model.specs.Trees.{both, comes_if, goes_if, parts_do, says_do, tree_look}
use Rattle.model.specs.View.{value_for, value_in_parts, value_said, value_written, singles, content_of}
use Rattle.model.proofs.Cases.{by_if, true_false, same_context_is, none_some}
use Rattle.model.proofs.Contents.{content_by, later_none}
use Rattle.model.proofs.Entry.{IsAck, IsSending, IsAcking, Says, HeardCommit, Hearing, Entry, Posted}
use Rattle.model.proofs.Entry.Entry.{Idle, Sets, Frames, Drops, TakesOne, Tells, Killing, HearsOne}
use Rattle.model.proofs.Entry.Hearing.{AsMade, AsLate, AsDrop, AsOldDrop, AsAcks, AsCommit, AsOldCommit, AsOver}
use Rattle.model.proofs.FieldBefore.{FieldBefore, FieldTies, MadeFirst, IsUnsaid, stage_until}
use Rattle.model.proofs.FieldFacts.{entry_fits, unsaid, value_behind, WasApplied, WasSentBack, back_single, heard_accepts, heard_reverts}
use Rattle.model.proofs.FieldFits.{acks_write, fits_next, fits_frame, framed_above, held_tree, commit_answer, wrote_is}
use Rattle.model.proofs.Living.{both_stays, comes_when}
use Rattle.model.proofs.Owning.{known_all, created_known}
use Rattle.model.proofs.PostedContents.{is_aware, posted_content, LateContent, late_content}
use Rattle.model.proofs.PostedContents.LateContent.{IsNothing, IsWhole, IsRemoved}
use Rattle.model.proofs.Rising.{entry_next}
use Rattle.model.proofs.Stages.{trace_of, tree_stage, same_stage, acks_posted, by_acks, acks_do}
use Rattle.model.proofs.Telling.{Saids, comes_created}

-- ---- sayings that have no value

sent_value : (x : ContextId) (fld : Field) (sent core : List Saying) → AllByRecursion IsSending sent → value_said x fld (sent ++ core) ≡ value_said x fld core
sent_value x fld [] core all = refl
sent_value x fld (Sent q ∷ sent) core all = sent_value x fld sent core all.1
sent_value x fld (_ ∷ sent) core all = absurd all.0

acking_value : (x : ContextId) (fld : Field) (ys : List Saying) → AllByRecursion IsAcking ys → value_said x fld ys ≡ None
acking_value x fld [] all = refl
acking_value x fld (Acked q y ∷ ys) all = acking_value x fld ys all.1
acking_value x fld (Sent q ∷ ys) all = acking_value x fld ys all.1
acking_value x fld (_ ∷ ys) all = absurd all.0

news_push : {V : Type 0} (ds : List (Bundle (Content V))) (d : Bundle (Content V)) → NoNews ds → IsNoNews d.content → NoNews (ds ++ d ∷ [])
news_push [] d none one = (one, tt)
news_push (e ∷ ds) d none one = (none.0, news_push ds d none.1 one)

unsaid_sends : {V : Type 0} (k : ℕ) (u : Option V) (e : Content V) (h : Trace V) → u ≡ None → IsNoNews e → IsUnsaid h → IsUnsaid (Sends k u e ∷ h)
unsaid_sends k u e h none one un = record { untouched = (none, un.untouched); no_news = news_push (bundles_sent h) (record { entry = k; epoch = hears h; content = e }) un.no_news one }

unsaid_accepts : {V : Type 0} (k : ℕ) (w : Option V) (h : Trace V) → w ≡ None → IsUnsaid h → IsUnsaid (Accepts k w ∷ h)
unsaid_accepts k w h none un = record { untouched = (none, un.untouched); no_news = un.no_news }

-- one that comes back of nothing that was written
unsaid_back : {V : Type 0} (k : ℕ) (w : Option V) (e : Content V) (h : Trace V) → w ≡ None → IsNoNews e → IsUnsaid h → IsUnsaid (reverted_for k w e h)
unsaid_back k None e h none one un = unsaid_sends k None e (Accepts k None ∷ h) refl one (unsaid_accepts k None h refl un)
unsaid_back k (Some v) e h none one un = none_some v (sym none)

no_news_by : (e : Effect) (v : Value) → (e ≡ Comes → ⊥) → IsNoNews (content_by e None v)
no_news_by NoEffect v other = tt
no_news_by Comes v other = absurd (other refl)
no_news_by Goes v other = tt

-- ---- writes

stands_push : {W : Type 0} (does : W → Effect) (ws : List W) (w : W) → (does w ≡ Comes → ⊥) → (Stands does Comes ws → ⊥) → Stands does Comes (ws ++ w ∷ []) → ⊥
stands_push does [] w other none (inl is) = other is
stands_push does [] w other none (inr more) = more
stands_push does (v ∷ ws) w other none (inl is) = none (inl is)
stands_push does (v ∷ ws) w other none (inr more) = stands_push does ws w other (λ s. none (inr s)) more

made_push : (does : Written → Effect) (value_in : Written → Option Value) (ws : List Written) (w : Written) → (does w ≡ Comes → ⊥) → MadeFirst does value_in ws → MadeFirst does value_in (ws ++ w ∷ [])
made_push does value_in [] w other made = (inr (λ none. none), tt)
made_push does value_in (v ∷ ws) w other made = (further made.0, made_push does value_in ws w other made.1)
  where
    further : (value_in v ≡ None) ⊎ (Stands does Comes ws → ⊥) → (value_in v ≡ None) ⊎ (Stands does Comes (ws ++ w ∷ []) → ⊥)
    further (inl none) = inl none
    further (inr none) = inr (stands_push does ws w other none)

made_new : (does : Written → Effect) (value_in : Written → Option Value) (ws : List Written) (w : Written) → AllByRecursion (λ v. value_in v ≡ None) ws → MadeFirst does value_in (ws ++ w ∷ [])
made_new does value_in [] w none = (inr (λ none. none), tt)
made_new does value_in (v ∷ ws) w none = (inl none.0, made_new does value_in ws w none.1)

module _ (c : Config) (p : ℕ) (mk : List Making) (x : ContextId) (fld : Field) (ms : List Moment) (m : Moment) (b : FieldBefore c p mk ms m) (t : FieldTies c p mk x fld ms) where
  abbrev h : List ProcessEvent
  h = events_of p ms

  abbrev T : Trace Value
  T = trace_of c p mk x fld (events_of p ms)

  abbrev Next : List ProcessEvent → Trace Value
  Next es = trace_of c p mk x fld (es ++ events_of p ms)

  -- ---- the parent's value

  abbrev ValueIs : List ProcessEvent → List Saying → Type 0
  ValueIs es ys = words.value (initial fld) (trace_of c p mk x fld (es ++ events_of p ms)) ≡ or_else (value_said x fld ys) (words.value (initial fld) (trace_of c p mk x fld (events_of p ms)))

  -- where no value was said and none heard
  value_still : (es : List ProcessEvent) → m.events p ≡ es → value_said x fld m.says ≡ None → words.value (initial fld) (trace_of c p mk x fld (es ++ events_of p ms)) ≡ words.value (initial fld) (trace_of c p mk x fld (events_of p ms))
      → ValueIs (m.events p) m.says
  value_still es is none same =
      ap (λ gs. words.value (initial fld) (Next gs)) is ∙ same ∙ ap (λ o. or_else o (words.value (initial fld) T)) (sym none)

  value_accepted : (k : ℕ) (u : UpBundle) → m.events p ≡ Accepts k (Own u) ∷ [] → value_said x fld m.says ≡ value_in_parts x fld u.parts → ValueIs (m.events p) m.says
  value_accepted k u is same = ap (λ gs. words.value (initial fld) (Next gs)) is ∙ ap (λ o. or_else o (words.value (initial fld) T)) (sym same)

  value_reverted : (k : ℕ) (u : UpBundle) (d : DownBundle) → m.events p ≡ Reverts k (Own u) d ∷ []
      → words.value (initial fld) (reverted_for k (value_in_parts x fld u.parts) (content_of x (line x mk) fld (singles d.parts)) (trace_of c p mk x fld (events_of p ms))) ≡ or_else (value_said x fld m.says) (words.value (initial fld) (trace_of c p mk x fld (events_of p ms)))
      → ValueIs (m.events p) m.says
  value_reverted k u d is same = ap (λ gs. words.value (initial fld) (Next gs)) is ∙ same

  core_value : (core : List Saying) → Says c p ms m core → value_said x fld m.says ≡ value_said x fld core
  core_value core s = ap (value_said x fld) s.is ∙ sent_value x fld s.sent core s.all_sent

  commit_said : (y : ContextId) (d : Changes) → Says c p ms m (SaysWrote y d ∷ Counted p ∷ []) → value_said x fld m.says ≡ value_for x fld y d
  commit_said y d s = core_value (SaysWrote y d ∷ Counted p ∷ []) s ∙ later_none (value_for x fld y d)

  parts_of : (e : DownBundle) (parts : List DownPart) → bundle_for (facts_now c (m ∷ ms)) p parts ≡ Some e → parts ≡ e.parts
  parts_of e [] none = none_some e none
  parts_of e (a ∷ parts) one = ap (λ (v : DownBundle). v.parts) (Rattle.model.proofs.Cases.some_is _ e one)

  module _ (u : UpBundle) (y : ContextId) (d : Changes) (ns : List FieldNote) (back : Option DownBundle) (is : HeardCommit c p ms m u y d ns back) where
    says_is : value_said x fld m.says ≡ value_for x fld y (applied ns d)
    says_is = commit_said y (applied ns d) is.says

    heard_is : value_in_parts x fld u.parts ≡ value_for x fld y d
    heard_is = wrote_is c p mk x fld ms m b t u y d ns back is

    abbrev Back : Content Value
    Back = content_of x (line x mk) fld (sent_back ns (facts_now c ms) y)

    -- none comes back, so it was applied
    commit_applied : Back ≡ Nothing → value_said x fld m.says ≡ value_in_parts x fld u.parts
    commit_applied none = by_answer (commit_answer c p mk x fld ms m b t u y d ns back is)
      where
        by_answer : WasApplied (value_for x fld y d) (value_for x fld y (applied ns d)) (content_of x (line x mk) fld (sent_back ns (facts_now c ms) y))
            ⊎ WasSentBack ((facts_now c ms).contexts.value x fld) (value_for x fld y d) (value_for x fld y (applied ns d)) (content_of x (line x mk) fld (sent_back ns (facts_now c ms) y))
            → value_said x fld m.says ≡ value_in_parts x fld u.parts
        by_answer (inl a) = says_is ∙ a.said ∙ sym heard_is
        by_answer (inr r) = let two : Gives r.returns ≡ Nothing = sym r.gives ∙ none in absurd cc

    commit_back : (k : ℕ) (content : Content Value) → content_of x (line x mk) fld (sent_back ns (facts_now c ms) y) ≡ content
        → words.value (initial fld) (reverted_for k (value_in_parts x fld u.parts) content (trace_of c p mk x fld (events_of p ms))) ≡ or_else (value_said x fld m.says) (words.value (initial fld) (trace_of c p mk x fld (events_of p ms)))
    commit_back k content e = by_answer (commit_answer c p mk x fld ms m b t u y d ns back is)
      where
        none_back : (o : Option Value) → words.value (initial fld) (reverted_for k o Nothing (trace_of c p mk x fld (events_of p ms))) ≡ or_else o (words.value (initial fld) (trace_of c p mk x fld (events_of p ms)))
        none_back None = refl
        none_back (Some v) = refl

        by_answer : WasApplied (value_for x fld y d) (value_for x fld y (applied ns d)) (content_of x (line x mk) fld (sent_back ns (facts_now c ms) y))
            ⊎ WasSentBack ((facts_now c ms).contexts.value x fld) (value_for x fld y d) (value_for x fld y (applied ns d)) (content_of x (line x mk) fld (sent_back ns (facts_now c ms) y))
            → words.value (initial fld) (reverted_for k (value_in_parts x fld u.parts) content (trace_of c p mk x fld (events_of p ms))) ≡ or_else (value_said x fld m.says) (words.value (initial fld) (trace_of c p mk x fld (events_of p ms)))
        by_answer (inl a) =
            ap (λ o. words.value (initial fld) (reverted_for k (value_in_parts x fld u.parts) o T)) (sym e ∙ a.nothing) ∙ none_back (value_in_parts x fld u.parts)
            ∙ ap (λ o. or_else o (words.value (initial fld) T)) (sym (says_is ∙ a.said ∙ sym heard_is))
        by_answer (inr r) =
            ap (λ o. words.value (initial fld) (reverted_for k (value_in_parts x fld u.parts) o T)) (sym e ∙ r.gives)
            ∙ ap (λ o. words.value (initial fld) (reverted_for k o (Gives r.returns) T)) (heard_is ∙ r.written)
            ∙ ap (λ o. or_else o (words.value (initial fld) T)) (sym (says_is ∙ r.said))

    commit_value : (o : Option DownBundle) → m.events p ≡ heard (length ms + 1) (Own u) m.answer m.says o → bundle_for (facts_now c (m ∷ ms)) p (sent_back ns (facts_now c ms) y) ≡ o → ValueIs (m.events p) m.says
    commit_value None events e = value_accepted (length ms + 1) u (events ∙ heard_accepts (length ms + 1) (Own u) m.answer m.says is.done) (commit_applied (none_of (sent_back ns (facts_now c ms) y) e))
      where
        none_of : (parts : List DownPart) → bundle_for (facts_now c (m ∷ ms)) p parts ≡ None → content_of x (line x mk) fld parts ≡ Nothing
        none_of [] e = refl
        none_of (a ∷ parts) e = absurd cc
    commit_value (Some e) events same =
        value_reverted (length ms + 1) u e (events ∙ heard_reverts (length ms + 1) (Own u) m.answer m.says e is.done)
        (commit_back (length ms + 1) (content_of x (line x mk) fld (singles e.parts))
        (ap (content_of x (line x mk) fld) (sym (back_single ns (facts_now c ms) y) ∙ ap singles (parts_of e (sent_back ns (facts_now c ms) y) same))))

  acks_value : (d : Bundle DownBundle) (parts : List UpPart) → AllByRecursion IsAck parts
      → words.value (initial fld) (trace_of c p mk x fld ((written (bundle_sent (seen_now c p (m ∷ ms)) parts) ++ Takes d ∷ []) ++ events_of p ms)) ≡ words.value (initial fld) (trace_of c p mk x fld (events_of p ms))
  acks_value d parts acks = by_acks (λ es. words.value (initial fld) (trace_of c p mk x fld ((es ++ Takes d ∷ []) ++ events_of p ms)) ≡ words.value (initial fld) (trace_of c p mk x fld (events_of p ms))) (seen_now c p (m ∷ ms)) parts acks refl (λ u plain. refl)

  told_value : (parts : List DownPart) → words.value (initial fld) (trace_of c p mk x fld (told (length ms + 1) m.says (bundle_for (facts_now c (m ∷ ms)) p parts) ∷ events_of p ms)) ≡ or_else (value_said x fld m.says) (words.value (initial fld) (trace_of c p mk x fld (events_of p ms)))
  told_value [] = refl
  told_value (d ∷ ds) = refl

  late_value : (k : ℕ) (u : UpBundle) (y a : ContextId) (e : Content Value) → u.parts ≡ ups.Create y a ∷ [] → words.value (initial fld) (reverted_for k (value_in_parts x fld u.parts) e (trace_of c p mk x fld (events_of p ms))) ≡ words.value (initial fld) (trace_of c p mk x fld (events_of p ms))
  late_value k u y a e is = ap (λ ps. words.value (initial fld) (reverted_for k (value_in_parts x fld ps) e T)) is

  none_said : m.says ≡ [] → value_said x fld m.says ≡ None
  none_said is = ap (value_said x fld) is

  hears_value : (u : UpBundle) → Hearing c p ms m u → ValueIs (m.events p) m.says
  hears_value u (AsMade y a is) = value_accepted (length ms + 1) u is.events (core_value (Made p y a ∷ []) is.says ∙ sym (ap (value_in_parts x fld) is.parts))
  hears_value u (AsLate y a d is) = value_reverted (length ms + 1) u d is.events
      (late_value (length ms + 1) u y a (content_of x (line x mk) fld (singles d.parts)) is.parts ∙ ap (λ o. or_else o (words.value (initial fld) T)) (sym (core_value (BornDead p y a ∷ []) is.says)))
  hears_value u (AsDrop y is) = value_accepted (length ms + 1) u is.events (core_value (Removed y (Some p) ∷ []) is.says ∙ sym (ap (value_in_parts x fld) is.parts))
  hears_value u (AsOldDrop y is) = value_still (Ignores (length ms + 1) (Own u) ∷ []) is.events (none_said is.says) refl
  hears_value u (AsAcks is) = value_accepted (length ms + 1) u is.events (acking_value x fld m.says is.says ∙ sym (acks_write x fld u.parts is.parts))
  hears_value u (AsCommit y d ns back is) = commit_value u y d ns back is back is.events (sym is.is_back)
  hears_value u (AsOldCommit y d is) = value_still (Ignores (length ms + 1) (Own u) ∷ []) is.events (ap (value_said x fld) is.says) refl
  hears_value u (AsOver is) = value_still (Ignores (length ms + 1) (Own u) ∷ []) is.events (none_said is.says) refl

  value_next : Entry c p ms m → ValueIs (m.events p) m.says
  value_next (Idle is) = value_still [] is.events (none_said is.says) refl
  value_next (Sets y d u is) = value_still (Writes (Own u) ∷ []) is.events (none_said is.says) refl
  value_next (Frames a u is) = value_still (Writes (Own u) ∷ deed (downs.Create (own_known (seen_now c p (m ∷ ms)) (next_frame p (seen_now c p ms)) a)) ∷ []) is.events (none_said is.says) refl
  value_next (Drops y u is) = value_still (Writes (Own u) ∷ deed (downs.Discard y) ∷ []) is.events (none_said is.says) refl
  value_next (TakesOne d rest is) = value_still _ is.events (none_said is.says)
      (acks_value d _ (by_if (AllByRecursion IsAck) (list_any is_kill d.content.parts) [] _ (λ kill. tt) (λ lives. acks_posted p d.content.epoch.0 _ _ d.content.parts [])))
  value_next (Tells posts is) = ap (λ gs. words.value (initial fld) (Next gs)) is.events ∙ told_value (in_order posts)
  value_next (Killing d is) = value_still (Ends ∷ Sends (length ms + 1) (Said m.says) d ∷ []) is.events (ap (value_said x fld) is.says)
      (ap (λ o. or_else o (words.value (initial fld) T)) (ap (value_said x fld) is.says))
  value_next (HearsOne u rest first hears) = hears_value u hears

  saids : Entry c p ms m → Saids c mk b.lined (said ms) b.facts m.says
  saids e = record { told = b.told; fits = entry_fits c p ms m b.low e }

  pub told_next : Entry c p ms m → (facts_now c (m ∷ ms)).contexts.live x ≡ true → (facts_now c (m ∷ ms)).contexts.value x fld ≡ Some (words.value (initial fld) (trace_of c p mk x fld (m.events p ++ events_of p ms)))
  told_next e live =
      value_behind c mk b.lined (said ms) b.facts x fld (words.value (initial fld) T) t.told (λ new. untouched_value (initial fld) T (t.unknown new).untouched) m.says (saids e) live
      ∙ ap Some (sym (value_next e))

  -- ---- what isn't known

  abbrev Unsaid : List ProcessEvent → Type 0
  Unsaid es = IsUnsaid (trace_of c p mk x fld (es ++ events_of p ms))

  module _ (e : Entry c p ms m) (new : (facts_now c (m ∷ ms)).contexts.known x ≡ false) where
    new_before_it : (facts_now c ms).contexts.known x ≡ false
    new_before_it = by_known ((facts_now c ms).contexts.known x) refl
      where
        by_known : (v : Bool) → (facts_now c ms).contexts.known x ≡ v → (facts_now c ms).contexts.known x ≡ false
        by_known false is = is
        by_known true is = true_false (known c.tabs x (m.says ++ said ms)) (known_all c (said ms) m.says x is) new

    un : IsUnsaid (trace_of c p mk x fld (events_of p ms))
    un = t.unknown new_before_it

    none_now : value_said x fld m.says ≡ None
    none_now = unsaid c mk b.lined (said ms) b.facts x fld m.says (saids e) new

    never_comes : says_do x (line x mk) m.says ≡ Comes → ⊥
    never_comes comes = true_false (known c.tabs x (m.says ++ said ms)) (created_known c (said ms) m.says x (entry_fits c p ms m b.low e) (comes_created x mk m.says comes)) new

    unsaid_told : (posts : List DownPart) → Posted c p (said ms) m.says posts → (parts : List DownPart) → in_order posts ≡ parts → Flows (told (length ms + 1) m.says (bundle_for (facts_now c (m ∷ ms)) p parts) ∷ events_of p ms)
        → Unsaid (told (length ms + 1) m.says (bundle_for (facts_now c (m ∷ ms)) p parts) ∷ [])
    unsaid_told posts posted [] is flows = record { untouched = (none_now, un.untouched); no_news = un.no_news }
    unsaid_told posts posted (d ∷ ds) is flows = unsaid_sends (length ms + 1) (value_said x fld m.says) (content_of x (line x mk) fld (singles (d ∷ ds))) T none_now
        (subst (λ ps. IsNoNews (content_of x (line x mk) fld (singles ps))) is (by_told (is_aware c p mk x (said ms)) refl)) un
      where
        base : Value
        base = words.value (initial fld) (trace_of c p mk x fld (events_of p ms))

        late_news : (d : Content Value)
            → LateContent c p mk b.lined (said ms) b.facts b.low x fld base t.told (λ new. untouched_value (initial fld) T (t.unknown new).untouched) m.says d → IsNoNews d
        late_news d (IsNothing is) = subst IsNoNews (sym is) tt
        late_news d (IsWhole is_known is) = true_false (known c.tabs x (m.says ++ said ms)) is_known new
        late_news d (IsRemoved is) = subst IsNoNews (sym is) tt

        by_told : (v : Bool) → is_aware c p mk x (said ms) ≡ v → IsNoNews (content_of x (line x mk) fld (singles (in_order posts)))
        by_told true aware = subst IsNoNews
            (sym (posted_content c p mk b.lined (said ms) b.facts b.low x fld aware m.says posts (saids e) posted ∙ ap (λ o. content_by (says_do x (line x mk) m.says) o (initial fld)) none_now))
            (no_news_by (says_do x (line x mk) m.says) (initial fld) never_comes)
        by_told false unaware = late_news (content_of x (line x mk) fld (singles (in_order posts)))
            (late_content c p mk b.lined (said ms) b.facts b.low x fld base t.told (λ new. untouched_value (initial fld) T (t.unknown new).untouched) unaware m.says posts (saids e) posted)

    unsaid_late : (k : ℕ) (u : UpBundle) (y a : ContextId) (d : DownBundle) → u.parts ≡ ups.Create y a ∷ [] → d.parts ≡ downs.Discard y ∷ [] → Unsaid (Reverts k (Own u) d ∷ [])
    unsaid_late k u y a d is back =
        unsaid_back k (value_in_parts x fld u.parts) (content_of x (line x mk) fld (singles d.parts)) T (ap (value_in_parts x fld) is)
        (subst (λ ds. IsNoNews (content_of x (line x mk) fld (singles ds))) (sym back) (by_line (is_among y (line x mk)))) un
      where
        by_line : (v : Bool) → IsNoNews {V = Value} (if v then Removes else Nothing)
        by_line true = tt
        by_line false = tt

    module _ (u : UpBundle) (y : ContextId) (d : Changes) (ns : List FieldNote) (back : Option DownBundle) (is : HeardCommit c p ms m u y d ns back) where
      elsewhere : same_context x y ≡ false
      elsewhere = by_same (same_context x y) refl
        where
          by_same : (v : Bool) → same_context x y ≡ v → same_context x y ≡ false
          by_same false one = one
          by_same true one = true_false ((facts_now c ms).contexts.known x) (b.facts.live_known x (ap (facts_now c ms).contexts.live (same_context_is x y one) ∙ is.live)) new_before_it

      none_wrote : value_in_parts x fld u.parts ≡ None
      none_wrote = heard_is u y d ns back is ∙ ap (λ (v : Bool). if v then new_value d fld else None) elsewhere

      none_comes_back : content_of x (line x mk) fld (sent_back ns (facts_now c ms) y) ≡ Nothing
      none_comes_back = by_answer (commit_answer c p mk x fld ms m b t u y d ns back is)
        where
          by_answer : WasApplied (value_for x fld y d) (value_for x fld y (applied ns d)) (content_of x (line x mk) fld (sent_back ns (facts_now c ms) y))
              ⊎ WasSentBack ((facts_now c ms).contexts.value x fld) (value_for x fld y d) (value_for x fld y (applied ns d)) (content_of x (line x mk) fld (sent_back ns (facts_now c ms) y))
              → content_of x (line x mk) fld (sent_back ns (facts_now c ms) y) ≡ Nothing
          by_answer (inl a) = a.nothing
          by_answer (inr r) = none_some r.value (sym none_wrote ∙ heard_is u y d ns back is ∙ r.written)

      unsaid_commit : (o : Option DownBundle) → m.events p ≡ heard (length ms + 1) (Own u) m.answer m.says o → bundle_for (facts_now c (m ∷ ms)) p (sent_back ns (facts_now c ms) y) ≡ o → Unsaid (m.events p)
      unsaid_commit None events same = subst Unsaid (sym (events ∙ heard_accepts (length ms + 1) (Own u) m.answer m.says is.done)) (unsaid_accepts (length ms + 1) (value_in_parts x fld u.parts) T none_wrote un)
      unsaid_commit (Some g) events same = subst Unsaid (sym (events ∙ heard_reverts (length ms + 1) (Own u) m.answer m.says g is.done))
          (unsaid_back (length ms + 1) (value_in_parts x fld u.parts) (content_of x (line x mk) fld (singles g.parts)) T none_wrote
          (subst IsNoNews (sym (ap (content_of x (line x mk) fld) (ap singles (sym (parts_of g (sent_back ns (facts_now c ms) y) same)) ∙ back_single ns (facts_now c ms) y) ∙ none_comes_back)) tt) un)

    unsaid_hears : (u : UpBundle) → Hearing c p ms m u → Unsaid (m.events p)
    unsaid_hears u (AsMade y a is) = subst Unsaid (sym is.events) (unsaid_accepts (length ms + 1) (value_in_parts x fld u.parts) T (ap (value_in_parts x fld) is.parts) un)
    unsaid_hears u (AsLate y a d is) = subst Unsaid (sym is.events) (unsaid_late (length ms + 1) u y a d is.parts is.back)
    unsaid_hears u (AsDrop y is) = subst Unsaid (sym is.events) (unsaid_accepts (length ms + 1) (value_in_parts x fld u.parts) T (ap (value_in_parts x fld) is.parts) un)
    unsaid_hears u (AsOldDrop y is) = subst Unsaid (sym is.events) (record { untouched = un.untouched; no_news = un.no_news })
    unsaid_hears u (AsAcks is) = subst Unsaid (sym is.events) (unsaid_accepts (length ms + 1) (value_in_parts x fld u.parts) T (acks_write x fld u.parts is.parts) un)
    unsaid_hears u (AsCommit y d ns back is) = unsaid_commit u y d ns back is back is.events (sym is.is_back)
    unsaid_hears u (AsOldCommit y d is) = subst Unsaid (sym is.events) (record { untouched = un.untouched; no_news = un.no_news })
    unsaid_hears u (AsOver is) = subst Unsaid (sym is.events) (record { untouched = un.untouched; no_news = un.no_news })

    unsaid_acks : (d : Bundle DownBundle) (parts : List UpPart) → AllByRecursion IsAck parts → Unsaid (written (bundle_sent (seen_now c p (m ∷ ms)) parts) ++ Takes d ∷ [])
    unsaid_acks d parts acks = by_acks (λ es. Unsaid (es ++ Takes d ∷ [])) (seen_now c p (m ∷ ms)) parts acks (record { untouched = un.untouched; no_news = un.no_news }) (λ u plain. record { untouched = un.untouched; no_news = un.no_news })

    unsaid_of : Entry c p ms m → Unsaid (m.events p)
    unsaid_of (Idle is) = subst Unsaid (sym is.events) un
    unsaid_of (Sets y d u is) = subst Unsaid (sym is.events) (record { untouched = un.untouched; no_news = un.no_news })
    unsaid_of (Frames a u is) = subst Unsaid (sym is.events) (record { untouched = un.untouched; no_news = un.no_news })
    unsaid_of (Drops y u is) = subst Unsaid (sym is.events) (record { untouched = un.untouched; no_news = un.no_news })
    unsaid_of (TakesOne d rest is) = subst Unsaid (sym is.events)
        (unsaid_acks d _ (by_if (AllByRecursion IsAck) (list_any is_kill d.content.parts) [] _ (λ kill. tt) (λ lives. acks_posted p d.content.epoch.0 _ _ d.content.parts [])))
    unsaid_of (Tells posts is) = subst Unsaid (sym is.events) (unsaid_told posts is.posted (in_order posts) refl (subst (λ es. Flows (es ++ events_of p ms)) is.events b.next_flows))
    unsaid_of (Killing d is) = subst Unsaid (sym is.events) (record { untouched = sent.untouched; no_news = sent.no_news })
      where
        sent : IsUnsaid (Sends (length ms + 1) (value_said x fld m.says) (content_of x (line x mk) fld (singles d.parts)) ∷ trace_of c p mk x fld (events_of p ms))
        sent = unsaid_sends (length ms + 1) (value_said x fld m.says) (content_of x (line x mk) fld (singles d.parts)) T none_now (subst (λ ds. IsNoNews (content_of x (line x mk) fld (singles ds))) (sym is.kill) tt) un
    unsaid_of (HearsOne u rest first hears) = unsaid_hears u hears

    pub unknown_next : IsUnsaid (trace_of c p mk x fld (m.events p ++ events_of p ms))
    unknown_next = unsaid_of e

  -- ---- writes

  -- both of the events that add no writes and change no stage
  pub record WritesNext (es : List ProcessEvent) : Type 0 where
    pub unwritten : tree_stage c p mk x fld (es ++ events_of p ms) ≡ Coming → AllByRecursion (λ w. value_written x fld w ≡ None) (writes (es ++ events_of p ms))
    pub made_first : MadeFirst ((tree_look c p mk).does x) (value_written x fld) (writes (es ++ events_of p ms))

  as_before : WritesNext []
  as_before = record { unwritten = t.unwritten; made_first = t.made_first }

  told_writes : (k : ℕ) (ys : List Saying) (o : Option DownBundle) → WritesNext (told k ys o ∷ [])
  told_writes k ys None = record { unwritten = t.unwritten; made_first = t.made_first }
  told_writes k ys (Some d) = record { unwritten = t.unwritten; made_first = t.made_first }

  accepts_writes : (k : ℕ) (u : UpBundle) → WritesNext (Accepts k (Own u) ∷ [])
  accepts_writes k u = record { unwritten = t.unwritten; made_first = t.made_first }

  ignores_writes : (k : ℕ) (u : UpBundle) → WritesNext (Ignores k (Own u) ∷ [])
  ignores_writes k u = record { unwritten = t.unwritten; made_first = t.made_first }

  reverts_writes : (k : ℕ) (u : UpBundle) (d : DownBundle) → WritesNext (Reverts k (Own u) d ∷ [])
  reverts_writes k u d = record { unwritten = t.unwritten; made_first = t.made_first }

  commit_writes : (u : UpBundle) (y : ContextId) (d : Changes) (ns : List FieldNote) (back : Option DownBundle) → HeardCommit c p ms m u y d ns back → (o : Option DownBundle) → m.events p ≡ heard (length ms + 1) (Own u) m.answer m.says o → WritesNext (m.events p)
  commit_writes u y d ns back is None events = subst WritesNext (sym (events ∙ heard_accepts (length ms + 1) (Own u) m.answer m.says is.done)) (accepts_writes (length ms + 1) u)
  commit_writes u y d ns back is (Some g) events = subst WritesNext (sym (events ∙ heard_reverts (length ms + 1) (Own u) m.answer m.says g is.done)) (reverts_writes (length ms + 1) u g)

  hears_writes : (u : UpBundle) → Hearing c p ms m u → WritesNext (m.events p)
  hears_writes u (AsMade y a is) = subst WritesNext (sym is.events) (accepts_writes (length ms + 1) u)
  hears_writes u (AsLate y a d is) = subst WritesNext (sym is.events) (reverts_writes (length ms + 1) u d)
  hears_writes u (AsDrop y is) = subst WritesNext (sym is.events) (accepts_writes (length ms + 1) u)
  hears_writes u (AsOldDrop y is) = subst WritesNext (sym is.events) (ignores_writes (length ms + 1) u)
  hears_writes u (AsAcks is) = subst WritesNext (sym is.events) (accepts_writes (length ms + 1) u)
  hears_writes u (AsCommit y d ns back is) = commit_writes u y d ns back is back is.events
  hears_writes u (AsOldCommit y d is) = subst WritesNext (sym is.events) (ignores_writes (length ms + 1) u)
  hears_writes u (AsOver is) = subst WritesNext (sym is.events) (ignores_writes (length ms + 1) u)

  -- one write more, behind what a bundle or the process itself did
  one_more : (u : UpBundle) → (tree_stage c p mk x fld (events_of p ms) ≡ Coming → value_in_parts x fld u.parts ≡ None) → (parts_do x (line x mk) u.parts ≡ Comes → tree_stage c p mk x fld (events_of p ms) ≡ Coming) → WritesNext (Writes (Own u) ∷ [])
  one_more u none new = record {
    unwritten = λ coming.
        let was : tree_stage c p mk x fld h ≡ Coming = new_before ((tree_look c p mk).does x (Own u)) (tree_stage c p mk x fld h) coming in
        all_push (λ w. value_written x fld w ≡ None) (writes h) (Own u) (t.unwritten was) (none was);
    made_first = by_does (parts_do x (line x mk) u.parts) refl;
  }
    where
      unless_comes : (a : Effect) → parts_do x (line x mk) u.parts ≡ a → (a ≡ Comes → ⊥) → MadeFirst ((tree_look c p mk).does x) (value_written x fld) (writes (events_of p ms) ++ Own u ∷ [])
      unless_comes a is other = made_push ((tree_look c p mk).does x) (value_written x fld) (writes h) (Own u) (λ comes. other (sym is ∙ comes)) t.made_first

      by_does : (a : Effect) → parts_do x (line x mk) u.parts ≡ a → MadeFirst ((tree_look c p mk).does x) (value_written x fld) (writes (events_of p ms) ++ Own u ∷ [])
      by_does Comes is = made_new ((tree_look c p mk).does x) (value_written x fld) (writes h) (Own u) (t.unwritten (new is))
      by_does NoEffect is = unless_comes NoEffect is (λ e. absurd cc)
      by_does Goes is = unless_comes Goes is (λ e. absurd cc)

  -- what the process does beside it leaves the writes and, in the trees, the stage
  beside : (u : UpBundle) (part : DownPart) → WritesNext (Writes (Own u) ∷ []) → WritesNext (Writes (Own u) ∷ deed part ∷ [])
  beside u part w = record { unwritten = w.unwritten; made_first = w.made_first }

  set_writes : (y : ContextId) (d : Changes) (u : UpBundle) → u.parts ≡ ups.Commit y d ∷ [] → (seen_now c p ms).holds y ≡ true → WritesNext (Writes (Own u) ∷ [])
  set_writes y d u is held = one_more u (λ coming. ap (value_in_parts x fld) is ∙ by_same (same_context x y) refl coming) (λ comes. let two : NoEffect ≡ Comes = sym (ap (parts_do x (line x mk)) is) ∙ comes in absurd cc)
    where
      by_same : (v : Bool) → same_context x y ≡ v → tree_stage c p mk x fld (events_of p ms) ≡ Coming → or_later (if v then new_value d fld else None) None ≡ None
      by_same false one coming = refl
      by_same true one coming =
          let is_held : tree_stage c p mk x fld h ≡ Held = sym (stage_until c p mk x h) ∙ held_tree c p mk x fld ms m b t x (ap (seen_now c p ms).holds (same_context_is x y one) ∙ held) in
          let two : Coming ≡ Held = sym coming ∙ is_held in absurd cc

  frame_writes : (a : ContextId) (u : UpBundle) → u.parts ≡ ups.Create (next_frame p (seen_now c p ms)) a ∷ [] → (seen_now c p ms).holds a ≡ true → above_in mk (next_frame p (seen_now c p ms)) ≡ Some a → WritesNext (Writes (Own u) ∷ [])
  frame_writes a u is held up = one_more u (λ coming. ap (value_in_parts x fld) is) (λ comes.
      sym t.stages ∙ (fits_frame c p mk x fld ms m b t a held up
      (comes_when (same_context x (next_frame p (seen_now c p ms))) (sym (ap (parts_do x (line x mk)) is ∙ both_stays (comes_if (same_context x (next_frame p (seen_now c p ms))))) ∙ comes))).unheld)

  drop_writes : (y : ContextId) (u : UpBundle) → u.parts ≡ ups.Drop y ∷ [] → WritesNext (Writes (Own u) ∷ [])
  drop_writes y u is = one_more u (λ coming. ap (value_in_parts x fld) is) (λ comes. absurd (by_line (is_among y (line x mk)) (sym (ap (parts_do x (line x mk)) is) ∙ comes)))
    where
      by_line : (v : Bool) → both (goes_if v) NoEffect ≡ Comes → ⊥
      by_line true e = absurd cc
      by_line false e = absurd cc

  took_writes : (d : Bundle DownBundle) → WritesNext (Takes d ∷ [])
  took_writes d = record { unwritten = λ coming. t.unwritten (new_before ((tree_look c p mk).tells x d.content) (tree_stage c p mk x fld h) coming); made_first = t.made_first }

  acked_writes : (d : Bundle DownBundle) (parts : List UpPart) → AllByRecursion IsAck parts → WritesNext (written (bundle_sent (seen_now c p (m ∷ ms)) parts) ++ Takes d ∷ [])
  acked_writes d parts acks = by_acks (λ es. WritesNext (es ++ Takes d ∷ [])) (seen_now c p (m ∷ ms)) parts acks (took_writes d) (λ u plain. record {
    unwritten = λ coming.
        let none : (tree_look c p mk).does x (Own u) ≡ NoEffect = acks_do x (line x mk) u.parts plain in
        all_push (λ w. value_written x fld w ≡ None) (writes h) (Own u) ((took_writes d).unwritten (new_before ((tree_look c p mk).does x (Own u)) (tree_stage c p mk x fld (Takes d ∷ h)) coming)) (acks_write x fld u.parts plain);
    made_first = made_push ((tree_look c p mk).does x) (value_written x fld) (writes h) (Own u) (λ comes. let two : NoEffect ≡ Comes = sym (acks_do x (line x mk) u.parts plain) ∙ comes in absurd cc) t.made_first;
  })

  writes_next : Entry c p ms m → WritesNext (m.events p)
  writes_next (Idle is) = subst WritesNext (sym is.events) as_before
  writes_next (Sets y d u is) = subst WritesNext (sym is.events) (set_writes y d u is.sent.parts is.held)
  writes_next (Frames a u is) = subst WritesNext (sym is.events)
      (beside u (downs.Create (own_known (seen_now c p (m ∷ ms)) (next_frame p (seen_now c p ms)) a)) (frame_writes a u is.sent.parts is.held (framed_above c p mk x fld ms m b t (next_frame p (seen_now c p ms)) a is.did)))
  writes_next (Drops y u is) = subst WritesNext (sym is.events) (beside u (downs.Discard y) (drop_writes y u is.sent.parts))
  writes_next (TakesOne d rest is) = subst WritesNext (sym is.events)
      (acked_writes d _ (by_if (AllByRecursion IsAck) (list_any is_kill d.content.parts) [] _ (λ kill. tt) (λ lives. acks_posted p d.content.epoch.0 _ _ d.content.parts [])))
  writes_next (Tells posts is) = subst WritesNext (sym is.events) (told_writes (length ms + 1) m.says (bundle_for (facts_now c (m ∷ ms)) p (in_order posts)))
  writes_next (Killing d is) = subst WritesNext (sym is.events) (record { unwritten = t.unwritten; made_first = t.made_first })
  writes_next (HearsOne u rest first hears) = hears_writes u hears

  -- ---- all of it

  pub field_kept : Entry c p ms m → FieldTies c p mk x fld (m ∷ ms)
  field_kept e = record {
    apart = (entry_next c p mk x fld ms m t.apart t.now_is e).apart;
    now_is = omega (arith, (entry_next c p mk x fld ms m t.apart t.now_is e).now_is);
    stages = same_stage c p mk x fld ms m t.stages e;
    fits = fits_next c p mk x fld ms m b t e;
    told = told_next e;
    unknown = λ new. unknown_next e new;
    unwritten = (writes_next e).unwritten;
    made_first = (writes_next e).made_first;
  }

pub field_start : (c : Config) (p : ℕ) (mk : List Making) (x : ContextId) (fld : Field) → FieldTies c p mk x fld []
unfolding live value known
field_start c p mk x fld = record {
  apart = tt;
  now_is = omega arith;
  stages = refl;
  fits = tt;
  told = λ is. ap (λ (v : Bool). if v then Some (initial fld) else None) is;
  unknown = λ new. record { untouched = tt; no_news = tt };
  unwritten = λ coming. tt;
  made_first = tt;
}
