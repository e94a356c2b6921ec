-- The parent acts: the process is told what was said, or is killed.
use Rattle.std.proofs.Common.{◌≡◌, inl, inr, ℕ, ◌+◌, ◌<◌, ◌≤◌, ◌==◌, Bool, true, false, not, ◌||◌, if◌then◌else◌, Option, None, Some, is_some, List, [], ◌∷◌, ◌++◌, length, map, refl, ap, sym, subst, ◌∙◌, eq-eqb, eqb-true, arith}
use Rattle.fission_ids.specs.declared.context.ContextId.{ContextId}
use Rattle.fission_ids.specs.declared.group.GroupId.{GroupId}
use Rattle.fission_ids.specs.declared.process.ProcId.{ProcId}
use Rattle.field_table.specs.declared.value.Value.TheVariants.{Flag}
use Rattle.field_table.specs.Field.{fields, initial}
use Rattle.std.specs.Prelude.{◌&&◌, is_none, unwrap_or}
use Rattle.transaction.specs.Transaction.{Changes}
use Rattle.wire_msgs.specs.declared.action.ParentAction.{ParentAction}
use Rattle.wire_msgs.specs.declared.action.ParentAction.TheVariants as actions
use Rattle.wire_msgs.specs.declared.answer.Answer.TheVariants as answers
use Rattle.wire_msgs.specs.declared.bundle.DownBundle.{DownBundle}
use Rattle.wire_msgs.specs.declared.cause.EndCause.{EndCause}
use Rattle.wire_msgs.specs.declared.cause.EndCause.TheVariants.{Killed}
use Rattle.wire_msgs.specs.declared.config.Config.{Config}
use Rattle.wire_msgs.specs.declared.part.DownPart.{DownPart}
use Rattle.wire_msgs.specs.declared.part.DownPart.TheVariants as downs
use Rattle.wire_msgs.specs.declared.refusal.Refusal.{Refusal}
use Rattle.wire_msgs.specs.declared.refusal.Refusal.TheVariants as refusals
use Rattle.wire_msgs.specs.declared.part.Known.{Known}
use Rattle.protocol.specs.FactsAfter.{facts_after}
use Rattle.protocol.specs.Questions.{Facts, option_any, is_subscribed, is_told}
use Rattle.protocol.specs.Sayings.{Saying}
use Rattle.protocol.specs.Sayings.Saying.{Opened, Removed, Wrote, Subscribed, Sent, Ended}
use Rattle.protocol.specs.Fold.{behind_all}
use Rattle.protocol.specs.Order.{in_order}
use Rattle.protocol.specs.Bundle.{Ruling, bundle_for}
use Rattle.protocol.specs.ParentActs.{group_of_tab, context_of_tab, known_of, register_of, refusal, refused_if, denied_to_parent, denial_refused, says, posts, answer, done_ruling, action_ruling}
use Rattle.traces.specs.Event.Event.{Ends}
use Rattle.model.specs.Moments.{Moment, said, ends, told, parent_moment}
use Rattle.model.specs.Parent.{asked, ended, subscribers, commits_heard}
use Rattle.model.proofs.AskedMore.{asked_more}
use Rattle.model.proofs.Cases.{true_false, same_itself}
use Rattle.model.proofs.Entry.{Entry, PostOf, tab_known}
use Rattle.model.proofs.Entry.Entry.{Killing}
use Rattle.model.proofs.Entry.Posted.{NonePosted, OnePosted}
use Rattle.model.proofs.Fitting.{OpenedFits}
use Rattle.model.proofs.Subscribing.{equal_swapped}
use Rattle.model.proofs.ClassifySending.{behind, sending_one, sending_ends, eqb_swapped}
use Rattle.model.proofs.ClassifyTold.{by_option, facts_behind, ruling_behind, parent_joins, parent_tells, nothing_tells, nothing_in_order, one_in_order}

-- so far the parent writes fields, opens tabs, subscribes processes, discards contexts, and ends processes, each
-- process one of n
abbrev pub ParentPlays : ℕ → ParentAction → Type 0
ParentPlays n (actions.Set x t) = Unit {0}
ParentPlays n (actions.Tab q named) = q.0 < n
ParentPlays n (actions.Subscribe q g) = q.0 < n
ParentPlays n (actions.Discard x) = Unit {0}
ParentPlays n (actions.Kill q) = q.0 < n
ParentPlays n action = ⊥

unrefused : (b : Bool) (why : Refusal) (later : Option Refusal) → refused_if (not b) why later ≡ None → b ≡ true
unrefused true why later e = refl
unrefused false why later e = absurd cc

runs_first : (o : Option EndCause) (later : Option Refusal) → refused_if (is_some o) refusals.NoProcess later ≡ None → o ≡ None
runs_first None later e = refl
runs_first (Some cause) later e = absurd cc

-- a tab that was opened, as a process is told of it
opened_known : (f : Facts) (x : ContextId) (g : GroupId) (is_new : Bool) (q p : ℕ) → known_of (facts_after (Opened x g is_new q) f) p x ≡ tab_known p x g q
unfolding facts_after
opened_known f x g is_new q p = ap seen_as (same_itself x)
  where
    seen_as : Bool → Known
    seen_as b = record {
      context = x;
      group = unwrap_or (if b then Some g else f.contexts.group x) (record { 0 = 0 });
      parent = if b then None else f.contexts.above x;
      owned = option_any (λ r. r == p) (if b then Some q else f.contexts.owner x);
      fields = map (λ fld. unwrap_or (if b then Some (initial fld) else f.contexts.value x fld) (Flag false)) fields;
    }

-- who is subscribed changes nothing of what there is to tell
subscribed_known : (f : Facts) (q : ℕ) (g : GroupId) (p : ℕ) (x : ContextId) → known_of (facts_after (Subscribed q g) f) p x ≡ known_of f p x
unfolding facts_after
subscribed_known f q g p x = refl

subscribed_register : (f : Facts) (q : ℕ) (g : GroupId) (p : ℕ) (h : GroupId) → register_of (facts_after (Subscribed q g) f) p h ≡ register_of f p h
unfolding facts_after
subscribed_register f q g p h = refl

none_of : (o : Option EndCause) → refused_if (is_some o) refusals.NoProcess None ≡ None → o ≡ None
none_of None e = refl
none_of (Some cause) e = absurd cc

module _ (c : Config) (p : ℕ) (ms : List Moment) (lt : p < length c.types) (few : length c.types ≤ 16) where
  abbrev IsEntry : Ruling (List Saying) → Type 0
  IsEntry rule = Entry c p ms (parent_moment c ms rule)

  set_done : (n : ℕ) (x : ContextId) (t : Changes) → refusal (asked c.tabs (said ms)) (actions.Set x t) ≡ None → IsEntry (done_ruling (facts_behind c ms) (λ y says. y ∷ says) n (actions.Set x t) [])
  unfolding refusal says posts answer behind_all
  set_done n x t clear =
      parent_tells c p ms n answers.Done (λ q. in_order (if is_told f q x then downs.Commit x t ∷ [] else [])) (Wrote x t ∷ []) (if is_told f p x then downs.Commit x t ∷ [] else [])
      (record {
        fits = (unrefused (f.contexts.live x) refusals.NoContext (denial_refused (denied_to_parent f x t)) clear, tt);
        plain = (tt, tt);
        posted = OnePosted (Wrote x t) [] [] (if is_told f p x then downs.Commit x t ∷ [] else []) NonePosted tt (by_told (is_told f p x) refl);
      }) refl
    where
      f : Facts
      f = asked c.tabs (said ms)

      by_told : (b : Bool) → is_told f p x ≡ b → PostOf f p (Wrote x t) (if b then downs.Commit x t ∷ [] else [])
      by_told true e = inl (e, inl refl)
      by_told false e = inr (e, refl)

  discard_done : (n : ℕ) (x : ContextId) → refusal (asked c.tabs (said ms)) (actions.Discard x) ≡ None → IsEntry (done_ruling (facts_behind c ms) (λ y says. y ∷ says) n (actions.Discard x) [])
  unfolding refusal says posts answer behind_all
  discard_done n x clear =
      parent_tells c p ms n answers.Done (λ q. in_order (if is_told f q x then downs.Discard x ∷ [] else [])) (Removed x None ∷ []) (if is_told f p x then downs.Discard x ∷ [] else [])
      (record {
        fits = (unrefused (f.contexts.live x) refusals.NoContext None clear, tt);
        plain = (tt, tt);
        posted = OnePosted (Removed x None) [] [] (if is_told f p x then downs.Discard x ∷ [] else []) NonePosted tt refl;
      }) refl
    where
      f : Facts
      f = asked c.tabs (said ms)

  -- ---- a kill

  killed_other : (q : ProcId) → (q.0 == p) ≡ false → q.0 < length c.types → IsEntry (done_ruling (facts_behind c ms) (λ y says. y ∷ says) (length c.types) (actions.Kill q) [])
  unfolding says posts answer behind_all
  killed_other q other lq =
      parent_tells c p ms (length c.types) answers.Done (λ r. in_order (if r == q.0 then downs.Kill ∷ [] else [])) (Ended q.0 Killed ∷ []) []
      (record { fits = (omega arith, tt); plain = (tt, tt); posted = OnePosted (Ended q.0 Killed) [] [] [] NonePosted other refl })
      (ap (λ (b : Bool). in_order (if b then downs.Kill ∷ [] else [])) (eqb_swapped q.0 p other))

  killed : (q : ProcId) → q.0 ≡ p → ended p (said ms) ≡ None → IsEntry (done_ruling (facts_behind c ms) (λ y says. y ∷ says) (length c.types) (actions.Kill q) [])
  unfolding says posts answer behind_all
  killed q is none = Killing d (record {
    did = refl;
    running = none;
    says = says_is;
    kill = refl;
    events =
        ap (λ es. es ++ told (length ms + 1) kept (bundle_for (asked c.tabs (kept ++ said ms)) p (sends p)) ∷ []) ends_is
        ∙ ap (λ ds. Ends ∷ told (length ms + 1) kept (bundle_for (asked c.tabs (kept ++ said ms)) p ds) ∷ []) own_sends;
  })
    where
      sends : ℕ → List DownPart
      sends r = in_order (if r == q.0 then downs.Kill ∷ [] else [])

      kept : List Saying
      kept = behind (facts_behind c ms) (length c.types) sends (Ended q.0 Killed ∷ [])

      d : DownBundle
      d = record { epoch = record { 0 = commits_heard p (kept ++ said ms) }; parts = downs.Kill ∷ [] }

      itself : (p == q.0) ≡ true
      itself = eq-eqb p q.0 (sym is)

      own_sends : sends p ≡ downs.Kill ∷ []
      own_sends = ap (λ (b : Bool). in_order (if b then downs.Kill ∷ [] else [])) itself ∙ one_in_order downs.Kill

      others_sends : (r : ℕ) → (r == p) ≡ false → sends r ≡ []
      others_sends r e = ap (λ (b : Bool). in_order (if b then downs.Kill ∷ [] else [])) (ap (λ k. r == k) is ∙ e) ∙ nothing_in_order

      ends_is : ends p kept ≡ Ends ∷ []
      ends_is = sending_ends (facts_behind c ms) (length c.types) sends (Ended q.0 Killed ∷ []) p ∙ ap (λ (b : Bool). if b || false then Ends ∷ [] else []) itself

      says_is : kept ≡ Sent p ∷ Ended p Killed ∷ []
      says_is = sending_one (facts_behind c ms) (length c.types) p sends (Ended q.0 Killed ∷ []) downs.Kill [] own_sends others_sends lt ∙ ap (λ k. Sent p ∷ Ended k Killed ∷ []) is

  kill_done : (q : ProcId) → q.0 < length c.types → refusal (asked c.tabs (said ms)) (actions.Kill q) ≡ None → IsEntry (done_ruling (facts_behind c ms) (λ y says. y ∷ says) (length c.types) (actions.Kill q) [])
  unfolding refusal
  kill_done q lq clear = by_test (q.0 == p) refl
    where
      by_test : (b : Bool) → (q.0 == p) ≡ b → IsEntry (done_ruling (facts_behind c ms) (λ y says. y ∷ says) (length c.types) (actions.Kill q) [])
      by_test true e =
          let is : q.0 ≡ p = eqb-true q.0 p e in
          killed q is (subst (λ k. ended k (said ms) ≡ None) is (none_of (ended q.0 (said ms)) clear))
      by_test false e = killed_other q e lq

  -- ---- a tab, and a subscription

  tab_done : (n : ℕ) (q : ProcId) (named : Option GroupId) → q.0 < length c.types → refusal (asked c.tabs (said ms)) (actions.Tab q named) ≡ None
      → IsEntry (done_ruling (facts_behind c ms) (λ y says. y ∷ says) n (actions.Tab q named) [])
  unfolding refusal says posts answer behind_all ended subscribers
  tab_done n q named lq clear = by_sub (is_subscribed (asked c.tabs (said ms)) q.0 (group_of_tab (asked c.tabs (said ms)) named)) refl
    where
      f : Facts
      f = asked c.tabs (said ms)

      x : ContextId
      x = context_of_tab (asked c.tabs (said ms))

      g : GroupId
      g = group_of_tab (asked c.tabs (said ms)) named

      opens : Saying
      opens = Opened x g (is_none named) q.0

      joins : Saying
      joins = Subscribed q.0 g

      sends : Facts → ℕ → List DownPart
      sends behind r = in_order (if is_subscribed f r g then downs.Create (known_of behind r x) ∷ [] else if r == q.0 then register_of behind r g ∷ [] else [])

      runs : ended q.0 (said ms) ≡ None
      runs = runs_first (ended q.0 (said ms)) _ clear

      first : List DownPart
      first = if is_subscribed f p g then downs.Create (tab_known p x g q.0) ∷ [] else []

      opened_fits : OpenedFits f x q.0
      opened_fits = record { next = refl; low = omega (arith, lq, few) }

      -- whoever was subscribed is told of the tab
      known_is : known_of (asked c.tabs (opens ∷ said ms)) p x ≡ tab_known p x g q.0
      known_is = ap (λ (f : Facts). known_of f p x) (asked_more c.tabs opens (said ms)) ∙ opened_known f x g (is_none named) q.0 p

      known_joined : known_of (asked c.tabs (joins ∷ opens ∷ said ms)) p x ≡ tab_known p x g q.0
      known_joined = ap (λ (f : Facts). known_of f p x) (asked_more c.tabs joins (opens ∷ said ms)) ∙ subscribed_known (asked c.tabs (opens ∷ said ms)) q.0 g p x ∙ known_is

      register_joined : register_of (asked c.tabs (joins ∷ opens ∷ said ms)) p g ≡ register_of (asked c.tabs (opens ∷ said ms)) p g
      register_joined = ap (λ (f : Facts). register_of f p g) (asked_more c.tabs joins (opens ∷ said ms)) ∙ subscribed_register (asked c.tabs (opens ∷ said ms)) q.0 g p g

      -- the owner of the tab is the one who is told
      same_told : (v w : Bool) → (p == q.0) ≡ true → is_subscribed f q.0 g ≡ v → is_subscribed f p g ≡ w → v ≡ w
      same_told v w same is told = sym is ∙ ap (λ k. is_subscribed f k g) (sym (eqb-true p q.0 same)) ∙ told

      was_told : is_subscribed f q.0 g ≡ true → sends (asked c.tabs (opens ∷ said ms)) p ≡ in_order first
      was_told told = by (is_subscribed f p g) refl (p == q.0) refl
        where
          by : (w : Bool) → is_subscribed f p g ≡ w → (e : Bool) → (p == q.0) ≡ e
              → in_order (if w then downs.Create (known_of (asked c.tabs (opens ∷ said ms)) p x) ∷ [] else if e then register_of (asked c.tabs (opens ∷ said ms)) p g ∷ [] else [])
              ≡ in_order (if w then downs.Create (tab_known p x g q.0) ∷ [] else [])
          by true is e same = ap (λ k. in_order (downs.Create k ∷ [])) known_is
          by false is false other = refl
          by false is true same = true_false true refl (same_told true false same told is)

      now_told : is_subscribed f q.0 g ≡ false → sends (asked c.tabs (joins ∷ opens ∷ said ms)) p
          ≡ in_order (first ++ (if q.0 == p then register_of (asked c.tabs (opens ∷ said ms)) p g ∷ [] else []))
      now_told untold =
          by (is_subscribed f p g) refl (p == q.0) refl
          ∙ ap (λ (e : Bool). in_order (first ++ (if e then register_of (asked c.tabs (opens ∷ said ms)) p g ∷ [] else []))) (equal_swapped p q.0)
        where
          by : (w : Bool) → is_subscribed f p g ≡ w → (e : Bool) → (p == q.0) ≡ e
              → in_order (if w then downs.Create (known_of (asked c.tabs (joins ∷ opens ∷ said ms)) p x) ∷ [] else if e then register_of (asked c.tabs (joins ∷ opens ∷ said ms)) p g ∷ [] else [])
              ≡ in_order ((if w then downs.Create (tab_known p x g q.0) ∷ [] else []) ++ (if e then register_of (asked c.tabs (opens ∷ said ms)) p g ∷ [] else []))
          by true is false other = ap (λ k. in_order (downs.Create k ∷ [])) known_joined
          by true is true same = true_false false (same_told false true same untold is) refl
          by false is false other = refl
          by false is true same = ap (λ d. in_order (d ∷ [])) register_joined

      by_sub : (v : Bool) → is_subscribed f q.0 g ≡ v
          → IsEntry (ruling_behind c ms n (answers.Tab g x) (sends (facts_behind c ms (behind_all (λ y says. y ∷ says) (opens ∷ (if v then [] else joins ∷ [])) [])))
          (behind_all (λ y says. y ∷ says) (opens ∷ (if v then [] else joins ∷ [])) []))
      by_sub true told = parent_tells c p ms n (answers.Tab g x) (sends (asked c.tabs (opens ∷ said ms))) (opens ∷ []) first
          (record { fits = (opened_fits, tt); plain = (tt, tt); posted = OnePosted opens [] [] first NonePosted tt refl }) (was_told told)
      by_sub false untold =
          parent_joins c p ms n (answers.Tab g x) (sends (asked c.tabs (joins ∷ opens ∷ said ms))) (joins ∷ opens ∷ [])
          (first ++ (if q.0 == p then register_of (asked c.tabs (opens ∷ said ms)) p g ∷ [] else []))
          (record {
            fits = (record { low = omega (arith, lq, few); runs = runs; new = untold }, (opened_fits, tt));
            joins = (refl, tt);
            posted = OnePosted joins (opens ∷ []) first (if q.0 == p then register_of (asked c.tabs (opens ∷ said ms)) p g ∷ [] else []) (OnePosted opens [] [] first NonePosted tt refl) tt refl;
          }) (now_told untold)

  subscribe_done : (n : ℕ) (q : ProcId) (g : GroupId) → q.0 < length c.types → refusal (asked c.tabs (said ms)) (actions.Subscribe q g) ≡ None
      → IsEntry (done_ruling (facts_behind c ms) (λ y says. y ∷ says) n (actions.Subscribe q g) [])
  unfolding refusal says posts answer behind_all
  subscribe_done n q g lq clear = by_sub (is_subscribed (asked c.tabs (said ms)) q.0 g) refl
    where
      f : Facts
      f = asked c.tabs (said ms)

      sends : Facts → ℕ → List DownPart
      sends behind r = in_order (if (r == q.0) && not (is_subscribed f r g) then register_of behind r g ∷ [] else [])

      runs : ended q.0 (said ms) ≡ None
      runs = runs_first (ended q.0 (said ms)) _ clear

      register_joined : register_of (asked c.tabs (Subscribed q.0 g ∷ said ms)) p g ≡ register_of f p g
      register_joined = ap (λ (f : Facts). register_of f p g) (asked_more c.tabs (Subscribed q.0 g) (said ms)) ∙ subscribed_register f q.0 g p g

      by_sub : (v : Bool) → is_subscribed f q.0 g ≡ v
          → IsEntry (ruling_behind c ms n answers.Done (sends (facts_behind c ms (behind_all (λ y says. y ∷ says) (if v then [] else Subscribed q.0 g ∷ []) [])))
          (behind_all (λ y says. y ∷ says) (if v then [] else Subscribed q.0 g ∷ []) []))
      by_sub true told = parent_tells c p ms n answers.Done (sends f) [] [] (nothing_tells c p (said ms)) (by (p == q.0) refl)
        where
          by : (e : Bool) → (p == q.0) ≡ e → in_order (if e && not (is_subscribed f p g) then register_of f p g ∷ [] else []) ≡ in_order []
          by false other = refl
          by true same = ap (λ (b : Bool). in_order (if not b then register_of f p g ∷ [] else [])) (ap (λ k. is_subscribed f k g) (eqb-true p q.0 same) ∙ told)
      by_sub false untold =
          parent_joins c p ms n answers.Done (sends (asked c.tabs (Subscribed q.0 g ∷ said ms))) (Subscribed q.0 g ∷ []) (if q.0 == p then register_of f p g ∷ [] else [])
          (record {
            fits = (record { low = omega (arith, lq, few); runs = runs; new = untold }, tt);
            joins = tt;
            posted = OnePosted (Subscribed q.0 g) [] [] (if q.0 == p then register_of f p g ∷ [] else []) NonePosted tt refl;
          }) (by (p == q.0) refl ∙ ap (λ (e : Bool). in_order (if e then register_of f p g ∷ [] else [])) (equal_swapped p q.0))
        where
          by : (e : Bool) → (p == q.0) ≡ e → in_order (if e && not (is_subscribed f p g) then register_of (asked c.tabs (Subscribed q.0 g ∷ said ms)) p g ∷ [] else [])
              ≡ in_order (if e then register_of f p g ∷ [] else [])
          by false other = refl
          by true same =
              ap (λ (b : Bool). in_order (if not b then register_of (asked c.tabs (Subscribed q.0 g ∷ said ms)) p g ∷ [] else [])) (ap (λ k. is_subscribed f k g) (eqb-true p q.0 same) ∙ untold)
              ∙ ap (λ d. in_order (d ∷ [])) register_joined

  -- ---- any action

  by_refusal : (action : ParentAction) → (refusal (asked c.tabs (said ms)) action ≡ None → IsEntry (done_ruling (facts_behind c ms) (λ y says. y ∷ says) (length c.types) action []))
      → IsEntry (action_ruling (facts_behind c ms) (λ y says. y ∷ says) (length c.types) action [])
  by_refusal action done =
      by_option IsEntry (λ why. ruling_behind c ms (length c.types) (answers.Refused why) (λ q. []) []) (refusal (asked c.tabs (said ms)) action)
      (done_ruling (facts_behind c ms) (λ y says. y ∷ says) (length c.types) action [])
      (λ why e. parent_tells c p ms (length c.types) (answers.Refused why) (λ q. []) [] [] (nothing_tells c p (said ms)) (sym nothing_in_order)) done

  pub parent_acts : (action : ParentAction) → ParentPlays (length c.types) action → IsEntry (action_ruling (facts_behind c ms) (λ y says. y ∷ says) (length c.types) action [])
  parent_acts (actions.Set x t) plays = by_refusal (actions.Set x t) (set_done (length c.types) x t)
  parent_acts (actions.Tab q named) plays = by_refusal (actions.Tab q named) (tab_done (length c.types) q named plays)
  parent_acts (actions.Subscribe q g) plays = by_refusal (actions.Subscribe q g) (subscribe_done (length c.types) q g plays)
  parent_acts (actions.Discard x) plays = by_refusal (actions.Discard x) (discard_done (length c.types) x)
  parent_acts (actions.Kill q) plays = by_refusal (actions.Kill q) (kill_done q plays)
  parent_acts (_) plays = absurd plays
