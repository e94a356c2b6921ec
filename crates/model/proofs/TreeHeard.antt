-- What the parent hears of a process that wasn't ended keeps the rules of the trees, and what the parent answers of
-- them is still what the events of the process tell.
use Rattle.std.proofs.Common.{◌≡◌, ◌⊎◌, inl, inr, ℕ, ◌+◌, ◌<◌, ◌==◌, Bool, true, false, ◌&&◌, ◌||◌, if◌then◌else◌, Option, None, Some, List, [], ◌∷◌, ◌++◌, length, refl, ap, ap₂, sym, subst, ◌∙◌, arith, eq-eqb}
use Rattle.std.proofs.Math.Path.{fun_ext}
use Rattle.std.specs.List.{AllByRecursion, list_any}
use Rattle.std.specs.Prelude.{is_some, nat_lt, nat_le}
use Rattle.fission_ids.specs.declared.context.ContextId.{ContextId}
use Rattle.fission_ids.specs.declared.group.GroupId.{GroupId}
use Rattle.fission_ids.specs.Ids.{same_context}
use Rattle.transaction.specs.Transaction.{Changes}
use Rattle.wire_msgs.specs.declared.answer.Answer.{Answer}
use Rattle.wire_msgs.specs.declared.answer.Answer.TheVariants.{Parts}
use Rattle.wire_msgs.specs.declared.bundle.DownBundle.{DownBundle}
use Rattle.wire_msgs.specs.declared.bundle.UpBundle.{UpBundle}
use Rattle.wire_msgs.specs.declared.config.Config.{Config}
use Rattle.wire_msgs.specs.declared.note.FieldNote.{FieldNote}
use Rattle.wire_msgs.specs.declared.part.DownPart.{DownPart}
use Rattle.wire_msgs.specs.declared.part.DownPart.TheVariants as downs
use Rattle.wire_msgs.specs.declared.part.UpPart.{UpPart}
use Rattle.wire_msgs.specs.declared.part.UpPart.TheVariants as ups
use Rattle.protocol.specs.Bundle.{bundle_for}
use Rattle.protocol.specs.Commits.{applied, sent_back}
use Rattle.protocol.specs.FactsAfter.{facts_after}
use Rattle.protocol.specs.Hear.{commit_unless_empty, values_where, is_noted, is_reverted}
use Rattle.protocol.specs.Questions.{Facts, is_owner, is_subscribed}
use Rattle.protocol.specs.Sayings.{Saying}
use Rattle.protocol.specs.Sayings.Saying.{Opened, Made, BornDead, Removed, Wrote, Acked, Subscribed, Counted, Sent, Ended}
use Rattle.traces.specs.Event.Event.{Accepts, Reverts, Ignores}
use Rattle.traces.specs.Links.{writes_waiting, is_ended}
use Rattle.traces.specs.Rules.{IsFirst, Flows}
use Rattle.traces.specs.Words.{Stage}
use Rattle.traces.specs.Words.Stage.{Coming, Held, Gone}
use Rattle.trees.specs.Children.{owned}
use Rattle.trees.specs.Look.{Effect, moved, owned_behind, Look, Begin}
use Rattle.trees.specs.Look.Effect.{Stays, Comes, Goes}
use Rattle.trees.specs.Look.Handing.{Same, Given}
use Rattle.trees.specs.Rules.{Above, Done, GivesBack, Returned, Ignored, Fit, Keeps, told_owner}
use Rattle.trees.specs.Words.{is_told, life, is_held, is_known}
use Rattle.trees.proofs.Above.{life_below}
use Rattle.trees.proofs.Agrees.{told_above}
use Rattle.trees.proofs.Effects.{gone_behind}
use Rattle.trees.proofs.Knowing.{good_ids}
use Rattle.trees.proofs.Order.{wrote_told}
use Rattle.trees.proofs.Taking.{known_came}
use Rattle.model.specs.Lines.{Making, makings_said, line, above_in, is_among}
use Rattle.model.specs.Moments.{Moment, Written, ProcessEvent, said, events_of, facts_now, heard, is_done}
use Rattle.model.specs.Moments.Written.{Own}
use Rattle.model.specs.Parent.{asked}
use Rattle.model.specs.Trees.{comes_if, goes_if, both, later_hand, hand_if, parts_do, parts_hand, parts_create, parts_need, parts_tell, parts_bring, parts_handed, handed_unless, says_do, says_hand, says_create, tree_look, tree_begin}
use Rattle.model.specs.View.{singles}
use Rattle.model.proofs.AskedMore.{asked_more}
use Rattle.model.proofs.Cases.{by_if, true_false, same_context_is, same_itself, some_is, none_some}
use Rattle.model.proofs.Entry.{FitsOver, IsSending, IsAck, IsAcking, Says, HeardMade, HeardLate, HeardDrop, HeardOldDrop, HeardAcks, HeardCommit, HeardOldCommit, Hearing}
use Rattle.model.proofs.Entry.Hearing.{AsMade, AsLate, AsDrop, AsOldDrop, AsAcks, AsCommit, AsOldCommit, AsOver}
use Rattle.model.proofs.Fitting.{FactsTies}
use Rattle.model.proofs.Lining.{Lined, IsToldBy}
use Rattle.model.proofs.Living.{LifeTies, both_stays, goes_when, comes_when, in_line, among_itself, up_the_line, held_only}
use Rattle.model.proofs.Owning.{IsNoEndOf, owner_all, created_new, handed_created}
use Rattle.model.proofs.Subscribers.{group_told}
use Rattle.model.proofs.Telling.{Saids, facts_behind, lives_behind, comes_new, goes_along}
use Rattle.model.proofs.TreeFacts.{TreeFacts}
use Rattle.model.proofs.TreeLawful.{lawful}

-- ---- what is named as made, in time or too late, is all that becomes known

abbrev pub says_name : ContextId → List Saying → Bool
says_name x [] = false
says_name x (Opened y g is_new q ∷ ys) = same_context x y || says_name x ys
says_name x (Made q y a ∷ ys) = same_context x y || says_name x ys
says_name x (BornDead q y a ∷ ys) = same_context x y || says_name x ys
says_name x (_ ∷ ys) = says_name x ys

known_one : (f : Facts) (y : Saying) (ys : List Saying) (x : ContextId) (k : Bool) → f.contexts.known x ≡ (says_name x ys || k) → (facts_after y f).contexts.known x ≡ (says_name x (y ∷ ys) || k)
unfolding facts_after
known_one f (Opened z g true q) ys x k e = by_or (same_context x z)
  where
    by_or : (b : Bool) → (if b then true else f.contexts.known x) ≡ ((b || says_name x ys) || k)
    by_or true = refl
    by_or false = e
known_one f (Opened z g false q) ys x k e = by_or (same_context x z)
  where
    by_or : (b : Bool) → (if b then true else f.contexts.known x) ≡ ((b || says_name x ys) || k)
    by_or true = refl
    by_or false = e
known_one f (Made q z a) ys x k e = by_or (same_context x z)
  where
    by_or : (b : Bool) → (if b then true else f.contexts.known x) ≡ ((b || says_name x ys) || k)
    by_or true = refl
    by_or false = e
known_one f (BornDead q z a) ys x k e = by_or (same_context x z)
  where
    by_or : (b : Bool) → (if b then true else f.contexts.known x) ≡ ((b || says_name x ys) || k)
    by_or true = refl
    by_or false = e
known_one f (Removed w but) ys x k e = e
known_one f (Wrote z t) ys x k e = e
known_one f (Acked q z) ys x k e = e
known_one f (Subscribed q g) ys x k e = e
known_one f (Counted q) ys x k e = e
known_one f (Sent q) ys x k e = e
known_one f (Ended q cause) ys x k e = e

pub known_is : (c : Config) (old ys : List Saying) (x : ContextId) → (asked c.tabs (ys ++ old)).contexts.known x ≡ (says_name x ys || (asked c.tabs old).contexts.known x)
known_is c old [] x = refl
known_is c old (y ∷ ys) x = ap (λ (g : Facts). g.contexts.known x) (asked_more c.tabs y (ys ++ old)) ∙ known_one (asked c.tabs (ys ++ old)) y ys x ((asked c.tabs old).contexts.known x) (known_is c old ys x)

-- ---- who is subscribed stays so where none is subscribed and none is ended

abbrev pub IsQuiet : Saying → Type 0
IsQuiet (Subscribed q g) = ⊥
IsQuiet (Ended q cause) = ⊥
IsQuiet y = Unit {0}

subscribed_one : (f : Facts) (p : ℕ) (g : GroupId) (y : Saying) → IsQuiet y → is_subscribed (facts_after y f) p g ≡ is_subscribed f p g
unfolding facts_after
subscribed_one f p g (Opened z h true q) quiet = refl
subscribed_one f p g (Opened z h false q) quiet = refl
subscribed_one f p g (Made q z a) quiet = refl
subscribed_one f p g (BornDead q z a) quiet = refl
subscribed_one f p g (Removed w but) quiet = refl
subscribed_one f p g (Wrote z t) quiet = refl
subscribed_one f p g (Acked q z) quiet = refl
subscribed_one f p g (Counted q) quiet = refl
subscribed_one f p g (Sent q) quiet = refl
subscribed_one f p g (Subscribed q h) quiet = absurd quiet
subscribed_one f p g (Ended q cause) quiet = absurd quiet

pub subscribed_still : (c : Config) (p : ℕ) (old : List Saying) (g : GroupId) (ys : List Saying) → AllByRecursion IsQuiet ys → is_subscribed (asked c.tabs (ys ++ old)) p g ≡ is_subscribed (asked c.tabs old) p g
subscribed_still c p old g [] quiet = refl
subscribed_still c p old g (y ∷ ys) quiet =
    ap (λ (f : Facts). is_subscribed f p g) (asked_more c.tabs y (ys ++ old)) ∙ subscribed_one (asked c.tabs (ys ++ old)) p g y quiet.0 ∙ subscribed_still c p old g ys quiet.1

-- ---- what is said beside the core of an entry does nothing to a tree

pub record Like (c : Config) (p : ℕ) (old ys core : List Saying) : Type 0 where
  pub does : (x : ContextId) (ln : List ContextId) → says_do x ln ys ≡ says_do x ln core
  pub hands : (x : ContextId) → says_hand p x ys ≡ says_hand p x core
  pub creates : (x : ContextId) → says_create x ys ≡ says_create x core
  pub names : (x : ContextId) → says_name x ys ≡ says_name x core
  pub fits : FitsOver c old core → FitsOver c old ys
  pub alive : AllByRecursion (IsNoEndOf p) core → AllByRecursion (IsNoEndOf p) ys
  pub quiet : AllByRecursion IsQuiet core → AllByRecursion IsQuiet ys

like_sent : (c : Config) (p : ℕ) (old core sent : List Saying) → AllByRecursion IsSending sent → Like c p old (sent ++ core) core
like_sent c p old core [] all = record {
  does = λ x ln. refl;
  hands = λ x. refl;
  creates = λ x. refl;
  names = λ x. refl;
  fits = λ f. f;
  alive = λ a. a;
  quiet = λ q. q;
}
like_sent c p old core (Sent q ∷ sent) all =
    let more : Like c p old (sent ++ core) core = like_sent c p old core sent all.1 in record {
      does = more.does;
      hands = more.hands;
      creates = more.creates;
      names = more.names;
      fits = λ f. (tt, more.fits f);
      alive = λ a. (tt, more.alive a);
      quiet = λ q. (tt, more.quiet q);
    }
like_sent c p old core (_ ∷ sent) all = absurd all.0

like_acks : (c : Config) (p : ℕ) (old ys : List Saying) → AllByRecursion IsAcking ys → Like c p old ys []
like_acks c p old [] all = record {
  does = λ x ln. refl;
  hands = λ x. refl;
  creates = λ x. refl;
  names = λ x. refl;
  fits = λ f. f;
  alive = λ a. a;
  quiet = λ q. q;
}
like_acks c p old (Sent q ∷ ys) all =
    let more : Like c p old ys [] = like_acks c p old ys all.1 in record {
      does = more.does;
      hands = more.hands;
      creates = more.creates;
      names = more.names;
      fits = λ f. (tt, more.fits f);
      alive = λ a. (tt, more.alive a);
      quiet = λ q. (tt, more.quiet q);
    }
like_acks c p old (Acked q z ∷ ys) all =
    let more : Like c p old ys [] = like_acks c p old ys all.1 in record {
      does = more.does;
      hands = more.hands;
      creates = more.creates;
      names = more.names;
      fits = λ f. (tt, more.fits f);
      alive = λ a. (tt, more.alive a);
      quiet = λ q. (tt, more.quiet q);
    }
like_acks c p old (_ ∷ ys) all = absurd all.0

like_says : (c : Config) (p : ℕ) (ms : List Moment) (m : Moment) (core : List Saying) → Says c p ms m core → Like c p (said ms) m.says core
like_says c p ms m core s = subst (λ ys. Like c p (said ms) ys core) (sym s.is) (like_sent c p (said ms) core s.sent s.all_sent)

-- ---- lives and stages

-- lives that are the same
pub ties_same : (mk : List Making) (f : Facts) (L M : ContextId → Stage) → ((x : ContextId) → L x ≡ M x) → LifeTies mk f L → LifeTies mk f M
ties_same mk f L M same t = subst (LifeTies mk f) (fun_ext same) t

-- ---- an entry in which the parent heard this bundle, and said this

module _ (c : Config) (p : ℕ) (mk : List Making) (l : Lined mk) (old : List Saying) (ft : FactsTies c.tabs mk (asked c.tabs old)) (h : List ProcessEvent) (runs : is_ended h ≡ false)
    (t : TreeFacts c p mk (asked c.tabs old) h) (ys : List Saying) (s : Saids c mk l old ft ys) (alive : AllByRecursion (IsNoEndOf p) ys) (quiet : AllByRecursion IsQuiet ys) (b : UpBundle)
  where
    abbrev look : Look ContextId Written DownBundle
    look = tree_look c p mk

    abbrev begin : Begin ContextId
    begin = tree_begin c p mk

    abbrev before : Facts
    before = asked c.tabs old

    abbrev now : Facts
    now = asked c.tabs (ys ++ old)

    lives_now : LifeTies mk (asked c.tabs (ys ++ old)) (λ z. moved (says_do z (line z mk) ys) (life (tree_look c p mk) (tree_begin c p mk) z h))
    lives_now = lives_behind c mk l old ft (λ x. life look begin x h) t.lives ys s

    facts_behind_it : FactsTies c.tabs mk (asked c.tabs (ys ++ old))
    facts_behind_it = facts_behind c mk l old ft ys s

    owned_now : (y : ContextId) → (asked c.tabs (ys ++ old)).contexts.live y ≡ true → owned_behind (says_hand p y ys) (owned (tree_look c p mk) (tree_begin c p mk) y h) ≡ is_owner (asked c.tabs (ys ++ old)) p y
    owned_now y live = owner_all c p old (λ x. owned look begin x h) ys s.fits alive t.owners y live

    -- where the event tells the same of lives, owners and what is known
    keeps_with : (e : ProcessEvent) → Fit (tree_look c p mk) (tree_begin c p mk) e h
        → ((g : GroupId) → group_told c p g (e ∷ h) ≡ group_told c p g h)
        → LifeTies mk (asked c.tabs (ys ++ old)) (λ x. life (tree_look c p mk) (tree_begin c p mk) x (e ∷ h))
        → ((x : ContextId) → owned (tree_look c p mk) (tree_begin c p mk) x (e ∷ h) ≡ owned_behind (says_hand p x ys) (owned (tree_look c p mk) (tree_begin c p mk) x h))
        → ((x : ContextId) → is_known (tree_look c p mk) (tree_begin c p mk) x (e ∷ h) ≡ (says_name x ys || is_known (tree_look c p mk) (tree_begin c p mk) x h))
        → TreeFacts c p mk (asked c.tabs (ys ++ old)) (e ∷ h)
    keeps_with e fit telling lives owning knowing = record {
      fits = ((λ r. fit), t.fits);
      told = λ g. subscribed_still c p old g ys quiet ∙ t.told g ∙ sym (telling g);
      lives = lives;
      owners = λ x live. owning x ∙ owned_now x live;
      known = λ x is. known_is c old ys x ∙ carried (says_name x ys) (is_known look begin x h) (before.contexts.known x) (t.known x) (sym (knowing x) ∙ is);
      own_known = λ x own is. knowing x ∙ carried (says_name x ys) (before.contexts.known x) (is_known look begin x h) (t.own_known x own) (sym (known_is c old ys x) ∙ is);
    }
      where
        carried : (n u v : Bool) → (u ≡ true → v ≡ true) → (n || u) ≡ true → (n || v) ≡ true
        carried true u v f e = refl
        carried false u v f e = f e

    -- ---- it accepts it: the bundle does what is said

    module _ (does_same : (x : ContextId) → parts_do x (line x mk) b.parts ≡ says_do x (line x mk) ys) (hand_same : (x : ContextId) → parts_hand x b.parts ≡ says_hand p x ys) (name_same : (x : ContextId) → parts_create x b.parts ≡ says_name x ys)
        (unmade : (x : ContextId) → says_do x (line x mk) ys ≡ Goes → says_create x ys ≡ false)
        (by_itself : (x y : ContextId) → says_do x (line x mk) ys ≡ Comes → above_in mk x ≡ Some y → (asked c.tabs (ys ++ old)).contexts.live y ≡ true → ((x.creator == p + 1) ≡ true) × (is_owner (asked c.tabs (ys ++ old)) p y ≡ true))
        (k : ℕ)
      where
        lives_accepted : LifeTies mk (asked c.tabs (ys ++ old)) (λ x. life (tree_look c p mk) (tree_begin c p mk) x (Accepts k (Own b) ∷ h))
        lives_accepted = ties_same mk now (λ z. moved (says_do z (line z mk) ys) (life look begin z h)) (λ x. life look begin x (Accepts k (Own b) ∷ h))
            (λ x. ap (λ d. moved d (life look begin x h)) (sym (does_same x))) lives_now

        new_of : (x : ContextId) → (tree_look c p mk).does x (Own b) ≡ Comes → life (tree_look c p mk) (tree_begin c p mk) x h ≡ Coming
        new_of x e = comes_new c mk l old ft (λ x. life look begin x h) t.lives x ys s (sym (does_same x) ∙ e)

        -- what comes is live then
        live_of : (x : ContextId) → (tree_look c p mk).does x (Own b) ≡ Comes → (asked c.tabs (ys ++ old)).contexts.live x ≡ true
        live_of x e = sym (lives_accepted.live x) ∙ ap is_held (ap₂ moved e (new_of x e))

        owned_accepted : (x : ContextId) → owned (tree_look c p mk) (tree_begin c p mk) x (Accepts k (Own b) ∷ h) ≡ owned_behind (says_hand p x ys) (owned (tree_look c p mk) (tree_begin c p mk) x h)
        owned_accepted x = ap (λ d. owned_behind d (owned look begin x h)) (hand_same x)

        known_accepted : (x : ContextId) → is_known (tree_look c p mk) (tree_begin c p mk) x (Accepts k (Own b) ∷ h) ≡ (says_name x ys || is_known (tree_look c p mk) (tree_begin c p mk) x h)
        known_accepted x = ap (λ v. v || is_known look begin x h) (name_same x)

        accepted_done : (x : ContextId) → Done (tree_look c p mk) (tree_begin c p mk) (Accepts k (Own b)) (Own b) x h
        accepted_done x = record {
          new = new_of x;
          with_above = λ goes own new. along goes new;
          below_live = λ comes y up. held_only (life look begin y (Accepts k (Own b) ∷ h)) (lives_accepted.live y ∙ facts_behind_it.above_live x y (live_of x comes) up);
          by_owner = λ comes y up.
              let own : ((x.creator == p + 1) ≡ true) × (is_owner now p y ≡ true) = by_itself x y (sym (does_same x) ∙ comes) up (facts_behind_it.above_live x y (live_of x comes) up) in
              own.0 ∙ sym (owned_accepted y ∙ owned_now y (facts_behind_it.above_live x y (live_of x comes) up) ∙ own.1);
          cleared = λ y up. cleared_of y up (handed_created p y ys);
        }
          where
            along : (tree_look c p mk).does x (Own b) ≡ Goes → life (tree_look c p mk) (tree_begin c p mk) x h ≡ Coming → Above (tree_look c p mk) x (λ y. (tree_look c p mk).does y (Own b) ≡ Goes)
            along goes new = further (goes_along c mk l old ft (λ x. life look begin x h) t.lives x ys s (unmade x (sym (does_same x) ∙ goes)) (sym (does_same x) ∙ goes) new)
              where
                further : (a : ContextId) × (above_in mk x ≡ Some a) × (says_do a (line a mk) ys ≡ Goes) → Above (tree_look c p mk) x (λ y. (tree_look c p mk).does y (Own b) ≡ Goes)
                further (a, up, gone) = (a, up, does_same a ∙ gone)

            -- what is made has nothing below it yet
            cleared_of : (y : ContextId) → above_in mk x ≡ Some y → (says_hand p y ys ≡ Same) ⊎ (says_create y ys ≡ true)
                → ((tree_look c p mk).hands y (Own b) ≡ Same) ⊎ (life (tree_look c p mk) (tree_begin c p mk) x h ≡ Held → life (tree_look c p mk) (tree_begin c p mk) x (Accepts k (Own b) ∷ h) ≡ Held → ⊥)
            cleared_of y up (inl same) = inl (hand_same y ∙ same)
            cleared_of y up (inr made) = inr (λ was still.
                let x_live : before.contexts.live x ≡ true = sym (t.lives.live x) ∙ ap is_held was in
                created_new c old ys y ft.tabs_low s.fits made (ft.live_known y (ft.above_live x y x_live up)))

        pub accepted : TreeFacts c p mk (asked c.tabs (ys ++ old)) (Accepts k (Own b) ∷ h)
        accepted = keeps_with (Accepts k (Own b)) accepted_done (λ g. refl) lives_accepted owned_accepted known_accepted

    -- ---- nothing of a tree is said, and nobody is told as an owner

    module _ (stays : (x : ContextId) → says_do x (line x mk) ys ≡ Stays) (same_hand : (x : ContextId) → says_hand p x ys ≡ Same) (name_same : (x : ContextId) → parts_create x b.parts ≡ says_name x ys) (k : ℕ) where
      lives_still : LifeTies mk (asked c.tabs (ys ++ old)) (λ x. life (tree_look c p mk) (tree_begin c p mk) x h)
      lives_still = ties_same mk now (λ z. moved (says_do z (line z mk) ys) (life look begin z h)) (λ x. life look begin x h)
          (λ x. ap (λ d. moved d (life look begin x h)) (stays x)) lives_now

      owned_still : (x : ContextId) → owned (tree_look c p mk) (tree_begin c p mk) x h ≡ owned_behind (says_hand p x ys) (owned (tree_look c p mk) (tree_begin c p mk) x h)
      owned_still x = sym (ap (λ d. owned_behind d (owned look begin x h)) (same_hand x))

      known_still : (x : ContextId) → (parts_create x b.parts || is_known (tree_look c p mk) (tree_begin c p mk) x h) ≡ (says_name x ys || is_known (tree_look c p mk) (tree_begin c p mk) x h)
      known_still x = ap (λ v. v || is_known look begin x h) (name_same x)

      -- it ignores it
      pub ignored : ((x : ContextId) → Ignored ((tree_look c p mk).does x (Own b)) (life (tree_look c p mk) (tree_begin c p mk) x h)) → TreeFacts c p mk (asked c.tabs (ys ++ old)) (Ignores k (Own b) ∷ h)
      ignored fit = keeps_with (Ignores k (Own b)) fit (λ g. refl) lives_still owned_still known_still

      -- it sends back what is nothing of a tree
      module _ (d : DownBundle) (does_stays : (x : ContextId) → parts_do x (line x mk) b.parts ≡ Stays) (tells_stays : (x : ContextId) → parts_tell x (line x mk) (singles d.parts) ≡ Stays)
          (brings_none : (x : ContextId) → parts_bring x (singles d.parts) ≡ []) (hands_none : (x : ContextId) → parts_handed x (singles d.parts) ≡ Same)
        where
          handed_nothing : (x : ContextId) (a : Effect) → handed_unless a (parts_handed x (singles d.parts)) ≡ Same
          handed_nothing x Stays = hands_none x
          handed_nothing x Comes = hands_none x
          handed_nothing x Goes = refl

          reverted_fit : (x : ContextId) → GivesBack (tree_look c p mk) (tree_begin c p mk) (Own b) d x h
          reverted_fit x = record {
            returned = subst (λ a. Returned a (look.tells x d)) (sym (does_stays x)) (λ comes. let two : Stays ≡ Comes = sym (tells_stays x) ∙ comes in absurd cc);
            with_above = λ goes own new. let two : Stays ≡ Goes = sym (tells_stays x) ∙ goes in absurd cc;
            untold = λ e. tells_stays x;
            brings_none = brings_none x;
            hands_none = handed_nothing x (parts_tell x (line x mk) (singles d.parts));
          }

          pub reverted : TreeFacts c p mk (asked c.tabs (ys ++ old)) (Reverts k (Own b) d ∷ h)
          reverted = keeps_with (Reverts k (Own b) d) reverted_fit (λ g. refl)
              (ties_same mk now (λ x. life look begin x h) (λ x. life look begin x (Reverts k (Own b) d ∷ h)) (λ x. ap (λ a. moved a (life look begin x h)) (sym (tells_stays x))) lives_still)
              owned_still known_still

      -- it sends back the removal of what was made too late
      module _ (d : DownBundle) (x a : ContextId) (up : above_in mk x ≡ Some a) (new : (asked c.tabs old).contexts.known x ≡ false) (made : b.parts ≡ ups.Create x a ∷ []) (back : d.parts ≡ downs.Discard x ∷ []) (flows : Flows h) (first : IsFirst (Own b) (writes_waiting h)) where
        tells_late : (z : ContextId) → (tree_look c p mk).tells z d ≡ goes_if (is_among x (line z mk))
        tells_late z = ap (λ ps. parts_tell z (line z mk) (singles ps)) back ∙ both_stays (goes_if (is_among x (line z mk)))

        does_late : (z : ContextId) → (tree_look c p mk).does z (Own b) ≡ comes_if (same_context z x)
        does_late z = ap (parts_do z (line z mk)) made ∙ both_stays (comes_if (same_context z x))

        -- who made it is told of it, and of all below it
        told_late : (z : ContextId) → is_among x (line z mk) ≡ true → is_told (tree_look c p mk) (tree_begin c p mk) z h ≡ true
        told_late z on =
            let told_x : is_told look begin x h ≡ true = wrote_told look begin (lawful c p mk l) x (Own b) h flows t.fits runs first
            (λ stays. let two : Stays ≡ Comes = sym stays ∙ does_late x ∙ ap comes_if (same_itself x) in absurd cc) in
            let same : is_told look begin x h ≡ is_told look begin z h =
            up_the_line mk (λ w. is_told look begin w h ≡ is_told look begin z h) l (λ w u so upper. sym (told_above look begin (lawful c p mk l) w u upper h) ∙ so) (length (line z mk)) x z (omega arith) refl on in
            sym same ∙ told_x

        dead : (asked c.tabs old).contexts.live x ≡ true → ⊥
        dead e = true_false (before.contexts.known x) (ft.live_known x e) new

        -- what is below it isn't live
        dead_below : (z : ContextId) → is_among x (line z mk) ≡ true → (asked c.tabs (ys ++ old)).contexts.live z ≡ true → ⊥
        dead_below z on live =
            let live_x : now.contexts.live x ≡ true = up_the_line mk (λ w. now.contexts.live w ≡ true) l (λ w e is upper. facts_behind_it.above_live w e is upper) (length (line z mk)) x z (omega arith) live on in
            dead (sym (t.lives.live x) ∙ lives_still.live x ∙ live_x)

        lives_late : LifeTies mk (asked c.tabs (ys ++ old)) (λ z. life (tree_look c p mk) (tree_begin c p mk) z (Reverts k (Own b) d ∷ h))
        lives_late = record { live = live_late; unknown = unknown_late }
          where
            live_late : (z : ContextId) → is_held (moved ((tree_look c p mk).tells z d) (life (tree_look c p mk) (tree_begin c p mk) z h)) ≡ (asked c.tabs (ys ++ old)).contexts.live z
            live_late z = ap (λ e. is_held (moved e (life look begin z h))) (tells_late z) ∙ by_line (is_among x (line z mk)) refl
              where
                by_live : (v : Bool) → (asked c.tabs (ys ++ old)).contexts.live z ≡ v → is_among x (line z mk) ≡ true → false ≡ (asked c.tabs (ys ++ old)).contexts.live z
                by_live false isnt on = sym isnt
                by_live true is on = absurd (dead_below z on is)

                by_line : (v : Bool) → is_among x (line z mk) ≡ v → is_held (moved (goes_if v) (life (tree_look c p mk) (tree_begin c p mk) z h)) ≡ (asked c.tabs (ys ++ old)).contexts.live z
                by_line false isnt = lives_still.live z
                by_line true on = by_live (now.contexts.live z) refl on

            unknown_late : (z : ContextId) → (asked c.tabs (ys ++ old)).contexts.known z ≡ false
                → (moved ((tree_look c p mk).tells z d) (life (tree_look c p mk) (tree_begin c p mk) z h) ≡ Coming) ⊎ ((u : ContextId) × (above_in mk z ≡ Some u) × (moved ((tree_look c p mk).tells u d) (life (tree_look c p mk) (tree_begin c p mk) u h) ≡ Gone))
            unknown_late z unknown = by_line (is_among x (line z mk)) refl
              where
                kept : is_among x (line z mk) ≡ false → (life (tree_look c p mk) (tree_begin c p mk) z h ≡ Coming) ⊎ ((u : ContextId) × (above_in mk z ≡ Some u) × (life (tree_look c p mk) (tree_begin c p mk) u h ≡ Gone))
                    → (moved ((tree_look c p mk).tells z d) (life (tree_look c p mk) (tree_begin c p mk) z h) ≡ Coming) ⊎ ((u : ContextId) × (above_in mk z ≡ Some u) × (moved ((tree_look c p mk).tells u d) (life (tree_look c p mk) (tree_begin c p mk) u h) ≡ Gone))
                kept isnt (inl coming) = inl (ap (λ e. moved e (life look begin z h)) (tells_late z ∙ ap goes_if isnt) ∙ coming)
                kept isnt (inr (u, upper, gone)) = inr (u, upper, gone_behind (look.tells u d) (life look begin u h) gone)

                known_x : (asked c.tabs (ys ++ old)).contexts.known x ≡ true
                known_x = known_is c old ys x ∙ ap (λ v. v || before.contexts.known x) (sym (name_same x) ∙ ap (parts_create x) made ∙ ap (λ v. v || false) (same_itself x))

                taken : (x ≡ z) ⊎ ((u : ContextId) × (above_in mk z ≡ Some u) × (is_among x (line u mk) ≡ true)) → (u : ContextId) × (above_in mk z ≡ Some u) × (moved ((tree_look c p mk).tells u d) (life (tree_look c p mk) (tree_begin c p mk) u h) ≡ Gone)
                taken (inl is) = true_false (now.contexts.known x) known_x (ap now.contexts.known is ∙ unknown)
                taken (inr (u, upper, more)) = (u, upper, ap (λ e. moved e (life look begin u h)) (tells_late u ∙ ap goes_if more))

                by_line : (v : Bool) → is_among x (line z mk) ≡ v
                    → (moved ((tree_look c p mk).tells z d) (life (tree_look c p mk) (tree_begin c p mk) z h) ≡ Coming) ⊎ ((u : ContextId) × (above_in mk z ≡ Some u) × (moved ((tree_look c p mk).tells u d) (life (tree_look c p mk) (tree_begin c p mk) u h) ≡ Gone))
                by_line false isnt = kept isnt (lives_still.unknown z unknown)
                by_line true on = inr (taken (in_line mk l x z on))

        late_fit : (z : ContextId) → GivesBack (tree_look c p mk) (tree_begin c p mk) (Own b) d z h
        late_fit z = record {
          returned = subst (λ e. Returned e (look.tells z d)) (sym (does_late z)) (by_same (same_context z x) refl);
          with_above = λ goes own coming. by_place (in_line mk l x z (goes_when (is_among x (line z mk)) (sym (tells_late z) ∙ goes)));
          untold = λ e. by_line (is_among x (line z mk)) refl e;
          brings_none = ap (λ ps. parts_bring z (singles ps)) back;
          hands_none = ap (handed_unless (parts_tell z (line z mk) (singles d.parts))) (ap (λ ps. parts_handed z (singles ps)) back) ∙ handed_none (parts_tell z (line z mk) (singles d.parts));
        }
          where
            by_line : (v : Bool) → is_among x (line z mk) ≡ v → is_told (tree_look c p mk) (tree_begin c p mk) z h ≡ false → (tree_look c p mk).tells z d ≡ Stays
            by_line true on untold = true_false (is_told look begin z h) (told_late z on) untold
            by_line false isnt untold = tells_late z ∙ ap goes_if isnt

            handed_none : (e : Effect) → handed_unless e Same ≡ Same
            handed_none Stays = refl
            handed_none Comes = refl
            handed_none Goes = refl

            never_comes : (v : Bool) → goes_if v ≡ Comes → ⊥
            never_comes true e = absurd cc
            never_comes false e = absurd cc

            by_same : (v : Bool) → same_context z x ≡ v → Returned (comes_if v) ((tree_look c p mk).tells z d)
            by_same false isnt = λ comes. never_comes (is_among x (line z mk)) (sym (tells_late z) ∙ comes)
            by_same true is =
                tells_late z ∙ ap goes_if (ap (λ w. is_among x (line w mk)) (same_context_is z x is) ∙ ap (is_among x) (l.line_step x a up) ∙ among_itself x (line a mk))

            by_place : (x ≡ z) ⊎ ((u : ContextId) × (above_in mk z ≡ Some u) × (is_among x (line u mk) ≡ true)) → ((tree_look c p mk).does z (Own b) ≡ Comes) ⊎ Above (tree_look c p mk) z (λ y. (tree_look c p mk).tells y d ≡ Goes)
            by_place (inl is) = inl (does_late z ∙ ap comes_if (ap (λ w. same_context w x) (sym is) ∙ same_itself x))
            by_place (inr (u, upper, more)) = inr (u, upper, tells_late u ∙ ap goes_if more)

        pub late : TreeFacts c p mk (asked c.tabs (ys ++ old)) (Reverts k (Own b) d ∷ h)
        late = keeps_with (Reverts k (Own b) d) late_fit (λ g. refl) lives_late owned_still known_still

      -- it ignores a drop of what was discarded
      module _ (x : ContextId) (off : (asked c.tabs old).contexts.live x ≡ false) (dropped : b.parts ≡ ups.Drop x ∷ []) (flows : Flows h) (first : IsFirst (Own b) (writes_waiting h)) where
        keeps : Keeps (tree_look c p mk) (tree_begin c p mk) h
        keeps = record { lawful = lawful c p mk l; flows = flows; fits = t.fits }

        gone_x : life (tree_look c p mk) (tree_begin c p mk) x h ≡ Gone
        gone_x = by_stage (life look begin x h) refl
          where
            needed : (tree_look c p mk).needs x (Own b) ≡ true
            needed = ap (parts_need x) dropped ∙ ap (λ v. v || false) (same_itself x)

            named : is_known (tree_look c p mk) (tree_begin c p mk) x h ≡ true
            named = (good_ids look begin (Own b) h keeps runs first x).1 needed

            by_stage : (v : Stage) → life (tree_look c p mk) (tree_begin c p mk) x h ≡ v → life (tree_look c p mk) (tree_begin c p mk) x h ≡ Gone
            by_stage Gone is = is
            by_stage Held is = true_false (is_held (life look begin x h)) (ap is_held is) (t.lives.live x ∙ off)
            by_stage Coming is = absurd (known_came look begin keeps.lawful x h t.fits runs named is)

        -- what is below it is gone too
        gone_below : (z : ContextId) → is_among x (line z mk) ≡ true → life (tree_look c p mk) (tree_begin c p mk) x h ≡ Gone → life (tree_look c p mk) (tree_begin c p mk) z h ≡ Gone
        gone_below z on = up_the_line mk (λ y. life look begin y h ≡ Gone → life look begin z h ≡ Gone) l (λ y a gone up gone_a. gone (life_below look begin keeps.lawful y a up h gone_a)) (length (line z mk)) x z (omega arith) (λ gone. gone) on

        drop_ignored : (z : ContextId) → Ignored ((tree_look c p mk).does z (Own b)) (life (tree_look c p mk) (tree_begin c p mk) z h)
        drop_ignored z = subst (λ a. Ignored a (life look begin z h)) (sym (ap (parts_do z (line z mk)) dropped ∙ both_stays (goes_if (is_among x (line z mk))))) (by_line (is_among x (line z mk)) refl)
          where
            by_line : (v : Bool) → is_among x (line z mk) ≡ v → Ignored (goes_if v) (life (tree_look c p mk) (tree_begin c p mk) z h)
            by_line false isnt = tt
            by_line true on = gone_below z on gone_x

        pub drop_kept : TreeFacts c p mk (asked c.tabs (ys ++ old)) (Ignores k (Own b) ∷ h)
        drop_kept = ignored drop_ignored

-- ---- all cases of what the parent hears

module _ (c : Config) (p : ℕ) (ms : List Moment) (m : Moment) (mk : List Making) (b : UpBundle) (l : Lined mk) (ft : FactsTies c.tabs mk (facts_now c ms)) (told : AllByRecursion (IsToldBy mk) (makings_said m.says))
    (runs : is_ended (events_of p ms) ≡ false) (t : TreeFacts c p mk (facts_now c ms) (events_of p ms))
  where
    abbrev old : List Saying
    old = said ms

    saids : (core : List Saying) → Like c p (said ms) m.says core → FitsOver c (said ms) core → Saids c mk l (said ms) ft m.says
    saids core like fits = record { told = told; fits = like.fits fits }

    -- with the events of the process that the moment has
    with_events : (es : List ProcessEvent) → m.events p ≡ es → TreeFacts c p mk (asked c.tabs (m.says ++ said ms)) (es ++ events_of p ms) → TreeFacts c p mk (facts_now c (m ∷ ms)) (m.events p ++ events_of p ms)
    with_events es is kept = subst (λ fs. TreeFacts c p mk (asked c.tabs (m.says ++ said ms)) (fs ++ events_of p ms)) (sym is) kept

    pub made_keeps : (x a : ContextId) → HeardMade c p ms m b x a → TreeFacts c p mk (facts_now c (m ∷ ms)) (m.events p ++ events_of p ms)
    made_keeps x a e = with_events (Accepts (length ms + 1) (Own b) ∷ []) e.events
        (accepted c p mk l old ft (events_of p ms) runs t m.says (saids (Made p x a ∷ []) like (e.fits, tt)) (like.alive (tt, tt)) (like.quiet (tt, tt)) b does hands names unmade by_itself (length ms + 1))
      where
        like : Like c p (said ms) m.says (Made p x a ∷ [])
        like = like_says c p ms m (Made p x a ∷ []) e.says

        does : (z : ContextId) → parts_do z (line z mk) b.parts ≡ says_do z (line z mk) m.says
        does z = ap (parts_do z (line z mk)) e.parts ∙ sym (like.does z (line z mk))

        given : (v : Bool) → v ≡ true → (w : Bool) → hand_if w Given ≡ later_hand (hand_if w (told_owner v)) Same
        given true is true = refl
        given true is false = refl
        given false is w = absurd cc

        hands : (z : ContextId) → parts_hand z b.parts ≡ says_hand p z m.says
        hands z = ap (parts_hand z) e.parts ∙ given (p == p) (eq-eqb p p refl) (same_context z x) ∙ sym (like.hands z)

        names : (z : ContextId) → parts_create z b.parts ≡ says_name z m.says
        names z = ap (parts_create z) e.parts ∙ sym (like.names z)

        never : (v : Bool) {A : Type 0} → both (comes_if v) Stays ≡ Goes → A
        never true e = absurd cc
        never false e = absurd cc

        unmade : (z : ContextId) → says_do z (line z mk) m.says ≡ Goes → says_create z m.says ≡ false
        unmade z goes = never (same_context z x) (sym (like.does z (line z mk)) ∙ goes)

        first_of_three : (u v w : Bool) → (u && v && w) ≡ true → u ≡ true
        first_of_three true v w e = refl
        first_of_three false v w e = absurd cc

        own_x : (x.creator == p + 1) ≡ true
        own_x = first_of_three (x.creator == p + 1) (nat_lt 0 x.serial) (nat_le x.serial 240) e.fits.frame

        owned_still : (v : Bool) → v ≡ true → (w : Bool) (o : Bool) → o ≡ true → owned_behind (later_hand (hand_if w (told_owner v)) Same) o ≡ true
        owned_still true is true o own = refl
        owned_still true is false o own = own
        owned_still false is w o own = absurd cc

        -- who made it owns the one above still
        owner_above : (asked c.tabs (m.says ++ said ms)).contexts.live a ≡ true → is_owner (asked c.tabs (m.says ++ said ms)) p a ≡ true
        owner_above live =
            sym (owner_all c p (said ms) (λ z. is_owner (asked c.tabs (said ms)) p z) m.says (like.fits (e.fits, tt)) (like.alive (tt, tt)) (λ z on. refl) a live)
            ∙ ap (λ d. owned_behind d (is_owner (asked c.tabs (said ms)) p a)) (like.hands a) ∙ owned_still (p == p) (eq-eqb p p refl) (same_context a x) (is_owner (asked c.tabs (said ms)) p a) e.fits.owner

        made_told : AllByRecursion (IsToldBy mk) (makings_said m.says) → above_in mk x ≡ Some a
        made_told all = core_told e.says.sent e.says.all_sent (subst (λ zs. AllByRecursion (IsToldBy mk) (makings_said zs)) e.says.is all)
          where
            core_told : (sent : List Saying) → AllByRecursion IsSending sent → AllByRecursion (IsToldBy mk) (makings_said (sent ++ Made p x a ∷ [])) → above_in mk x ≡ Some a
            core_told [] each all = all.0
            core_told (Sent q ∷ sent) each all = core_told sent each.1 all
            core_told (_ ∷ sent) each all = absurd each.0

        by_itself : (z y : ContextId) → says_do z (line z mk) m.says ≡ Comes → above_in mk z ≡ Some y → (asked c.tabs (m.says ++ said ms)).contexts.live y ≡ true
            → ((z.creator == p + 1) ≡ true) × (is_owner (asked c.tabs (m.says ++ said ms)) p y ≡ true)
        by_itself z y comes up live =
            let is : z ≡ x = same_context_is z x (comes_when (same_context z x) (sym (both_stays (comes_if (same_context z x))) ∙ sym (like.does z (line z mk)) ∙ comes)) in
            let same : a ≡ y = some_is a y (sym (made_told told) ∙ sym (ap (above_in mk) is) ∙ up) in
            (ap (λ (w : ContextId). w.creator == p + 1) is ∙ own_x, subst (λ w. is_owner (asked c.tabs (m.says ++ said ms)) p w ≡ true) same (owner_above (subst (λ w. (asked c.tabs (m.says ++ said ms)).contexts.live w ≡ true) (sym same) live)))

    pub late_keeps : (x a : ContextId) (d : DownBundle) → Flows (events_of p ms) → IsFirst (Own b) (writes_waiting (events_of p ms)) → HeardLate c p ms m b x a d → TreeFacts c p mk (facts_now c (m ∷ ms)) (m.events p ++ events_of p ms)
    late_keeps x a d flows first e = with_events (Reverts (length ms + 1) (Own b) d ∷ []) e.events
        (late c p mk l old ft (events_of p ms) runs t m.says (saids (BornDead p x a ∷ []) like (e.fits, tt)) (like.alive (tt, tt)) (like.quiet (tt, tt)) b (λ z. like.does z (line z mk)) like.hands names (length ms + 1)
        d x a (born_told e.says.sent e.says.all_sent (subst (λ zs. AllByRecursion (IsToldBy mk) (makings_said zs)) e.says.is told)) e.fits.new e.parts e.back flows first)
      where
        like : Like c p (said ms) m.says (BornDead p x a ∷ [])
        like = like_says c p ms m (BornDead p x a ∷ []) e.says

        names : (z : ContextId) → parts_create z b.parts ≡ says_name z m.says
        names z = ap (parts_create z) e.parts ∙ sym (like.names z)

        born_told : (sent : List Saying) → AllByRecursion IsSending sent → AllByRecursion (IsToldBy mk) (makings_said (sent ++ BornDead p x a ∷ [])) → above_in mk x ≡ Some a
        born_told [] each all = all.0
        born_told (Sent q ∷ sent) each all = born_told sent each.1 all
        born_told (_ ∷ sent) each all = absurd each.0

    pub drop_keeps : (x : ContextId) → HeardDrop c p ms m b x → TreeFacts c p mk (facts_now c (m ∷ ms)) (m.events p ++ events_of p ms)
    drop_keeps x e = with_events (Accepts (length ms + 1) (Own b) ∷ []) e.events
        (accepted c p mk l old ft (events_of p ms) runs t m.says (saids (Removed x (Some p) ∷ []) like (e.live, tt)) (like.alive (tt, tt)) (like.quiet (tt, tt)) b
        (λ z. ap (parts_do z (line z mk)) e.parts ∙ sym (like.does z (line z mk))) (λ z. ap (parts_hand z) e.parts ∙ sym (like.hands z)) (λ z. ap (parts_create z) e.parts ∙ sym (like.names z))
        (λ z goes. like.creates z) (λ z y comes up live. never (is_among x (line z mk)) (sym (like.does z (line z mk)) ∙ comes)) (length ms + 1))
      where
        like : Like c p (said ms) m.says (Removed x (Some p) ∷ [])
        like = like_says c p ms m (Removed x (Some p) ∷ []) e.says

        never : (v : Bool) {A : Type 0} → both (goes_if v) Stays ≡ Comes → A
        never true e = absurd cc
        never false e = absurd cc

    pub old_drop_keeps : (x : ContextId) → Flows (events_of p ms) → IsFirst (Own b) (writes_waiting (events_of p ms)) → HeardOldDrop c p ms m b x → TreeFacts c p mk (facts_now c (m ∷ ms)) (m.events p ++ events_of p ms)
    old_drop_keeps x flows first e = with_events (Ignores (length ms + 1) (Own b) ∷ []) e.events
        (drop_kept c p mk l old ft (events_of p ms) runs t m.says (saids [] like tt) (like.alive tt) (like.quiet tt) b (λ z. like.does z (line z mk)) like.hands (λ z. ap (parts_create z) e.parts ∙ sym (like.names z)) (length ms + 1)
        x e.dead e.parts flows first)
      where
        like : Like c p (said ms) m.says []
        like = subst (λ zs. Like c p (said ms) zs []) (sym e.says) (like_sent c p (said ms) [] [] tt)

    pub acks_keep : HeardAcks c p ms m b → TreeFacts c p mk (facts_now c (m ∷ ms)) (m.events p ++ events_of p ms)
    acks_keep e = with_events (Accepts (length ms + 1) (Own b) ∷ []) e.events
        (accepted c p mk l old ft (events_of p ms) runs t m.says (saids [] like tt) (like.alive tt) (like.quiet tt) b
        (λ z. acks_do z (line z mk) b.parts e.parts ∙ sym (like.does z (line z mk))) (λ z. acks_hand z b.parts e.parts ∙ sym (like.hands z)) (λ z. acks_create z b.parts e.parts ∙ sym (like.names z))
        (λ z goes. like.creates z) (λ z y comes up live. never (sym (like.does z (line z mk)) ∙ comes)) (length ms + 1))
      where
        like : Like c p (said ms) m.says []
        like = like_acks c p (said ms) m.says e.says

        never : {A : Type 0} → Stays ≡ Comes → A
        never e = absurd cc

        acks_do : (z : ContextId) (ln : List ContextId) (parts : List UpPart) → AllByRecursion IsAck parts → parts_do z ln parts ≡ Stays
        acks_do z ln [] all = refl
        acks_do z ln (ups.DropAck x ∷ parts) all = acks_do z ln parts all.1
        acks_do z ln (_ ∷ parts) all = absurd all.0

        acks_hand : (z : ContextId) (parts : List UpPart) → AllByRecursion IsAck parts → parts_hand z parts ≡ Same
        acks_hand z [] all = refl
        acks_hand z (ups.DropAck x ∷ parts) all = acks_hand z parts all.1
        acks_hand z (_ ∷ parts) all = absurd all.0

        acks_create : (z : ContextId) (parts : List UpPart) → AllByRecursion IsAck parts → parts_create z parts ≡ false
        acks_create z [] all = refl
        acks_create z (ups.DropAck x ∷ parts) all = acks_create z parts all.1
        acks_create z (_ ∷ parts) all = absurd all.0

    pub old_commit_keeps : (x : ContextId) (cs : Changes) → HeardOldCommit c p ms m b x cs → TreeFacts c p mk (facts_now c (m ∷ ms)) (m.events p ++ events_of p ms)
    old_commit_keeps x cs e = with_events (Ignores (length ms + 1) (Own b) ∷ []) e.events
        (ignored c p mk l old ft (events_of p ms) runs t m.says (saids (Counted p ∷ []) like (tt, tt)) (like.alive (tt, tt)) (like.quiet (tt, tt)) b (λ z. like.does z (line z mk)) like.hands (λ z. ap (parts_create z) e.parts ∙ sym (like.names z)) (length ms + 1)
        (λ z. subst (λ a. Ignored a (life (tree_look c p mk) (tree_begin c p mk) z (events_of p ms))) (sym (ap (parts_do z (line z mk)) e.parts)) tt))
      where
        like : Like c p (said ms) m.says (Counted p ∷ [])
        like = subst (λ zs. Like c p (said ms) zs (Counted p ∷ [])) (sym e.says) (like_sent c p (said ms) (Counted p ∷ []) [] tt)

    -- a commit that is done is accepted, or the parent's values are sent back
    abbrev heard_as : Option DownBundle → List ProcessEvent
    heard_as None = Accepts (length ms + 1) (Own b) ∷ []
    heard_as (Some d) = Reverts (length ms + 1) (Own b) d ∷ []

    heard_done : (answer : Answer) (back : Option DownBundle) → is_done answer ≡ true → heard (length ms + 1) (Own b) answer m.says back ≡ heard_as back
    heard_done (Parts ns) None done = ap (λ (v : Bool). (if v then Accepts (length ms + 1) (Own b) else Ignores (length ms + 1) (Own b)) ∷ []) done
    heard_done (Parts ns) (Some d) done = refl
    heard_done (_) back done = absurd cc

    -- parts that are commits alone
    abbrev IsCommit : DownPart → Type 0
    IsCommit (downs.Commit x cs) = Unit {0}
    IsCommit part = ⊥

    back_commits : (x : ContextId) (cs : Changes) → AllByRecursion IsCommit (commit_unless_empty x cs)
    back_commits x cs = by_if (AllByRecursion IsCommit) (list_any is_some cs) (downs.Commit x cs ∷ []) [] (λ is. (tt, tt)) (λ isnt. tt)

    bundle_parts : (f : Facts) (parts : List DownPart) (d : DownBundle) → AllByRecursion IsCommit parts → Some d ≡ bundle_for f p parts → AllByRecursion IsCommit d.parts
    bundle_parts f [] d all is = none_some d (sym is)
    bundle_parts f (part ∷ parts) d all is = subst (λ (g : DownBundle). AllByRecursion IsCommit g.parts) (some_is (record { epoch = record { 0 = f.processes.commits_heard p }; parts = part ∷ parts }) d (sym is)) all

    commits_tell : (z : ContextId) (ln : List ContextId) (parts : List DownPart) → AllByRecursion IsCommit parts → parts_tell z ln (singles parts) ≡ Stays
    commits_tell z ln [] all = refl
    commits_tell z ln (downs.Commit x cs ∷ parts) all = commits_tell z ln parts all.1
    commits_tell z ln (_ ∷ parts) all = absurd all.0

    commits_bring : (z : ContextId) (parts : List DownPart) → AllByRecursion IsCommit parts → parts_bring z (singles parts) ≡ []
    commits_bring z [] all = refl
    commits_bring z (downs.Commit x cs ∷ parts) all = commits_bring z parts all.1
    commits_bring z (_ ∷ parts) all = absurd all.0

    commits_hand : (z : ContextId) (parts : List DownPart) → AllByRecursion IsCommit parts → parts_handed z (singles parts) ≡ Same
    commits_hand z [] all = refl
    commits_hand z (downs.Commit x cs ∷ parts) all = commits_hand z parts all.1
    commits_hand z (_ ∷ parts) all = absurd all.0

    counted_live : (f : Facts) (x : ContextId) → f.contexts.live x ≡ true → (facts_after (Counted p) f).contexts.live x ≡ true
    unfolding facts_after
    counted_live f x live = live

    pub commit_keeps : (x : ContextId) (cs : Changes) (ns : List FieldNote) (back : Option DownBundle) → HeardCommit c p ms m b x cs ns back → TreeFacts c p mk (facts_now c (m ∷ ms)) (m.events p ++ events_of p ms)
    commit_keeps x cs ns back e = with_events (heard_as back) (e.events ∙ heard_done m.answer back e.done) (by_back back e.is_back)
      where
        like : Like c p (said ms) m.says (Wrote x (applied ns cs) ∷ Counted p ∷ [])
        like = like_says c p ms m (Wrote x (applied ns cs) ∷ Counted p ∷ []) e.says

        live_then : (asked c.tabs (Counted p ∷ said ms)).contexts.live x ≡ true
        live_then = ap (λ (g : Facts). g.contexts.live x) (asked_more c.tabs (Counted p) (said ms)) ∙ counted_live (asked c.tabs (said ms)) x e.live

        said_it : Saids c mk l (said ms) ft m.says
        said_it = saids (Wrote x (applied ns cs) ∷ Counted p ∷ []) like (live_then, (tt, tt))

        does : (z : ContextId) → parts_do z (line z mk) b.parts ≡ Stays
        does z = ap (parts_do z (line z mk)) e.parts

        names : (z : ContextId) → parts_create z b.parts ≡ says_name z m.says
        names z = ap (parts_create z) e.parts ∙ sym (like.names z)

        never : {A : Type 0} → Stays ≡ Comes → A
        never e = absurd cc

        by_back : (o : Option DownBundle) → o ≡ bundle_for (facts_now c (m ∷ ms)) p (sent_back ns (facts_now c ms) x) → TreeFacts c p mk (asked c.tabs (m.says ++ said ms)) (heard_as o ++ events_of p ms)
        by_back None is =
            accepted c p mk l old ft (events_of p ms) runs t m.says said_it (like.alive (tt, (tt, tt))) (like.quiet (tt, (tt, tt))) b
            (λ z. does z ∙ sym (like.does z (line z mk))) (λ z. ap (parts_hand z) e.parts ∙ sym (like.hands z)) names
            (λ z goes. like.creates z) (λ z y comes up live. never (sym (like.does z (line z mk)) ∙ comes)) (length ms + 1)
        by_back (Some d) is =
            let all : AllByRecursion IsCommit d.parts = bundle_parts (facts_now c (m ∷ ms)) (sent_back ns (facts_now c ms) x) d (back_commits x (values_where (is_noted is_reverted ns) (facts_now c ms) x)) is in
            reverted c p mk l old ft (events_of p ms) runs t m.says said_it (like.alive (tt, (tt, tt))) (like.quiet (tt, (tt, tt))) b (λ z. like.does z (line z mk)) like.hands names (length ms + 1)
            d does (λ z. commits_tell z (line z mk) d.parts all) (λ z. commits_bring z d.parts all) (λ z. commits_hand z d.parts all)

pub heard_keeps : (c : Config) (p : ℕ) (ms : List Moment) (m : Moment) (mk : List Making) (b : UpBundle) → Lined mk → p < 16 → FactsTies c.tabs mk (facts_now c ms) → AllByRecursion (IsToldBy mk) (makings_said m.says)
    → (facts_now c ms).processes.ended p ≡ None → is_ended (events_of p ms) ≡ false → Flows (events_of p ms) → IsFirst (Own b) (writes_waiting (events_of p ms))
    → TreeFacts c p mk (facts_now c ms) (events_of p ms) → Hearing c p ms m b → TreeFacts c p mk (facts_now c (m ∷ ms)) (m.events p ++ events_of p ms)
heard_keeps c p ms m mk b l low ft told alive runs flows first t (AsMade x a e) = made_keeps c p ms m mk b l ft told runs t x a e
heard_keeps c p ms m mk b l low ft told alive runs flows first t (AsLate x a d e) = late_keeps c p ms m mk b l ft told runs t x a d flows first e
heard_keeps c p ms m mk b l low ft told alive runs flows first t (AsDrop x e) = drop_keeps c p ms m mk b l ft told runs t x e
heard_keeps c p ms m mk b l low ft told alive runs flows first t (AsOldDrop x e) = old_drop_keeps c p ms m mk b l ft told runs t x flows first e
heard_keeps c p ms m mk b l low ft told alive runs flows first t (AsAcks e) = acks_keep c p ms m mk b l ft told runs t e
heard_keeps c p ms m mk b l low ft told alive runs flows first t (AsCommit x cs ns back e) = commit_keeps c p ms m mk b l ft told runs t x cs ns back e
heard_keeps c p ms m mk b l low ft told alive runs flows first t (AsOldCommit x cs e) = old_commit_keeps c p ms m mk b l ft told runs t x cs e
heard_keeps c p ms m mk b l low ft told alive runs flows first t (AsOver e) = true_false (is_some ((facts_now c ms).processes.ended p)) e.over (ap is_some alive)
