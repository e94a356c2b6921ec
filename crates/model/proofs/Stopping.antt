-- A process that stopped has nothing that waits: a kill is the last that is sent.
use Rattle.std.proofs.Common.{◌≡◌, inl, inr, ℕ, ◌==◌, Bool, true, false, List, [], ◌∷◌, ◌++◌, refl, sym, subst, ◌∙◌}
use Rattle.std.specs.List.{AllByRecursion, list_any}
use Rattle.wire_msgs.specs.declared.bundle.DownBundle.{DownBundle}
use Rattle.wire_msgs.specs.declared.config.Config.{Config}
use Rattle.wire_msgs.specs.declared.part.DownPart.{DownPart}
use Rattle.wire_msgs.specs.declared.part.DownPart.TheVariants as downs
use Rattle.protocol.specs.Hear.{frame_known}
use Rattle.protocol.specs.ParentActs.{register_of}
use Rattle.protocol.specs.Questions.{Facts, is_subscribed, is_told}
use Rattle.protocol.specs.Sayings.{Saying}
use Rattle.protocol.specs.Sayings.Saying.{Opened, Made, BornDead, Removed, Wrote, Acked, Subscribed, Counted, Sent, Ended}
use Rattle.protocol.specs.Take.{is_kill}
use Rattle.traces.specs.Event.{Bundle}
use Rattle.traces.specs.Links.{is_ended, bundles_waiting}
use Rattle.model.specs.Moments.{ProcessEvent}
use Rattle.model.specs.Parent.{asked}
use Rattle.model.proofs.Cases.{by_if, true_false}
use Rattle.model.proofs.Entry.{PostOf, Posted, tab_known}
use Rattle.model.proofs.Entry.Posted.{NonePosted, OnePosted}

abbrev pub has_kill : Bundle DownBundle → Bool
has_kill d = list_any is_kill d.content.parts

abbrev pub IsNoKill : DownPart → Type 0
IsNoKill downs.Kill = ⊥
IsNoKill part = Unit {0}

pub no_kill : (parts : List DownPart) → AllByRecursion IsNoKill parts → list_any is_kill parts ≡ false
no_kill [] all = refl
no_kill (downs.Kill ∷ parts) all = absurd all.0
no_kill (_ ∷ parts) all = no_kill parts all.1

-- a kill is the last
abbrev pub KillLast : List (Bundle DownBundle) → Type 0
KillLast [] = Unit {0}
KillLast (d ∷ ds) = (has_kill d ≡ true → ds ≡ []) × KillLast ds

pub record Stops (run : Bool) (h : List ProcessEvent) : Type 0 where
  pub last : KillLast (bundles_waiting h)
  pub kills : is_ended h ≡ false → AllByRecursion (λ d. has_kill d ≡ false) (bundles_waiting h)
  pub runs : is_ended h ≡ false → run ≡ true
  pub stopped : run ≡ false → bundles_waiting h ≡ []

-- what is sent of others is no kill
post_kinds : (f : Facts) (p : ℕ) (y : Saying) (ds : List DownPart) → PostOf f p y ds → AllByRecursion IsNoKill ds
post_kinds f p (Made q x a) ds post = subst (AllByRecursion IsNoKill) (sym post) (by_if (AllByRecursion IsNoKill) (is_told f p a) (downs.Create (frame_known f x a) ∷ []) [] (λ is. (tt, tt)) (λ isnt. tt))
post_kinds f p (Removed w but) ds post = subst (AllByRecursion IsNoKill) (sym post) (by_if (AllByRecursion IsNoKill) (is_told f p w) (downs.Discard w ∷ []) [] (λ is. (tt, tt)) (λ isnt. tt))
post_kinds f p (Wrote x t) ds (inl (is, inl commit)) = subst (AllByRecursion IsNoKill) (sym commit) (tt, tt)
post_kinds f p (Wrote x t) ds (inl (is, inr none)) = subst (AllByRecursion IsNoKill) (sym none.0) tt
post_kinds f p (Wrote x t) ds (inr none) = subst (AllByRecursion IsNoKill) (sym none.1) tt
post_kinds f p (Opened x g is_new q) ds post =
    subst (AllByRecursion IsNoKill) (sym post) (by_if (AllByRecursion IsNoKill) (is_subscribed f p g) (downs.Create (tab_known p x g q) ∷ []) [] (λ is. (tt, tt)) (λ isnt. tt))
post_kinds f p (BornDead q x a) ds post = subst (AllByRecursion IsNoKill) (sym post) tt
post_kinds f p (Acked q x) ds post = subst (AllByRecursion IsNoKill) (sym post) tt
post_kinds f p (Subscribed q g) ds post =
    subst (AllByRecursion IsNoKill) (sym post) (by_if (AllByRecursion IsNoKill) (q == p) (register_of f p g ∷ []) [] (λ is. (tt, tt)) (λ isnt. tt))
post_kinds f p (Counted q) ds post = subst (AllByRecursion IsNoKill) (sym post) tt
post_kinds f p (Sent q) ds post = subst (AllByRecursion IsNoKill) (sym post) tt
post_kinds f p (Ended q cause) ds post = subst (AllByRecursion IsNoKill) (sym post) tt

all_append : {X : Type 0} (P : X → Type 0) (xs ys : List X) → AllByRecursion P xs → AllByRecursion P ys → AllByRecursion P (xs ++ ys)
all_append P [] ys all more = more
all_append P (x ∷ xs) ys all more = (all.0, all_append P xs ys all.1 more)

pub posted_kinds : (c : Config) (p : ℕ) (old ys : List Saying) (ds : List DownPart) → Posted c p old ys ds → AllByRecursion IsNoKill ds
posted_kinds c p old _ _ NonePosted = tt
posted_kinds c p old _ _ (OnePosted y ys before ds posted other post) = all_append IsNoKill before ds (posted_kinds c p old ys before posted) (post_kinds (asked c.tabs (ys ++ old)) p y ds post)

-- ---- lists

last_push : (ds : List (Bundle DownBundle)) (d : Bundle DownBundle) → AllByRecursion (λ d. has_kill d ≡ false) ds → KillLast (ds ++ d ∷ [])
last_push [] d none = ((λ is. refl), tt)
last_push (e ∷ ds) d none = ((λ is. true_false (has_kill e) is none.0), last_push ds d none.1)

-- ---- events

pub stops_same : (run run' : Bool) (h h' : List ProcessEvent) → bundles_waiting h' ≡ bundles_waiting h → is_ended h' ≡ is_ended h → run' ≡ run → Stops run h → Stops run' h'
stops_same run run' h h' waits ends same t = record {
  last = subst KillLast (sym waits) t.last;
  kills = λ runs. subst (AllByRecursion (λ d. has_kill d ≡ false)) (sym waits) (t.kills (sym ends ∙ runs));
  runs = λ runs. same ∙ t.runs (sym ends ∙ runs);
  stopped = λ no_more. waits ∙ t.stopped (sym same ∙ no_more);
}

-- one more is sent to who isn't ended; behind a kill it is
pub stops_push : (run run' : Bool) (h h' : List ProcessEvent) (d : Bundle DownBundle) → bundles_waiting h' ≡ bundles_waiting h ++ d ∷ [] → is_ended h ≡ false → (is_ended h' ≡ false → has_kill d ≡ false) → run' ≡ run → Stops run h → Stops run' h'
stops_push run run' h h' d waits alive plain same t = record {
  last = subst KillLast (sym waits) (last_push (bundles_waiting h) d (t.kills alive));
  kills = λ runs. subst (AllByRecursion (λ d. has_kill d ≡ false)) (sym waits) (all_append (λ d. has_kill d ≡ false) (bundles_waiting h) (d ∷ []) (t.kills alive) (plain runs, tt));
  runs = λ runs. same ∙ t.runs alive;
  stopped = λ no_more. true_false run (t.runs alive) (sym same ∙ no_more);
}

-- a kill that is taken stops the process
pub stops_take : (run run' : Bool) (h h' : List ProcessEvent) (d : Bundle DownBundle) (rest : List (Bundle DownBundle)) → bundles_waiting h ≡ d ∷ rest → bundles_waiting h' ≡ rest → is_ended h' ≡ is_ended h
    → (has_kill d ≡ false → run' ≡ true) → Stops run h → Stops run' h'
stops_take run run' h h' d rest first waits ends running t = record {
  last = subst KillLast (sym waits) (subst KillLast first t.last).1;
  kills = λ runs. subst (AllByRecursion (λ d. has_kill d ≡ false)) (sym waits) (subst (AllByRecursion (λ d. has_kill d ≡ false)) first (t.kills (sym ends ∙ runs))).1;
  runs = λ runs. running (subst (AllByRecursion (λ d. has_kill d ≡ false)) first (t.kills (sym ends ∙ runs))).0;
  stopped = λ no_more. waits ∙ by_kill (has_kill d) refl no_more;
}
  where
    by_kill : (v : Bool) → has_kill d ≡ v → run' ≡ false → rest ≡ []
    by_kill true is no_more = (subst KillLast first t.last).0 is
    by_kill false isnt no_more = true_false run' (running isnt) no_more
