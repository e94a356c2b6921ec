-- The rulings of a tab that is opened, and of a process that joins a group.
use Rattle.std.proofs.Common.{◌≡◌, ℕ, ◌<◌, ◌≤◌, ◌==◌, Bool, true, false, not, if◌then◌else◌, Option, None, Some, List, [], ◌∷◌, ◌++◌, length, refl, sym, ap, ap₂, subst, ◌∙◌, eq-eqb, arith}
use Rattle.std.specs.Prelude.{is_none, is_some}
use Rattle.std.specs.Option.{option_map_or}
use Rattle.std.proofs.lemmas.Bool.Decides.{nat_tests}
use Rattle.fission_ids.specs.declared.context.ContextId.{ContextId}
use Rattle.fission_ids.specs.declared.group.GroupId.{GroupId}
use Rattle.fission_ids.specs.declared.process.ProcId.{ProcId}
use Rattle.fission_ids.specs.declared.process.ProcSet.{ProcSet}
use Rattle.fission_ids.specs.ProcSet.{has}
use Rattle.context_tree.proofs.Same.{same_itself}
use Rattle.wire_msgs.specs.declared.action.ParentAction.{ParentAction}
use Rattle.wire_msgs.specs.declared.action.ParentAction.TheVariants.{Tab, Subscribe}
use Rattle.wire_msgs.specs.declared.answer.Answer.{Answer}
use Rattle.wire_msgs.specs.declared.answer.Answer.TheVariants.{Done, Refused, Tab as Tab_opened}
use Rattle.wire_msgs.specs.declared.part.DownPart.{DownPart}
use Rattle.wire_msgs.specs.declared.refusal.Refusal.{Refusal}
use Rattle.wire_msgs.specs.declared.refusal.Refusal.TheVariants.{NoGroup, NoProcess}
use Rattle.protocol.specs.Questions.{Contexts, Facts, Processes, is_owner, is_subscribed, option_any}
use Rattle.protocol.specs.Sayings.Saying.{Opened, Subscribed}
use Rattle.protocol.specs.Fold.{behind_all}
use Rattle.protocol.specs.FactsAfter.{facts_after}
use Rattle.protocol.specs.Bundle.{Ruling}
use Rattle.protocol.specs.Order.{in_order}
use Rattle.protocol.specs.ParentActs.{action_ruling, answer, context_of_tab, done_ruling, group_of_tab, posts, refusal, refused_if, says}
use Rattle.parent_core.specs.Opening.{after_subscribing, told_of_joining, told_of_tab}
use Rattle.parent_core.specs.Parent.{Kept, facts_of}
use Rattle.parent_core.specs.Posts.{Posted, bundle_parts, sent_to}
use Rattle.parent_core.specs.Ruled.{RuledBy}
use Rattle.parent_core.specs.declared.ruled.Ruled.{Ruled}
use Rattle.parent_core.proofs.Actions.{act_ruling}
use Rattle.parent_core.proofs.Opened.{may_open}
use Rattle.parent_core.proofs.Sends.{plain_ruling, ruled_by}

-- ---- an action that is done, whatever it comes to

done_by : (n : ℕ) (action : ParentAction) (a : Answer) (f behind : Facts) → refusal f action ≡ None → a ≡ answer f action → behind ≡ behind_all facts_after (says f action) f
    → plain_ruling n a (λ q. in_order (posts f behind action q)) behind ≡ action_ruling (λ g. g) facts_after n action f
done_by n action a f behind allowed answered is =
    ap₂ (λ (b : Answer) (g : Facts). plain_ruling n b (λ q. in_order (posts f g action q)) g) answered is
    ∙ sym (ap (λ (o : Option Refusal). option_map_or (λ w. plain_ruling n (Refused w) (λ q. []) f) o (done_ruling (λ g. g) facts_after n action f)) allowed)

act_by : (k after : Kept) (action : ParentAction) (a : Answer) (posted : List Posted) (r : Ruled) → length k.config.types ≤ 16 → refusal (facts_of k) action ≡ None
    → a ≡ answer (facts_of k) action → after.config ≡ k.config → facts_of after ≡ behind_all facts_after (says (facts_of k) action) (facts_of k)
    → ((q : ℕ) → q < 16 → sent_to posted q ≡ posts (facts_of k) (facts_of after) action q)
    → RuledBy after (plain_ruling (length after.config.types) a (bundle_parts posted) (facts_of after)) r → RuledBy k (act_ruling k action) r
act_by k after action a posted r few allowed answered config facts told ruled =
    let f : Facts = facts_of k in
    let n = length k.config.types in
    subst (λ (rl : Ruling Facts). RuledBy k rl r) (done_by n action a f (facts_of after) allowed answered facts)
    (ruled_by k after a posted (λ q. in_order (posts f (facts_of after) action q)) (facts_of after) r few config refl (λ q lt. ap in_order (told q lt)) ruled)

-- what is posted behind nothing
posted_alone : (posted new : List Posted) (told : List DownPart) (q : ℕ) → posted ≡ [] → sent_to new q ≡ sent_to posted q ++ told → sent_to new q ≡ told
posted_alone posted new told q none is = is ∙ ap (λ (ps : List Posted). sent_to ps q ++ told) none

-- ---- a process that is subscribed

module _ (p : ℕ) (g : GroupId) (f : Facts) where
  contexts_joined : (after_subscribing p g f).contexts ≡ f.contexts
  unfolding facts_after
  contexts_joined = by (is_subscribed f p g)
    where
      by : (b : Bool) → (if b then f else facts_after (Subscribed p g) f).contexts ≡ f.contexts
      by true = refl
      by false = refl

  processes_joined : (after_subscribing p g f).processes ≡ f.processes
  unfolding facts_after
  processes_joined = by (is_subscribed f p g)
    where
      by : (b : Bool) → (if b then f else facts_after (Subscribed p g) f).processes ≡ f.processes
      by true = refl
      by false = refl

  -- behind the saying, if there is one
  behind_joining : (b : Bool) → b ≡ is_subscribed f p g → after_subscribing p g f ≡ behind_all facts_after (if b then [] else Subscribed p g ∷ []) f
  unfolding behind_all
  behind_joining true e = ap (λ b. if b then f else facts_after (Subscribed p g) f) (sym e)
  behind_joining false e = ap (λ b. if b then f else facts_after (Subscribed p g) f) (sym e)

-- ---- a tab that is opened

module _ (x : ContextId) (g : GroupId) (is_new : Bool) (p : ℕ) (f : Facts) where
  abbrev opened : Facts
  opened = facts_after (Opened x g is_new p) f

  subscribers_opened : (h : GroupId) → f.groups.subscribers h ≡ opened.groups.subscribers h
  unfolding facts_after
  subscribers_opened h = by is_new
    where
      by : (b : Bool) → f.groups.subscribers h ≡ (facts_after (Opened x g b p) f).groups.subscribers h
      by true = refl
      by false = refl

  live_opened : opened.contexts.live x ≡ true
  unfolding facts_after
  live_opened = ap (λ b. if b then true else f.contexts.live x) (same_itself x)

  turned : (m n : ℕ) → (m == n) ≡ (n == m)
  turned m n = grind (arith, nat_tests)

  owner_opened : (q : ℕ) → is_owner opened q x ≡ (q == p)
  unfolding facts_after
  owner_opened q = ap (λ b. option_any (λ o. o == q) (if b then Some p else f.contexts.owner x)) (same_itself x) ∙ turned p q

  processes_opened : opened.processes ≡ f.processes
  unfolding facts_after
  processes_opened = refl

kept_opened : (f : Facts) (p : ProcId) (named : Option GroupId) (x : ContextId) (g : GroupId) → refusal f (Tab p named) ≡ None → g ≡ group_of_tab f named
    → (facts_after (Opened x g (is_none named) p.0) f).groups.kept g ≡ true
unfolding facts_after
kept_opened f p None x g allowed is = ap (λ b. if b then true else f.groups.kept g) (eq-eqb g.0 g.0 refl)
kept_opened f p (Some named) x g allowed is = ap f.groups.kept is ∙ (may_open f p (Some named) allowed).group

-- ---- what holds behind a tab

-- the tab is opened with the context and the group that were told before
pub opened_with : (k core : Kept) (p : ℕ) (named : Option GroupId) (x : ContextId) (g : GroupId) → x ≡ context_of_tab (facts_of k) → g ≡ group_of_tab (facts_of k) named
    → facts_of core ≡ facts_after (Opened (context_of_tab (facts_of k)) (group_of_tab (facts_of k) named) (is_none named) p) (facts_of k)
    → facts_of core ≡ facts_after (Opened x g (is_none named) p) (facts_of k)
opened_with k core p named x g x_is g_is facts = facts ∙ sym (ap₂ (λ (y : ContextId) (h : GroupId). facts_after (Opened y h (is_none named) p) (facts_of k)) x_is g_is)

-- and then the process is subscribed
pub tab_behind : (k core subscribed : Kept) (p : ℕ) (named : Option GroupId) (x : ContextId) (g : GroupId) → x ≡ context_of_tab (facts_of k) → g ≡ group_of_tab (facts_of k) named
    → facts_of core ≡ facts_after (Opened (context_of_tab (facts_of k)) (group_of_tab (facts_of k) named) (is_none named) p) (facts_of k)
    → facts_of subscribed ≡ after_subscribing p g (facts_of core)
    → facts_of subscribed ≡ after_subscribing p g (facts_after (Opened x g (is_none named) p) (facts_of k))
tab_behind k core subscribed p named x g x_is g_is opens joins = joins ∙ ap (after_subscribing p g) (opened_with k core p named x g x_is g_is opens)

pub kept_behind : (k core : Kept) (p : ProcId) (named : Option GroupId) (x : ContextId) (g : GroupId) → refusal (facts_of k) (Tab p named) ≡ None
    → facts_of core ≡ facts_after (Opened x g (is_none named) p.0) (facts_of k) → g ≡ group_of_tab (facts_of k) named → (facts_of core).groups.kept g ≡ true
kept_behind k core p named x g allowed facts is = ap (λ (f : Facts). f.groups.kept g) facts ∙ kept_opened (facts_of k) p named x g allowed is

module _ (k core : Kept) (p : ℕ) (x : ContextId) (g : GroupId) (is_new : Bool) (facts : facts_of core ≡ after_subscribing p g (facts_after (Opened x g is_new p) (facts_of k))) where
  contexts_behind : (facts_of core).contexts ≡ (facts_after (Opened x g is_new p) (facts_of k)).contexts
  contexts_behind = ap (λ (f : Facts). f.contexts) facts ∙ contexts_joined p g (facts_after (Opened x g is_new p) (facts_of k))

  pub live_behind : (facts_of core).contexts.live x ≡ true
  live_behind = ap (λ (c : Contexts). c.live x) contexts_behind ∙ live_opened x g is_new p (facts_of k)

  pub owner_behind : (q : ℕ) → is_owner (facts_of core) q x ≡ (q == p)
  owner_behind q = ap (λ (c : Contexts). option_any (λ o. o == q) (c.owner x)) contexts_behind ∙ owner_opened x g is_new p (facts_of k) q

  pub sent_opened : (bound : ℕ) → ((q : ℕ) → (facts_of k).processes.bundles_sent q < bound) → (q : ℕ) → (facts_of core).processes.bundles_sent q < bound
  sent_opened bound below q =
      subst (λ (a : Processes). a.bundles_sent q < bound)
      (sym (ap (λ (f : Facts). f.processes) facts ∙ processes_joined p g (facts_after (Opened x g is_new p) (facts_of k)) ∙ processes_opened x g is_new p (facts_of k))) (below q)

pub sent_joined : (bound : ℕ) (k core : Kept) (p : ℕ) (g : GroupId) → facts_of core ≡ after_subscribing p g (facts_of k)
    → ((q : ℕ) → (facts_of k).processes.bundles_sent q < bound) → (q : ℕ) → (facts_of core).processes.bundles_sent q < bound
sent_joined bound k core p g facts below q =
    subst (λ (a : Processes). a.bundles_sent q < bound) (sym (ap (λ (f : Facts). f.processes) facts ∙ processes_joined p g (facts_of k))) (below q)

-- ---- why a process may join

pub join_kept : (f : Facts) (p : ProcId) (g : GroupId) → refusal f (Subscribe p g) ≡ None → f.groups.kept g ≡ true
unfolding refusal
join_kept f p g = by (is_some (f.processes.ended p.0)) (f.groups.kept g)
  where
    by : (b c : Bool) → refused_if b NoProcess (refused_if (not c) NoGroup None) ≡ None → c ≡ true
    by true c e = absurd (cc)
    by false true e = refl
    by false false e = absurd (cc)

-- ---- the rulings

pub tab_done : (k core : Kept) (p : ProcId) (named : Option GroupId) (x : ContextId) (g : GroupId) (told : ProcSet) (posted new : List Posted) (r : Ruled)
    → length k.config.types ≤ 16 → refusal (facts_of k) (Tab p named) ≡ None → core.config ≡ k.config
    → x ≡ context_of_tab (facts_of k) → g ≡ group_of_tab (facts_of k) named → told ≡ (facts_of k).groups.subscribers g
    → facts_of core ≡ after_subscribing p.0 g (facts_after (Opened x g (is_none named) p.0) (facts_of k)) → posted ≡ []
    → ((q : ℕ) → q < 16 → sent_to new q ≡ sent_to posted q ++ told_of_tab (facts_of core) told p.0 g x q)
    → RuledBy core (plain_ruling (length core.config.types) (Tab_opened g x) (bundle_parts new) (facts_of core)) r → RuledBy k (act_ruling k (Tab p named)) r
unfolding says answer posts behind_all
tab_done k core p named x g told posted new r few allowed config x_is g_is told_is facts none sent ruled =
    let f : Facts = facts_of k in
    let after : ContextId → GroupId → Facts = λ y h. facts_after (Opened y h (is_none named) p.0) f in
    act_by k core (Tab p named) (Tab_opened g x) new r few allowed (ap₂ (λ (h : GroupId) (y : ContextId). Tab_opened h y) g_is x_is) config
    (facts
    ∙ behind_joining p.0 g (after x g) (is_subscribed f p.0 g) (ap (λ (s : ProcSet). has s p.0) (subscribers_opened x g (is_none named) p.0 f g))
    ∙ ap₂ (λ (h : GroupId) (y : ContextId). behind_all facts_after (if is_subscribed f p.0 h then [] else Subscribed p.0 h ∷ []) (after y h)) g_is x_is)
    (λ q lt. posted_alone posted new (told_of_tab (facts_of core) told p.0 g x q) q none (sent q lt)
    ∙ ap (λ (s : ProcSet). told_of_tab (facts_of core) s p.0 g x q) told_is
    ∙ ap₂ (λ (h : GroupId) (y : ContextId). told_of_tab (facts_of core) (f.groups.subscribers h) p.0 h y q) g_is x_is)
    ruled

pub join_done : (k core : Kept) (p : ProcId) (g : GroupId) (told : ProcSet) (posted new : List Posted) (r : Ruled)
    → length k.config.types ≤ 16 → refusal (facts_of k) (Subscribe p g) ≡ None → core.config ≡ k.config → told ≡ (facts_of k).groups.subscribers g
    → facts_of core ≡ after_subscribing p.0 g (facts_of k) → posted ≡ []
    → ((q : ℕ) → q < 16 → sent_to new q ≡ sent_to posted q ++ told_of_joining (facts_of core) told p.0 g q)
    → RuledBy core (plain_ruling (length core.config.types) Done (bundle_parts new) (facts_of core)) r → RuledBy k (act_ruling k (Subscribe p g)) r
unfolding says answer posts
join_done k core p g told posted new r few allowed config told_is facts none sent ruled =
    let f : Facts = facts_of k in
    act_by k core (Subscribe p g) Done new r few allowed refl config (facts ∙ behind_joining p.0 g f (is_subscribed f p.0 g) refl)
    (λ q lt. posted_alone posted new (told_of_joining (facts_of core) told p.0 g q) q none (sent q lt)
    ∙ ap (λ (s : ProcSet). told_of_joining (facts_of core) s p.0 g q) told_is)
    ruled
