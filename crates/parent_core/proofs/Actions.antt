-- The rulings of what the parent does of its own accord.
use Rattle.std.proofs.Common.{◌≡◌, ℕ, ◌<◌, ◌≤◌, ◌==◌, Bool, true, false, not, if◌then◌else◌, Option, None, Some, List, [], ◌∷◌, ◌++◌, length, refl, sym, ap, ap₂, subst, ◌∙◌}
use Rattle.std.specs.Prelude.{is_none, is_some}
use Rattle.std.specs.Option.{option_map_or}
use Rattle.fission_ids.specs.declared.context.ContextId.{ContextId}
use Rattle.fission_ids.specs.declared.process.ProcId.{ProcId}
use Rattle.fission_ids.specs.declared.process.ProcSet.{ProcSet}
use Rattle.fission_ids.specs.ProcSet.{has}
use Rattle.transaction.specs.Transaction.{Changes}
use Rattle.wire_msgs.specs.declared.action.ParentAction.{ParentAction}
use Rattle.wire_msgs.specs.declared.action.ParentAction.TheVariants.{Set, Discard, Kill}
use Rattle.wire_msgs.specs.declared.answer.Answer.{Answer}
use Rattle.wire_msgs.specs.declared.answer.Answer.TheVariants.{Done, Refused}
use Rattle.wire_msgs.specs.declared.cause.EndCause.{EndCause}
use Rattle.wire_msgs.specs.declared.cause.EndCause.TheVariants.{Failed, Killed}
use Rattle.wire_msgs.specs.declared.part.DownPart.{DownPart}
use Rattle.wire_msgs.specs.declared.part.DownPart.TheVariants as downs
use Rattle.wire_msgs.specs.declared.refusal.Refusal.{Refusal}
use Rattle.wire_msgs.specs.declared.refusal.Refusal.TheVariants.{NoContext, NoProcess}
use Rattle.protocol.specs.Questions.{Facts, is_told}
use Rattle.protocol.specs.Sayings.{Saying}
use Rattle.protocol.specs.Sayings.Saying.{Wrote, Removed, Ended}
use Rattle.protocol.specs.Fold.{behind_all}
use Rattle.protocol.specs.FactsAfter.{facts_after}
use Rattle.protocol.specs.Order.{in_order, parts_with_all}
use Rattle.protocol.specs.ParentActs.{action_ruling, done_ruling, refusal, refused_if, denial_refused, says, answer, posts}
use Rattle.protocol.specs.Bundle.{Ruling, end_parts}
use Rattle.parent_core.specs.Parent.{Kept, facts_of}
use Rattle.parent_core.specs.Posts.{Posted, bundle_parts, end_to, part_to, sent_to}
use Rattle.parent_core.specs.Ruled.{RuledBy}
use Rattle.parent_core.specs.Writes.{denied_in_write}
use Rattle.parent_core.specs.declared.ruled.Ruled.{Ruled}
use Rattle.parent_core.proofs.Sends.{none_in_order, plain_ruling, ruled_quiet, ruled_alike, ruled_by}

-- the rule of what the parent does
abbrev pub act_ruling : Kept → ParentAction → Ruling Facts
act_ruling k action = action_ruling (λ f. f) facts_after (length k.config.types) action (facts_of k)

-- ---- an action that is refused

pub act_refused : (k : Kept) (action : ParentAction) (why : Refusal) (r : Ruled) → Some why ≡ refusal (facts_of k) action → r ≡ record { core = k; answer = Refused why; sent = [] }
    → RuledBy k (act_ruling k action) r
act_refused k action why r e is =
    let n = length k.config.types in
    let rule : plain_ruling n (Refused why) (λ q. []) (facts_of k) ≡ act_ruling k action =
    ap (λ (o : Option Refusal). option_map_or (λ w. plain_ruling n (Refused w) (λ q. []) (facts_of k)) o (done_ruling (λ f. f) facts_after n action (facts_of k))) e in
    subst (RuledBy k (act_ruling k action)) (sym is)
    (subst (λ (r : Ruling Facts). RuledBy k r (record { core = k; answer = Refused why; sent = [] })) rule (ruled_quiet k (Refused why)))

pub refusal_absent : (f : Facts) (x : ContextId) (t : Changes) → f.contexts.live x ≡ false → Some NoContext ≡ refusal f (Set x t)
unfolding refusal
refusal_absent f x t e = sym (ap (λ b. refused_if (not b) NoContext (denial_refused (denied_in_write x (is_none (f.contexts.above x)) t))) e)

pub refusal_live : (f : Facts) (x : ContextId) (t : Changes) (top : Bool) (o : Option Refusal) → f.contexts.live x ≡ true → top ≡ is_none (f.contexts.above x)
    → o ≡ denial_refused (denied_in_write x top t) → o ≡ refusal f (Set x t)
unfolding refusal
refusal_live f x t top o e is_top is =
    is ∙ ap (λ (l : Bool). denial_refused (denied_in_write x l t)) is_top
    ∙ sym (ap (λ b. refused_if (not b) NoContext (denial_refused (denied_in_write x (is_none (f.contexts.above x)) t))) e)

pub set_live : (f : Facts) (x : ContextId) (t : Changes) → refusal f (Set x t) ≡ None → f.contexts.live x ≡ true
unfolding refusal
set_live f x t = by (f.contexts.live x)
  where
    by : (b : Bool) → refused_if (not b) NoContext (denial_refused (denied_in_write x (is_none (f.contexts.above x)) t)) ≡ None → b ≡ true
    by true e = refl
    by false e = absurd cc

pub discard_refused : (f : Facts) (x : ContextId) → f.contexts.live x ≡ false → Some NoContext ≡ refusal f (Discard x)
unfolding refusal
discard_refused f x e = sym (ap (λ b. refused_if (not b) NoContext None) e)

pub discard_allowed : (f : Facts) (x : ContextId) → f.contexts.live x ≡ true → refusal f (Discard x) ≡ None
unfolding refusal
discard_allowed f x e = ap (λ b. refused_if (not b) NoContext None) e

pub kill_refused : (f : Facts) (p : ProcId) (cause : EndCause) → Some cause ≡ f.processes.ended p.0 → Some NoProcess ≡ refusal f (Kill p)
unfolding refusal
kill_refused f p cause e = ap (λ (o : Option EndCause). refused_if (is_some o) NoProcess None) e

kill_allowed : (f : Facts) (p : ProcId) → None ≡ f.processes.ended p.0 → refusal f (Kill p) ≡ None
unfolding refusal
kill_allowed f p e = ap (λ (o : Option EndCause). refused_if (is_some o) NoProcess None) (sym e)

-- ---- an action that is done

in_order_one : (b : Bool) (part : DownPart) → in_order (if b then part ∷ [] else []) ≡ (if b then part ∷ [] else [])
unfolding parts_with_all
in_order_one true part = refl
in_order_one false part = refl

-- one that comes to one saying
done_is : (n : ℕ) (action : ParentAction) (y : Saying) (f : Facts) → refusal f action ≡ None → says f action ≡ y ∷ [] → answer f action ≡ Done
    → plain_ruling n Done (λ q. in_order (posts f (facts_after y f) action q)) (facts_after y f) ≡ action_ruling (λ g. g) facts_after n action f
unfolding behind_all
done_is n action y f allowed said answered =
    ap (λ a. plain_ruling n a (λ q. in_order (posts f (facts_after y f) action q)) (facts_after y f)) (sym answered)
    ∙ sym (ap (λ (ys : List Saying). plain_ruling n (answer f action) (λ q. in_order (posts f (behind_all facts_after ys f) action q)) (behind_all facts_after ys f)) said)
    ∙ sym (ap (λ (o : Option Refusal). option_map_or (λ w. plain_ruling n (Refused w) (λ q. []) f) o (done_ruling (λ g. g) facts_after n action f)) allowed)

act_done : (k after : Kept) (action : ParentAction) (y : Saying) (posted : List Posted) (r : Ruled) → length k.config.types ≤ 16 → refusal (facts_of k) action ≡ None
    → says (facts_of k) action ≡ y ∷ [] → answer (facts_of k) action ≡ Done → after.config ≡ k.config → facts_of after ≡ facts_after y (facts_of k)
    → ((q : ℕ) → q < 16 → sent_to posted q ≡ posts (facts_of k) (facts_after y (facts_of k)) action q)
    → RuledBy after (plain_ruling (length after.config.types) Done (bundle_parts posted) (facts_of after)) r → RuledBy k (act_ruling k action) r
act_done k after action y posted r few allowed said answered config facts told ruled =
    let f : Facts = facts_of k in
    let n = length k.config.types in
    subst (λ (rl : Ruling Facts). RuledBy k rl r) (done_is n action y f allowed said answered)
    (ruled_by k after Done posted (λ q. in_order (posts f (facts_after y f) action q)) (facts_after y f) r few config facts (λ q lt. ap in_order (told q lt)) ruled)

-- what is posted to a set alone, by who is in it
posted_alone : (part : DownPart) (posted new : List Posted) (to : ProcSet) (told : Bool) (q : ℕ) → posted ≡ [] → has to q ≡ told
    → sent_to new q ≡ sent_to posted q ++ part_to to part q → sent_to new q ≡ (if told then part ∷ [] else [])
posted_alone part posted new to told q none same is = is ∙ ap₂ (λ (ps : List Posted) (b : Bool). sent_to ps q ++ (if b then part ∷ [] else [])) none same

module _ (k after : Kept) (to : ProcSet) (posted new : List Posted) (x : ContextId) (r : Ruled) (few : length k.config.types ≤ 16) (config : after.config ≡ k.config)
    (to_is : (q : ℕ) → has to q ≡ is_told (facts_of k) q x) (none : posted ≡ []) (ruled : RuledBy after (plain_ruling (length after.config.types) Done (bundle_parts new) (facts_of after)) r) where
  pub set_done : (t : Changes) → refusal (facts_of k) (Set x t) ≡ None → facts_of after ≡ facts_after (Wrote x t) (facts_of k)
      → ((q : ℕ) → sent_to new q ≡ sent_to posted q ++ part_to to (downs.Commit x t) q) → RuledBy k (act_ruling k (Set x t)) r
  unfolding says answer posts
  set_done t allowed facts told =
      act_done k after (Set x t) (Wrote x t) new r few allowed refl refl config facts
      (λ q lt. posted_alone (downs.Commit x t) posted new to (is_told (facts_of k) q x) q none (to_is q) (told q)) ruled

  pub discard_done : (facts_of k).contexts.live x ≡ true → facts_of after ≡ facts_after (Removed x None) (facts_of k)
      → ((q : ℕ) → sent_to new q ≡ sent_to posted q ++ part_to to (downs.Discard x) q) → RuledBy k (act_ruling k (Discard x)) r
  unfolding says answer posts
  discard_done live facts told =
      act_done k after (Discard x) (Removed x None) new r few (discard_allowed (facts_of k) x live) refl refl config facts
      (λ q lt. posted_alone (downs.Discard x) posted new to (is_told (facts_of k) q x) q none (to_is q) (told q)) ruled

-- ---- the end of a process

ends_in_order : (cause : EndCause) → in_order (end_parts cause) ≡ end_parts cause
unfolding parts_with_all
ends_in_order Failed = refl
ends_in_order cause = refl

pub ended_by : (k after : Kept) (p : ℕ) (cause : EndCause) (a : Answer) (posted new : List Posted) (r : Ruled) → length k.config.types ≤ 16 → after.config ≡ k.config
    → facts_of after ≡ facts_after (Ended p cause) (facts_of k) → posted ≡ [] → ((q : ℕ) → q < 16 → sent_to new q ≡ sent_to posted q ++ end_to p cause q)
    → RuledBy after (plain_ruling (length after.config.types) a (bundle_parts new) (facts_of after)) r
    → RuledBy k (plain_ruling (length k.config.types) a (end_to p cause) (facts_after (Ended p cause) (facts_of k))) r
ended_by k after p cause a posted new r few config facts none told ruled =
    ruled_by k after a new (end_to p cause) (facts_after (Ended p cause) (facts_of k)) r few config facts
    (λ q lt. ap in_order (told q lt ∙ ap (λ (ps : List Posted). sent_to ps q ++ end_to p cause q) none) ∙ ordered cause (q == p)) ruled
  where
    ordered : (c : EndCause) (b : Bool) → in_order (if b then end_parts c else []) ≡ (if b then end_parts c else [])
    ordered c true = ends_in_order c
    ordered c false = none_in_order

pub kill_done : (k : Kept) (p : ProcId) (r : Ruled) → None ≡ (facts_of k).processes.ended p.0
    → RuledBy k (plain_ruling (length k.config.types) Done (end_to p.0 Killed) (facts_after (Ended p.0 Killed) (facts_of k))) r → RuledBy k (act_ruling k (Kill p)) r
unfolding says answer posts
kill_done k p r runs ruled =
    let f : Facts = facts_of k in
    let n = length k.config.types in
    subst (λ (rl : Ruling Facts). RuledBy k rl r) (done_is n (Kill p) (Ended p.0 Killed) f (kill_allowed f p runs) refl refl)
    (ruled_alike k n Done (end_to p.0 Killed) (λ q. in_order (if q == p.0 then downs.Kill ∷ [] else [])) (facts_after (Ended p.0 Killed) f) r refl
    (λ q lt. sym (in_order_one (q == p.0) downs.Kill)) ruled)
