-- What a process made itself and the parent knows is of a group that it is told of.
use Rattle.std.proofs.Common.{◌≡◌, ◌⊎◌, inl, inr, ℕ, ◌+◌, Bool, true, false, ◌||◌, List, [], ◌∷◌, refl, ap, sym, ◌∙◌, eq-eqb}
use Rattle.fission_ids.specs.declared.context.ContextId.{ContextId}
use Rattle.wire_msgs.specs.declared.config.Config.{Config}
use Rattle.protocol.specs.Questions.{is_subscribed}
use Rattle.protocol.specs.Sayings.{Saying}
use Rattle.traces.specs.Event.{Event}
use Rattle.traces.specs.Event.Event.{Writes, Sends, Takes, Accepts, Reverts, Ignores, Changes, Does, Ends}
use Rattle.traces.specs.Links.{is_ended}
use Rattle.traces.specs.Rules.{Flows}
use Rattle.trees.specs.Look.{Look, Begin}
use Rattle.trees.specs.Rules.{Lawful, Fits}
use Rattle.trees.specs.Words.{is_told, is_held, is_known}
use Rattle.trees.proofs.Order.{wrote_told}
use Rattle.model.specs.Lines.{Making, group_in}
use Rattle.model.specs.Moments.{ProcessEvent}
use Rattle.model.specs.Parent.{asked}
use Rattle.model.specs.Trees.{tree_look, tree_begin}
use Rattle.model.proofs.Cases.{either_true, true_false}
use Rattle.model.proofs.Lining.{Lined}
use Rattle.model.proofs.Posting.{told_by}
use Rattle.model.proofs.Subscribers.{group_told, told_by_group, any_same}
use Rattle.model.proofs.TreeFacts.{TreeFacts}
use Rattle.model.proofs.TreeLawful.{lawful}

or_true : (a b : Bool) → b ≡ true → (a || b) ≡ true
or_true true b e = refl
or_true false b e = e

own_is_told : {X W B : Type 0} (look : Look X W B) (begin : Begin X) → Lawful look begin → (x : X) → look.is_own x ≡ true → (h : List (Event W B)) → Flows h → Fits look begin h → is_ended h ≡ false
    → is_known look begin x h ≡ true
    → is_told look begin x h ≡ true
own_is_told look begin l x own [] f t runs known = true_false (is_held (begin.life x)) known (ap is_held (l.none_own x own))
own_is_told look begin l x own (Writes w ∷ h) f t runs known = own_is_told look begin l x own h f.1 t.1 runs known
own_is_told look begin l x own (Takes d ∷ h) f t runs known = own_is_told look begin l x own h f.1 t.1 runs known
own_is_told look begin l x own (Does d ∷ h) f t runs known = own_is_told look begin l x own h f.1 t.1 runs known
own_is_told look begin l x own (Sends k u c ∷ h) f t runs known = by_name (either_true (look.creates x u) (is_known look begin x h) known) (own_is_told look begin l x own h f.1 t.1 runs)
  where
    by_name : (look.creates x u ≡ true) ⊎ (is_known look begin x h ≡ true) → (is_known look begin x h ≡ true → is_told look begin x h ≡ true) → (look.registers x c || is_told look begin x h) ≡ true
    by_name (inl now) rest = true_false (look.is_own x) own ((t.0 runs x).done.creates_others now)
    by_name (inr was) rest = or_true (look.registers x c) (is_told look begin x h) (rest was)
own_is_told look begin l x own (Changes k u ∷ h) f t runs known = by_name (either_true (look.creates x u) (is_known look begin x h) known) (own_is_told look begin l x own h f.1 t.1 runs)
  where
    by_name : (look.creates x u ≡ true) ⊎ (is_known look begin x h ≡ true) → (is_known look begin x h ≡ true → is_told look begin x h ≡ true) → is_told look begin x h ≡ true
    by_name (inl now) rest = true_false (look.is_own x) own ((t.0 runs x).done.creates_others now)
    by_name (inr was) rest = rest was
own_is_told look begin l x own (Accepts k w ∷ h) f t runs known = by_name (either_true (look.creates x w) (is_known look begin x h) known) (own_is_told look begin l x own h f.1 t.1 runs)
  where
    by_name : (look.creates x w ≡ true) ⊎ (is_known look begin x h ≡ true) → (is_known look begin x h ≡ true → is_told look begin x h ≡ true) → is_told look begin x h ≡ true
    by_name (inl now) rest = wrote_told look begin l x w h f.1 t.1 runs f.0 (l.creates_moves x w now)
    by_name (inr was) rest = rest was
own_is_told look begin l x own (Reverts k w c ∷ h) f t runs known = by_name (either_true (look.creates x w) (is_known look begin x h) known) (own_is_told look begin l x own h f.1 t.1 runs)
  where
    by_name : (look.creates x w ≡ true) ⊎ (is_known look begin x h ≡ true) → (is_known look begin x h ≡ true → is_told look begin x h ≡ true) → is_told look begin x h ≡ true
    by_name (inl now) rest = wrote_told look begin l x w h f.1 t.1 runs f.0.first (l.creates_moves x w now)
    by_name (inr was) rest = rest was
own_is_told look begin l x own (Ignores k w ∷ h) f t runs known = by_name (either_true (look.creates x w) (is_known look begin x h) known) (own_is_told look begin l x own h f.1 t.1 runs)
  where
    by_name : (look.creates x w ≡ true) ⊎ (is_known look begin x h ≡ true) → (is_known look begin x h ≡ true → is_told look begin x h ≡ true) → is_told look begin x h ≡ true
    by_name (inl now) rest = wrote_told look begin l x w h f.1 t.1 runs f.0 (l.creates_moves x w now)
    by_name (inr was) rest = rest was
own_is_told look begin l x own (Ends ∷ h) f t runs known = absurd cc
own_is_told look begin l x own (_ ∷ h) f t runs known = own_is_told look begin l x own h f.1 t.1 runs known

-- what the process made is of groups to which it is subscribed
abbrev pub OwnTold : Config → ℕ → List Making → List Saying → Type 0
OwnTold c p mk says = (x : ContextId) → (asked c.tabs says).contexts.known x ≡ true → x.creator ≡ p + 1 → told_by c p mk says x ≡ true

pub own_told : (c : Config) (p : ℕ) (mk : List Making) → Lined mk → (says : List Saying) (h : List ProcessEvent) → Flows h → is_ended h ≡ false → TreeFacts c p mk (asked c.tabs says) h
    → OwnTold c p mk says
own_told c p mk l says h flows runs t x known own =
    any_same (is_subscribed (asked c.tabs says) p) (λ g. group_told c p g h) t.told (group_in c.tabs mk x) ∙ sym (told_by_group c p mk x h)
    ∙ own_is_told (tree_look c p mk) (tree_begin c p mk) (lawful c p mk l) x (eq-eqb x.creator (p + 1) own) h flows t.fits runs (t.own_known x own known)
