-- Effects commute, and a second time they do nothing.
use Rattle.std.proofs.Common.{◌≡◌, ◌⊎◌, inl, inr, Bool, true, false, List, [], ◌∷◌, ◌++◌, refl, ap, ◌∙◌}
use Rattle.traces.specs.Words.{Stage}
use Rattle.traces.specs.Words.Stage.{Coming, Held, Gone}
use Rattle.trees.specs.Look.{Effect, moved}
use Rattle.trees.specs.Look.Effect.{Stays, Comes, Goes}
use Rattle.trees.specs.Words.{is_held, Stands}
use Rattle.trees.specs.Rules.{Returned}
use Rattle.std.specs.Prelude.{◌||◌}

pub either_way : (a b : Effect) (s : Stage) → moved a (moved b s) ≡ moved b (moved a s)
either_way Stays b s = refl
either_way a Stays s = refl
either_way Comes Comes s = refl
either_way Comes Goes Coming = refl
either_way Comes Goes Held = refl
either_way Comes Goes Gone = refl
either_way Goes Comes Coming = refl
either_way Goes Comes Held = refl
either_way Goes Comes Gone = refl
either_way Goes Goes s = refl

pub again : (a : Effect) (s : Stage) → moved a (moved a s) ≡ moved a s
again Stays s = refl
again Comes Coming = refl
again Comes Held = refl
again Comes Gone = refl
again Goes s = refl

-- what an effect did, no other undoes
pub still : (a b : Effect) (s : Stage) → moved a s ≡ s → moved a (moved b s) ≡ moved b s
still a b s e = either_way a b s ∙ ap (moved b) e

-- what did already what it does brings nothing new
pub comes_new : (a : Effect) (s : Stage) → moved a s ≡ s → s ≡ Coming → a ≡ Comes → ⊥
comes_new Stays s did new comes = absurd cc
comes_new Comes Coming did new comes = absurd cc
comes_new Comes Held did new comes = absurd cc
comes_new Comes Gone did new comes = absurd cc
comes_new Goes s did new comes = absurd cc

-- what is new behind an effect was new before
pub new_before : (a : Effect) (s : Stage) → moved a s ≡ Coming → s ≡ Coming
new_before Stays s e = e
new_before Comes Coming e = absurd cc
new_before Comes Held e = absurd cc
new_before Comes Gone e = absurd cc
new_before Goes s e = absurd cc

-- what is gone was so, or goes
pub gone_before : (a : Effect) (s : Stage) → moved a s ≡ Gone → (s ≡ Gone) ⊎ (a ≡ Goes)
gone_before Stays s e = inl e
gone_before Comes Coming e = absurd cc
gone_before Comes Held e = absurd cc
gone_before Comes Gone e = inl refl
gone_before Goes s e = inr refl

-- what is neither held nor comes isn't held behind it
pub unheld_behind : (a : Effect) (s : Stage) → (s ≡ Held → ⊥) → (a ≡ Comes → ⊥) → moved a s ≡ Held → ⊥
unheld_behind Stays s unheld other e = unheld e
unheld_behind Comes s unheld other e = other refl
unheld_behind Goes s unheld other e = absurd cc

pub gone_behind : (a : Effect) (s : Stage) → s ≡ Gone → moved a s ≡ Gone
gone_behind Stays s e = e
gone_behind Comes Gone e = refl
gone_behind Comes Coming e = absurd cc
gone_behind Comes Held e = absurd cc
gone_behind Goes s e = refl

-- what is held behind an effect was so, or comes
pub live_before : (a : Effect) (s : Stage) → moved a s ≡ Held → (s ≡ Held) ⊎ (a ≡ Comes)
live_before Stays s e = inl e
live_before Comes s e = inr refl
live_before Goes s e = absurd cc

-- what is sent back brings nothing
pub live_unbrought : (a b : Effect) (s : Stage) → Returned a b → moved b s ≡ Held → s ≡ Held
live_unbrought a Stays s r e = e
live_unbrought Stays Comes s r e = absurd (r refl)
live_unbrought Comes Comes s r e = absurd cc
live_unbrought Goes Comes s r e = absurd r
live_unbrought a Goes s r e = absurd cc

pub held_is : (s : Stage) → is_held s ≡ true → s ≡ Held
held_is Coming e = absurd cc
held_is Held e = refl
held_is Gone e = absurd cc

pub unless : (b : Bool) → (b ≡ true → ⊥) → b ≡ false
unless true no_way = absurd (no_way refl)
unless false no_way = refl

pub false_right : (a b : Bool) → (a || b) ≡ false → b ≡ false
false_right true b e = absurd cc
false_right false b e = e

-- what stands stands in more
pub stands_before : {W : Type 0} (does : W → Effect) (e : Effect) (ws vs : List W) → Stands does e ws → Stands does e (ws ++ vs)
stands_before does e [] vs s = absurd s
stands_before does e (w ∷ ws) vs (inl is) = inl is
stands_before does e (w ∷ ws) vs (inr s) = inr (stands_before does e ws vs s)

pub stands_last : {W : Type 0} (does : W → Effect) (e : Effect) (ws : List W) (w : W) → does w ≡ e → Stands does e (ws ++ w ∷ [])
stands_last does e [] w is = inl is
stands_last does e (v ∷ ws) w is = inr (stands_last does e ws w is)

-- what the first doesn't do stands in the rest
pub stands_rest : {W : Type 0} (does : W → Effect) (e : Effect) (w : W) (ws : List W) → (does w ≡ e → ⊥) → Stands does e (w ∷ ws) → Stands does e ws
stands_rest does e w ws other (inl is) = absurd (other is)
stands_rest does e w ws other (inr s) = s
