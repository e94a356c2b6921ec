-- What the answers of a parent keep.
use Rattle.std.specs.Prelude.{◌≡◌, true, ◌||◌, Some}
use Rattle.fission_ids.specs.declared.context.ContextId.{ContextId}
use Rattle.fission_ids.specs.Ids.{same_context}
use Rattle.protocol.specs.Questions.{Facts, option_any}

-- what is live is known, the contexts hang together as those that they are in are live, and a frame has the
-- group of the context that it is in
pub record IsSound (f : Facts) : Type 0 where
  pub live_known : (x : ContextId) → f.contexts.live x ≡ true → f.contexts.known x ≡ true
  pub under_live : (x y : ContextId) → f.contexts.under x y ≡ true → f.contexts.live x ≡ true
  pub under_itself : (x : ContextId) → f.contexts.live x ≡ true → f.contexts.under x x ≡ true
  pub above_live : (x a : ContextId) → f.contexts.live x ≡ true → f.contexts.above x ≡ Some a
      → f.contexts.live a ≡ true
  pub under_above : (x y : ContextId) → f.contexts.live x ≡ true
      → f.contexts.under x y
      ≡ (same_context x y || option_any (λ a. f.contexts.under a y) (f.contexts.above x))
  pub group_above : (x a : ContextId) → f.contexts.known x ≡ true → f.contexts.above x ≡ Some a
      → f.contexts.group x ≡ f.contexts.group a
