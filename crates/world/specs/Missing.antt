-- What a process should hold and doesn't.
use Rattle.std.specs.Prelude.{◌≡◌, ℕ, true, false, None}
use Rattle.fission_ids.specs.declared.context.ContextId.{ContextId}
use Rattle.protocol.specs.Questions.{is_told}
use Rattle.model.specs.Moments.{facts_now, seen_now}
use Rattle.model.specs.Next.{Run}
use Rattle.model.specs.Settling.{moments_in}
use Rattle.model.specs.View.{is_honest}

-- an honest process that wasn't ended doesn't hold a context that is live and that the parent tells it of
pub record IsMissing (r : Run) (p : ℕ) (x : ContextId) : Type 0 where
  pub honest : is_honest r.config p r.journal ≡ true
  pub runs : (facts_now r.config (moments_in r)).processes.ended p ≡ None
  pub live : (facts_now r.config (moments_in r)).contexts.live x ≡ true
  pub told : is_told (facts_now r.config (moments_in r)) p x ≡ true
  pub unheld : (seen_now r.config p (moments_in r)).holds x ≡ false
