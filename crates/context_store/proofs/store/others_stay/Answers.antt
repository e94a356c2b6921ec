use Rattle.context_store.specs.Content.{stored_after_commit, stored_after_overlay}
use Rattle.context_store.proofs.Contexts.{others-changed_at}
use Rattle.context_store.proofs.store.others_stay.Goals as goal

pub returns-clause-commit : goal.returns-clause-commit
returns-clause-commit c x y t e m apart = others-changed_at (stored_after_commit t e) x y m apart

pub returns-clause-overlay : goal.returns-clause-overlay
returns-clause-overlay c x y t e m apart = others-changed_at (stored_after_overlay t e) x y m apart
