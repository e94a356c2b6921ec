use Rattle.std.proofs.Common.{◌∙◌, ap, ℕ, Some}
use Rattle.context_store.specs.Content.{content_after_change, stored_after_commit}
use Rattle.content_core.proofs.held.commit.Goals as goal

pub returns-clause-store : goal.returns-clause-store
returns-clause-store c =
    c.commit.ensures.content
    ∙ ap (λ (n : ℕ). content_after_change (stored_after_commit c.args.t (Some (record { 0 = n }))) c.args.x c.args.store.now) c.in-Ok.ensures.ok.0
