-- What a change leaves as it is, for what is done behind it.
use Rattle.std.proofs.Common.{◌≡◌, ℕ, ◌<◌, Option, Result, Ok, Err, sym, ap, subst}
use Rattle.std.specs.Prelude.{IfOk}
use Rattle.fission_ids.specs.declared.context.ContextId.{ContextId}
use Rattle.transaction.specs.Transaction.{Changes}
use Rattle.wire_msgs.specs.declared.cause.EndCause.{EndCause}
use Rattle.protocol.specs.Questions.{Facts}
use Rattle.protocol.specs.Sayings.Saying.{Removed, Wrote, Ended as EndedOf}
use Rattle.protocol.specs.FactsAfter.{facts_after}
use Rattle.parent_core.specs.Parent.{Kept, facts_of}

-- ---- the counts of sent bundles

pub sent_wrote : (bound : ℕ) (before after : Kept) (x : ContextId) (t : Changes) → facts_of after ≡ facts_after (Wrote x t) (facts_of before)
    → ((q : ℕ) → (facts_of before).processes.bundles_sent q < bound) → (q : ℕ) → (facts_of after).processes.bundles_sent q < bound
unfolding facts_after
sent_wrote bound before after x t e below q = subst (λ (n : ℕ). n < bound) (sym (ap (λ (f : Facts). f.processes.bundles_sent q) e)) (below q)

pub sent_ended : (bound : ℕ) (before after : Kept) (p : ℕ) (cause : EndCause) → facts_of after ≡ facts_after (EndedOf p cause) (facts_of before)
    → ((q : ℕ) → (facts_of before).processes.bundles_sent q < bound) → (q : ℕ) → (facts_of after).processes.bundles_sent q < bound
unfolding facts_after
sent_ended bound before after p cause e below q = subst (λ (n : ℕ). n < bound) (sym (ap (λ (f : Facts). f.processes.bundles_sent q) e)) (below q)

pub sent_removed : (bound : ℕ) (before after : Kept) (x : ContextId) (but : Option ℕ) → facts_of after ≡ facts_after (Removed x but) (facts_of before)
    → ((q : ℕ) → (facts_of before).processes.bundles_sent q < bound) → (q : ℕ) → (facts_of after).processes.bundles_sent q < bound
unfolding facts_after
sent_removed bound before after x but e below q = subst (λ (n : ℕ). n < bound) (sym (ap (λ (f : Facts). f.processes.bundles_sent q) e)) (below q)

-- what holds of an answer holds where more follows from it
pub ok_map : {A E : Type 0} (P Q : A → Type 0) (r : Result A E) → ((a : A) → P a → Q a) → IfOk r P → IfOk r Q
ok_map P Q (Ok a) f h = f a h
ok_map P Q (Err e) f h = tt
