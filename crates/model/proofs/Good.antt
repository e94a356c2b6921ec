-- A bundle of an honest process that is no fault of its sender.
use Rattle.std.proofs.Common.{◌≡◌, ℕ, ◌+◌, ◌≤◌, Bool, true, false, List, [], ◌∷◌}
use Rattle.std.specs.List.{AllByRecursion}
use Rattle.fission_ids.specs.declared.context.ContextId.{ContextId}
use Rattle.field_table.specs.declared.field.Field.{Field}
use Rattle.transaction.specs.Transaction.{Changes}
use Rattle.wire_msgs.specs.declared.bundle.UpBundle.{UpBundle}
use Rattle.wire_msgs.specs.declared.part.UpPart.{UpPart}
use Rattle.wire_msgs.specs.declared.part.UpPart.TheVariants as ups
use Rattle.protocol.specs.Hear.{is_new_frame, may_be_dropped, denied_of}
use Rattle.protocol.specs.Questions.{Facts, is_judged}
use Rattle.model.proofs.Entry.{IsAck}

-- its epoch is due, with so many commits in it, and it was made behind bundles that were sent
pub record IsDue (f : Facts) (p commits : ℕ) (b : UpBundle) : Type 0 where
  pub epoch : b.epoch.0 ≡ f.processes.commits_heard p + commits
  pub seen : b.seen ≤ f.processes.bundles_sent p

pub data IsGood (f : Facts) (p : ℕ) (b : UpBundle) : Type 0 where
  GoodCreate : (x a : ContextId) → b.parts ≡ ups.Create x a ∷ [] → IsDue f p 0 b → is_new_frame p x ≡ true
      → f.contexts.known x ≡ false → f.contexts.known a ≡ true → IsGood f p b
  GoodDrop : (x : ContextId) → b.parts ≡ ups.Drop x ∷ [] → IsDue f p 0 b → f.contexts.known x ≡ true → may_be_dropped f p x ≡ true → IsGood f p b
  GoodAcks : (a : UpPart) (parts : List UpPart) → b.parts ≡ a ∷ parts → AllByRecursion IsAck (a ∷ parts) → IsDue f p 0 b → IsGood f p b
  GoodCommit : (x : ContextId) (t : Changes) → b.parts ≡ ups.Commit x t ∷ [] → IsDue f p 1 b
      → (is_judged f p x ≡ true → (allows : Field → Bool) → denied_of allows f p x t ≡ []) → IsGood f p b
