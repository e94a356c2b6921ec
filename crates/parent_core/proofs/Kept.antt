-- What the parent keeps behind what it counts, by its answers.
use Rattle.std.proofs.Common.{◌≡◌, ℕ, ◌==◌, nat_lt, Bool, not, ◌&&◌, List, length, sym, ap, ◌∙◌}
use Rattle.std.proofs.Math.Path.{fun_ext}
use Rattle.wire_msgs.specs.declared.part.DownPart.{DownPart}
use Rattle.protocol.specs.Questions.{Facts}
use Rattle.protocol.specs.Sayings.Saying.{Counted as CountedOf}
use Rattle.protocol.specs.FactsAfter.{facts_after, raised}
use Rattle.protocol.specs.Bundle.{is_no_bundle}
use Rattle.parent_core.specs.Parent.{Kept, Counted, counted_of, facts_of}
use Rattle.parent_core.specs.Sending.{counted_after, heard_after}
use Rattle.parent_core.proofs.Facts.{same_sent, sent_all, sent_behind}
use Rattle.parent_core.proofs.Sends.{behind_sends}

-- what is kept, with other counts
abbrev pub with_processes : List Counted → Kept → Kept
with_processes processes k = record k { processes = processes }

module _ (inside before : Kept) (view : inside ≡ before) where
  -- a commit was heard
  pub facts_counted : (p : ℕ) (new : List Counted) → ((q : ℕ) → counted_of q new ≡ heard_after (q == p) (counted_of q inside.processes))
      → facts_of (with_processes new inside) ≡ facts_after (CountedOf p) (facts_of before)
  unfolding facts_after
  facts_counted p new counts =
      let f : Facts = facts_of inside in
      ap (λ (h : ℕ → ℕ). record f { processes = record f.processes { commits_heard = h; bundles_sent = λ q. (counted_of q new).sent } })
      (fun_ext (λ q. ap (λ (c : Counted). c.heard) (counts q)))
      ∙ ap (λ (s : ℕ → ℕ). record f { processes = record f.processes { commits_heard = λ q. raised (q == p) (f.processes.commits_heard q); bundles_sent = s } })
      (fun_ext (λ q. ap (λ (c : Counted). c.sent) (counts q)))
      ∙ ap (λ (k : Kept). facts_after (CountedOf p) (facts_of k)) view

  -- bundles were sent, one to each process that is told anything
  pub facts_sent : (sends : ℕ → List DownPart) (told : ℕ → Bool) (new : List Counted) → ((q : ℕ) → told q ≡ not (is_no_bundle (sends q)))
      → length inside.processes ≡ length inside.config.types
      → ((q : ℕ) → counted_of q new ≡ counted_after (nat_lt q (length inside.processes) && told q) (counted_of q inside.processes))
      → facts_of (with_processes new inside) ≡ behind_sends (length before.config.types) sends (facts_of before)
  facts_sent sends told new tells len counts =
      let f : Facts = facts_of inside in
      let n : ℕ = length inside.config.types in
      ap (λ (h : ℕ → ℕ). record f { processes = record f.processes { commits_heard = h; bundles_sent = λ q. (counted_of q new).sent } })
      (fun_ext (λ q. ap (λ (c : Counted). c.heard) (counts q)))
      ∙ same_sent f (λ q. (counted_of q new).sent) (sent_behind n sends f.processes.bundles_sent)
      (λ q. ap (λ (c : Counted). c.sent) (counts q)
      ∙ ap (λ m. raised (nat_lt q m && told q) (counted_of q inside.processes).sent) len
      ∙ ap (λ b. raised (nat_lt q n && b) (counted_of q inside.processes).sent) (tells q))
      ∙ sym (sent_all n sends f)
      ∙ ap (λ (k : Kept). behind_sends (length k.config.types) sends (facts_of k)) view
