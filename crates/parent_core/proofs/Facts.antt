-- The parent's answers: when two are the same, and what the bundles that are sent make of them.
use Rattle.std.proofs.Common.{◌≡◌, ◌≢◌, ℕ, zero, suc, ◌<◌, ◌≤◌, ◌==◌, nat_lt, Bool, true, false, not, ◌&&◌, if◌then◌else◌, List, inl, inr, refl, sym, ap, ◌∙◌, arith, eq-eqb}
use Rattle.std.proofs.Math.Path.{fun_ext}
use Rattle.std.proofs.lemmas.Bool.{cases_eq, ne_eqb, le-ltb, lt-ltb, ltb-true, ltb-false}
use Rattle.fission_ids.specs.declared.context.ContextId.{ContextId}
use Rattle.fission_ids.specs.declared.group.GroupId.{GroupId}
use Rattle.field_table.specs.declared.field.Field.{Field}
use Rattle.wire_msgs.specs.declared.part.DownPart.{DownPart}
use Rattle.protocol.specs.Questions.{Facts, Contexts, Groups, Processes}
use Rattle.protocol.specs.Sayings.Saying.{Sent}
use Rattle.protocol.specs.FactsAfter.{facts_after, raised}
use Rattle.protocol.specs.Bundle.{after_sending, is_no_bundle}

-- ---- answers that are the same, question by question

pub record SameContexts (f g : Contexts) : Type 0 where
  pub known : (x : ContextId) → f.known x ≡ g.known x
  pub group : (x : ContextId) → f.group x ≡ g.group x
  pub above : (x : ContextId) → f.above x ≡ g.above x
  pub live : (x : ContextId) → f.live x ≡ g.live x
  pub under : (x y : ContextId) → f.under x y ≡ g.under x y
  pub owner : (x : ContextId) → f.owner x ≡ g.owner x
  pub value : (x : ContextId) (fld : Field) → f.value x fld ≡ g.value x fld
  pub order : f.order ≡ g.order

pub record SameGroups (f g : Groups) : Type 0 where
  pub made : f.made ≡ g.made
  pub kept : (h : GroupId) → f.kept h ≡ g.kept h
  pub subscribers : (h : GroupId) → f.subscribers h ≡ g.subscribers h
  pub awaited : (h : GroupId) → f.awaited h ≡ g.awaited h

pub record SameProcesses (f g : Processes) : Type 0 where
  pub ended : (p : ℕ) → f.ended p ≡ g.ended p
  pub commits_heard : (p : ℕ) → f.commits_heard p ≡ g.commits_heard p
  pub bundles_sent : (p : ℕ) → f.bundles_sent p ≡ g.bundles_sent p
  pub last_load : (p : ℕ) (x : ContextId) → f.last_load p x ≡ g.last_load p x

pub same_contexts : (f g : Contexts) → SameContexts f g → f ≡ g
same_contexts f g e = λ j. record {
  known = λ x. e.known x j;
  group = λ x. e.group x j;
  above = λ x. e.above x j;
  live = λ x. e.live x j;
  under = λ x y. e.under x y j;
  owner = λ x. e.owner x j;
  value = λ x fld. e.value x fld j;
  order = e.order j;
}

pub same_groups : (f g : Groups) → SameGroups f g → f ≡ g
same_groups f g e = λ j. record {
  made = e.made j;
  kept = λ h. e.kept h j;
  subscribers = λ h. e.subscribers h j;
  awaited = λ h. e.awaited h j;
}

pub same_processes : (f g : Processes) → SameProcesses f g → f ≡ g
same_processes f g e = λ j. record {
  ended = λ p. e.ended p j;
  commits_heard = λ p. e.commits_heard p j;
  bundles_sent = λ p. e.bundles_sent p j;
  last_load = λ p x. e.last_load p x j;
}

pub same_facts : (f g : Facts) → f.contexts ≡ g.contexts → f.groups ≡ g.groups → f.processes ≡ g.processes → f.tabs_made ≡ g.tabs_made → f ≡ g
same_facts f g contexts groups processes tabs = λ j. record { contexts = contexts j; groups = groups j; processes = processes j; tabs_made = tabs j }

-- ---- what is counted of one process more

at_same : (a l m c d : Bool) (s : ℕ) → a ≡ true → l ≡ false → m ≡ true → c ≡ d → raised (a && not c) (raised (l && not d) s) ≡ raised (m && not d) s
at_same true false true c d s ea el em ec = ap (λ b. raised (not b) s) ec
at_same true false false c d s ea el em ec = absurd (cc)
at_same true true m c d s ea el em ec = absurd (cc)
at_same false l m c d s ea el em ec = absurd (cc)

at_other : (a l m c d : Bool) (s : ℕ) → a ≡ false → l ≡ m → raised (a && not c) (raised (l && not d) s) ≡ raised (m && not d) s
at_other a l m c d s ea e = ap (λ b. raised (b && not c) (raised (l && not d) s)) ea ∙ ap (λ b. raised (b && not d) s) e

pub below_more : (q n : ℕ) → q ≢ n → nat_lt q n ≡ nat_lt q (suc n)
below_more q n ne = by (nat_lt q n) refl
  where
    by : (b : Bool) → nat_lt q n ≡ b → b ≡ nat_lt q (suc n)
    by true e = let lt : q < n = ltb-true q n e in let more : q < suc n = omega arith in sym (lt-ltb q (suc n) more)
    by false e = let le : n ≤ q = ltb-false q n e in let more : suc n ≤ q = omega arith in sym (le-ltb q (suc n) more)

raised_more : (q n s : ℕ) (b : ℕ → Bool) → raised (q == n && not (b n)) (raised (nat_lt q n && not (b q)) s) ≡ raised (nat_lt q (suc n) && not (b q)) s
raised_more q n s b = elim (cases_eq q n) [
  | inl e ↦
      let at : n ≤ q = omega arith in
      let under : q < suc n = omega arith in
      at_same (q == n) (nat_lt q n) (nat_lt q (suc n)) (b n) (b q) s (eq-eqb q n e) (le-ltb q n at) (lt-ltb q (suc n) under) (ap b (sym e))
  | inr ne ↦ at_other (q == n) (nat_lt q n) (nat_lt q (suc n)) (b n) (b q) s (ne_eqb q n ne) (below_more q n ne)
]

-- ---- what is sent to all

-- the answers with these counts of sent bundles
abbrev pub with_sent : (ℕ → ℕ) → Facts → Facts
with_sent sent f = record f { processes = record f.processes { bundles_sent = sent } }

pub same_sent : (f : Facts) (s t : ℕ → ℕ) → ((p : ℕ) → s p ≡ t p) → with_sent s f ≡ with_sent t f
same_sent f s t e = ap (λ (k : ℕ → ℕ). with_sent k f) (fun_ext e)

-- the counts of sent bundles, behind those that the first n processes are sent
abbrev pub sent_behind : ℕ → (ℕ → List DownPart) → (ℕ → ℕ) → ℕ → ℕ
sent_behind n sends sent p = raised (nat_lt p n && not (is_no_bundle (sends p))) (sent p)

sent_one : (b : Bool) (n : ℕ) (f : Facts) (s : ℕ → ℕ) → (if b then with_sent s f else facts_after (Sent n) (with_sent s f)) ≡ with_sent (λ p. raised (p == n && not b) (s p)) f
unfolding facts_after
sent_one true n f s = same_sent f s (λ p. raised (p == n && false) (s p)) (λ p. by (p == n) (s p))
  where
    by : (b : Bool) (k : ℕ) → k ≡ raised (b && false) k
    by true k = refl
    by false k = refl
sent_one false n f s = same_sent f (λ p. raised (p == n) (s p)) (λ p. raised (p == n && true) (s p)) (λ p. by (p == n) (s p))
  where
    by : (b : Bool) (k : ℕ) → raised b k ≡ raised (b && true) k
    by true k = refl
    by false k = refl

pub sent_all : (n : ℕ) (sends : ℕ → List DownPart) (f : Facts) → after_sending (λ f. f) facts_after n sends f ≡ with_sent (sent_behind n sends f.processes.bundles_sent) f
sent_all zero sends f = same_sent f f.processes.bundles_sent (sent_behind 0 sends f.processes.bundles_sent)
    (λ p. let none : 0 ≤ p = omega arith in sym (ap (λ b. raised (b && not (is_no_bundle (sends p))) (f.processes.bundles_sent p)) (le-ltb p 0 none)))
sent_all (suc n) sends f =
    let s : ℕ → ℕ = f.processes.bundles_sent in
    ap (λ g. if is_no_bundle (sends n) then g else facts_after (Sent n) g) (sent_all n sends f)
    ∙ sent_one (is_no_bundle (sends n)) n f (sent_behind n sends s)
    ∙ same_sent f (λ p. raised (p == n && not (is_no_bundle (sends n))) (sent_behind n sends s p)) (sent_behind (suc n) sends s)
    (λ p. raised_more p n (s p) (λ q. is_no_bundle (sends q)))
