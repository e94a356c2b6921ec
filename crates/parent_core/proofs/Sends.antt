-- What is sent: rulings that send alike, and the bundles.
use Rattle.std.proofs.Common.{◌≡◌, ℕ, zero, suc, ◌+◌, ◌-◌, ◌<◌, ◌≤◌, Bool, true, false, not, ◌||◌, nat_lt, if◌then◌else◌, None, Some, drop, take, List, [], ◌∷◌, ◌++◌, length, refl, sym, ap, ap₂, subst, ◌∙◌, arith}
use Rattle.std.proofs.Common.{append_assoc}
use Rattle.std.specs.List.{insert, prefix_len}
use Rattle.std.proofs.lemmas.List.{append-nil, drop_all, length-drop, take_all}
use Rattle.fission_ids.specs.declared.process.ProcId.{ProcId}
use Rattle.fission_ids.specs.ProcSet.{has}
use Rattle.wire_msgs.specs.declared.answer.Answer.{Answer}
use Rattle.wire_msgs.specs.declared.bundle.DownBundle.{DownBundle}
use Rattle.wire_msgs.specs.declared.part.DownPart.{DownPart}
use Rattle.protocol.specs.Questions.{Facts}
use Rattle.protocol.specs.Sayings.Saying.{Sent}
use Rattle.protocol.specs.FactsAfter.{facts_after}
use Rattle.protocol.specs.Bundle.{Ruling, after_sending, is_no_bundle, ruling, bundle_for}
use Rattle.protocol.specs.Order.{in_order, down_rank, parts_with, parts_with_all}
use Rattle.protocol.specs.Start.{numbers}
use Rattle.parent_core.specs.Parent.{Kept, facts_of}
use Rattle.parent_core.specs.Ruled.{RuledBy, addressed, bundles_of}
use Rattle.parent_core.specs.Posts.{Posted, bundle_parts, is_sent_to, part_to, sent_to, some_parts}
use Rattle.parent_core.specs.Sending.{bundle_with, bundles_to}
use Rattle.parent_core.specs.declared.ruled.Ruled.{Ruled}

-- the answers behind what the first n processes are sent
abbrev pub behind_sends : ℕ → (ℕ → List DownPart) → Facts → Facts
behind_sends = after_sending (λ f. f) facts_after

-- a ruling over the answers
abbrev pub plain_ruling : ℕ → Answer → (ℕ → List DownPart) → Facts → Ruling Facts
plain_ruling = ruling (λ f. f) facts_after

-- ---- nothing is sent

sends_none : (n : ℕ) (f : Facts) → behind_sends n (λ q. []) f ≡ f
sends_none zero f = refl
sends_none (suc n) f = sends_none n f

no_bundles : (a : Answer) (f : Facts) (qs : List ℕ) → [] ≡ bundles_of (record { answer = a; kept = f; sends = λ q. [] }) qs
no_bundles a f [] = refl
no_bundles a f (q ∷ qs) = no_bundles a f qs

-- nothing changes and nothing is sent
pub ruled_quiet : (k : Kept) (a : Answer) → RuledBy k (plain_ruling (length k.config.types) a (λ q. []) (facts_of k)) (record { core = k; answer = a; sent = [] })
ruled_quiet k a = record {
  config = refl;
  facts = sym (sends_none (length k.config.types) (facts_of k));
  answer = refl;
  sent = no_bundles a (behind_sends (length k.config.types) (λ q. []) (facts_of k)) (numbers 0 (length k.config.types));
}

-- ---- rulings that send alike

-- two ways to send that agree on the first n processes
abbrev pub SendAlike : ℕ → (ℕ → List DownPart) → (ℕ → List DownPart) → Type 0
SendAlike n sends others = (q : ℕ) → q < n → sends q ≡ others q

behind_alike : (n : ℕ) (sends others : ℕ → List DownPart) (f : Facts) → SendAlike n sends others → behind_sends n sends f ≡ behind_sends n others f
behind_alike zero sends others f alike = refl
behind_alike (suc n) sends others f alike =
    ap (λ ds. if is_no_bundle ds then behind_sends n sends f else facts_after (Sent n) (behind_sends n sends f)) (alike n (omega arith))
    ∙ ap (λ g. if is_no_bundle (others n) then g else facts_after (Sent n) g) (behind_alike n sends others f (λ q lt. alike q (omega arith)))

bundles_alike : (a : Answer) (f : Facts) (sends others : ℕ → List DownPart) (k n : ℕ) → ((q : ℕ) → k ≤ q → q < k + n → sends q ≡ others q)
    → bundles_of (record { answer = a; kept = f; sends = sends }) (numbers k n) ≡ bundles_of (record { answer = a; kept = f; sends = others }) (numbers k n)
bundles_alike a f sends others k zero alike = refl
bundles_alike a f sends others k (suc n) alike =
    let here : sends k ≡ others k = alike k (omega arith) (omega arith) in
    let rest : bundles_of (record { answer = a; kept = f; sends = sends }) (numbers (suc k) n) ≡ bundles_of (record { answer = a; kept = f; sends = others }) (numbers (suc k) n) =
    bundles_alike a f sends others (suc k) n (λ q from below. alike q (omega arith) (omega arith)) in
    ap₂ (λ ds bs. addressed k (bundle_for f k ds) ++ bs) here rest

-- a ruling may be told by another way to send that agrees with its own
pub ruled_alike : (k : Kept) (n : ℕ) (a : Answer) (sends others : ℕ → List DownPart) (f : Facts) (r : Ruled) → length k.config.types ≡ n → SendAlike n sends others
    → RuledBy k (plain_ruling n a sends f) r → RuledBy k (plain_ruling n a others f) r
ruled_alike k n a sends others f r len alike ruled = record {
  config = ruled.config;
  facts = ruled.facts ∙ behind_alike n sends others f alike;
  answer = ruled.answer;
  sent =
      ruled.sent
      ∙ ap (λ g. bundles_of (record { answer = a; kept = g; sends = sends }) (numbers 0 (length k.config.types))) (behind_alike n sends others f alike)
      ∙ bundles_alike a (behind_sends n others f) sends others 0 (length k.config.types) (λ q from below. alike q (omega arith));
}

-- a ruling is that of the parent that was before, which has the same configuration
pub ruled_from : (before k : Kept) (rule : Ruling Facts) (r : Ruled) → k.config ≡ before.config → RuledBy k rule r → RuledBy before rule r
ruled_from before k rule r config ruled = record {
  config = ruled.config ∙ config;
  facts = ruled.facts;
  answer = ruled.answer;
  sent = ruled.sent ∙ ap (λ c. bundles_of rule (numbers 0 (length c.types))) config;
}

-- what is posted and sent behind a change is what a ruling sends
pub ruled_by : (before k : Kept) (a : Answer) (posts : List Posted) (sends : ℕ → List DownPart) (f : Facts) (r : Ruled) → length before.config.types ≤ 16
    → k.config ≡ before.config → facts_of k ≡ f → ((q : ℕ) → q < 16 → bundle_parts posts q ≡ sends q)
    → RuledBy k (plain_ruling (length k.config.types) a (bundle_parts posts) (facts_of k)) r
    → RuledBy before (plain_ruling (length before.config.types) a sends f) r
ruled_by before k a posts sends f r few config facts alike ruled =
    let n = length before.config.types in
    ruled_alike before n a (bundle_parts posts) sends f r refl (λ q lt. alike q (omega arith))
    (ruled_from before k (plain_ruling n a (bundle_parts posts) f) r config
    (subst (λ (rl : Ruling Facts). RuledBy k rl r) (ap₂ (λ c g. plain_ruling (length c.types) a (bundle_parts posts) g) config facts) ruled))

-- ---- the bundles

heard_behind : (n : ℕ) (sends : ℕ → List DownPart) (f : Facts) → (behind_sends n sends f).processes.commits_heard ≡ f.processes.commits_heard
unfolding facts_after
heard_behind zero sends f = refl
heard_behind (suc n) sends f = by (is_no_bundle (sends n)) (heard_behind n sends f)
  where
    by : (b : Bool) → (behind_sends n sends f).processes.commits_heard ≡ f.processes.commits_heard
        → (if b then behind_sends n sends f else facts_after (Sent n) (behind_sends n sends f)).processes.commits_heard ≡ f.processes.commits_heard
    by true so = so
    by false so = so

one_bundle : (f : Facts) (q : ℕ) (ds : List DownPart) → addressed q (bundle_with (f.processes.commits_heard q) ds) ≡ addressed q (bundle_for f q ds)
one_bundle f q [] = refl
one_bundle f q (d ∷ ds) = refl

bundles_told : (a : Answer) (f : Facts) (sends : ℕ → List DownPart) (qs : List ℕ)
    → bundles_to sends f.processes.commits_heard qs ≡ bundles_of (record { answer = a; kept = f; sends = sends }) qs
bundles_told a f sends [] = refl
bundles_told a f sends (q ∷ qs) = ap₂ (λ xs ys. xs ++ ys) (one_bundle f q (sends q)) (bundles_told a f sends qs)

-- what is sent and counted is what a ruling sends
pub ruled_sent : (before wrote after : Kept) (a : Answer) (sends : ℕ → List DownPart) (f : Facts) (sent : List (ProcId × DownBundle))
    → wrote.config ≡ before.config → facts_of wrote ≡ f → after.config ≡ wrote.config
    → facts_of after ≡ behind_sends (length wrote.config.types) sends (facts_of wrote)
    → sent ≡ bundles_to sends (facts_of wrote).processes.commits_heard (numbers 0 (length wrote.config.types))
    → RuledBy before (plain_ruling (length before.config.types) a sends f) (record { core = after; answer = a; sent = sent })
ruled_sent before wrote after a sends f sent config facts config_after facts_after sent_is =
    let len : length wrote.config.types ≡ length before.config.types = ap (λ c. length c.types) config in
    let n = length before.config.types in
    let told : sent ≡ bundles_to sends f.processes.commits_heard (numbers 0 n) =
    sent_is ∙ ap₂ (λ g m. bundles_to sends g.processes.commits_heard (numbers 0 m)) facts len in
    record {
      config = config_after ∙ config;
      facts = facts_after ∙ ap₂ (λ g m. behind_sends m sends g) facts len;
      answer = refl;
      sent =
          told
          ∙ ap (λ (h : ℕ → ℕ). bundles_to sends h (numbers 0 n)) (sym (heard_behind n sends f))
          ∙ bundles_told a (behind_sends n sends f) sends (numbers 0 n);
    }

-- ---- the loop over the processes

-- the bundles of the processes from i on begin with that of i
bundles_next : (sends : ℕ → List DownPart) (heard : ℕ → ℕ) (i n : ℕ) → i < n
    → bundles_to sends heard (numbers i (n - i)) ≡ addressed i (bundle_with (heard i) (sends i)) ++ bundles_to sends heard (numbers (i + 1) (n - (i + 1)))
bundles_next sends heard i n lt =
    let left : n - i ≡ suc (n - (i + 1)) = omega arith in
    let one : suc i ≡ i + 1 = omega arith in
    ap (λ m. bundles_to sends heard (numbers i m)) left
    ∙ ap (λ k. addressed i (bundle_with (heard i) (sends i)) ++ bundles_to sends heard (numbers k (n - (i + 1)))) one

bundles_end : (sends : ℕ → List DownPart) (heard : ℕ → ℕ) (i n : ℕ) → n ≤ i → bundles_to sends heard (numbers i (n - i)) ≡ []
bundles_end sends heard i n le = let none : n - i ≡ 0 = omega arith in ap (λ m. bundles_to sends heard (numbers i m)) none

pub bundles_more : (sends : ℕ → List DownPart) (heard : ℕ → ℕ) (i n : ℕ) (sent new all : List (ProcId × DownBundle)) → i < n
    → new ≡ sent ++ addressed i (bundle_with (heard i) (sends i)) → sent ++ bundles_to sends heard (numbers i (n - i)) ≡ all → new ++ bundles_to sends heard (numbers (i + 1) (n - (i + 1))) ≡ all
bundles_more sends heard i n sent new all lt new_is so_far =
    let rest = bundles_to sends heard (numbers (i + 1) (n - (i + 1))) in
    ap (λ (xs : List (ProcId × DownBundle)). xs ++ rest) new_is
    ∙ append_assoc sent (addressed i (bundle_with (heard i) (sends i))) rest
    ∙ sym (ap (λ (xs : List (ProcId × DownBundle)). sent ++ xs) (bundles_next sends heard i n lt))
    ∙ so_far

pub bundles_done : (sends : ℕ → List DownPart) (heard : ℕ → ℕ) (i n : ℕ) (sent all : List (ProcId × DownBundle)) → n ≤ i
    → sent ++ bundles_to sends heard (numbers i (n - i)) ≡ all → sent ≡ all
bundles_done sends heard i n sent all le so_far =
    sym (append-nil sent) ∙ sym (ap (λ (xs : List (ProcId × DownBundle)). sent ++ xs) (bundles_end sends heard i n le)) ∙ so_far

-- ---- what one process is sent

-- what is posted behind the rest
pub sent_more : (posts new : List Posted) (a : Posted) → new ≡ posts ++ a ∷ [] → (q : ℕ) → sent_to new q ≡ sent_to posts q ++ part_to a.to a.part q
sent_more posts new a e q = ap (λ ps. sent_to ps q) e ∙ go posts
  where
    go : (ps : List Posted) → sent_to (ps ++ a ∷ []) q ≡ sent_to ps q ++ part_to a.to a.part q
    go [] = append-nil (part_to a.to a.part q)
    go (b ∷ ps) = ap (λ ds. part_to b.to b.part q ++ ds) (go ps) ∙ sym (append_assoc (part_to b.to b.part q) (sent_to ps q) (part_to a.to a.part q))

-- parts put among others, one list behind the other
pub all_put : (xs ys ds : List DownPart) → parts_with_all (xs ++ ys) ds ≡ parts_with_all ys (parts_with_all xs ds)
unfolding parts_with_all
all_put [] ys ds = refl
all_put (x ∷ xs) ys ds = all_put xs ys (parts_with x ds)

pub put_none : (ds : List DownPart) → parts_with_all [] ds ≡ ds
unfolding parts_with_all
put_none ds = refl

pub put_one : (d : DownPart) (ds : List DownPart) → parts_with_all (d ∷ []) ds ≡ parts_with d ds
unfolding parts_with_all
put_one d ds = refl

-- a part alone is in its order
pub one_in_order : (d : DownPart) → in_order (d ∷ []) ≡ d ∷ []
unfolding parts_with_all
one_in_order d = refl

pub none_in_order : in_order [] ≡ []
unfolding parts_with_all
none_in_order = refl

inserted : (ds : List DownPart) (n : ℕ) (d : DownPart) → is_no_bundle (insert ds n d) ≡ false
inserted [] zero d = refl
inserted [] (suc n) d = refl
inserted (e ∷ ds) zero d = refl
inserted (e ∷ ds) (suc n) d = refl

put_some : (xs ds : List DownPart) → is_no_bundle ds ≡ false → is_no_bundle (parts_with_all xs ds) ≡ false
unfolding parts_with_all
put_some [] ds some = some
put_some (x ∷ xs) ds some = put_some xs (parts_with x ds) (inserted ds (prefix_len (λ e. not (nat_lt (down_rank x) (down_rank e))) ds) x)

-- order leaves nothing out
pub ordered_some : (ds : List DownPart) → is_no_bundle (in_order ds) ≡ is_no_bundle ds
unfolding parts_with_all
ordered_some [] = refl
ordered_some (d ∷ ds) = put_some ds (parts_with d []) (inserted [] (prefix_len (λ e. not (nat_lt (down_rank d) (down_rank e))) []) d)

none_first : (b : Bool) (a : Posted) (posts : List Posted) (q : ℕ) → (b || is_sent_to posts q) ≡ false → (is_sent_to posts q ≡ false → sent_to posts q ≡ [])
    → (if b then a.part ∷ [] else []) ++ sent_to posts q ≡ []
none_first true a posts q e rest = absurd cc
none_first false a posts q e rest = rest e

sent_none : (posts : List Posted) (q : ℕ) → is_sent_to posts q ≡ false → sent_to posts q ≡ []
sent_none [] q e = refl
sent_none (a ∷ posts) q e = none_first (has a.to q) a posts q e (sent_none posts q)

some_first : (b : Bool) (a : Posted) (posts : List Posted) (q : ℕ) → is_no_bundle (sent_to posts q) ≡ not (is_sent_to posts q)
    → is_no_bundle ((if b then a.part ∷ [] else []) ++ sent_to posts q) ≡ not (b || is_sent_to posts q)
some_first true a posts q rest = refl
some_first false a posts q rest = rest

sent_some : (posts : List Posted) (q : ℕ) → is_no_bundle (sent_to posts q) ≡ not (is_sent_to posts q)
sent_some [] q = refl
sent_some (a ∷ posts) q = some_first (has a.to q) a posts q (sent_some posts q)

-- a process that is sent anything gets a bundle
pub sent_or_not : (posts : List Posted) (q : ℕ) → is_sent_to posts q ≡ not (is_no_bundle (bundle_parts posts q))
sent_or_not posts q = not_not (is_sent_to posts q) ∙ sym (ap not (ordered_some (sent_to posts q) ∙ sent_some posts q))
  where
    not_not : (b : Bool) → b ≡ not (not b)
    not_not true = refl
    not_not false = refl

is_some_parts : (ds : List DownPart) → is_no_bundle ds ≡ false → Some ds ≡ some_parts ds
is_some_parts [] e = absurd cc
is_some_parts (d ∷ ds) e = refl

-- the first of what is posted is alone
pub first_alone : (a : Posted) (posts : List Posted) (q : ℕ) → has a.to q ≡ true → is_sent_to posts q ≡ false → Some (a.part ∷ []) ≡ some_parts (bundle_parts (a ∷ posts) q)
first_alone a posts q e none =
    sym (ap some_parts (ap₂ (λ b ds. in_order ((if b then a.part ∷ [] else []) ++ ds)) e (sent_none posts q none) ∙ one_in_order a.part))

-- the same of a list that begins with it
pub first_alone_in : (a : Posted) (posts : List Posted) (q : ℕ) → posts ≡ a ∷ drop 1 posts → has a.to q ≡ true → is_sent_to (drop 1 posts) q ≡ false
    → Some (a.part ∷ []) ≡ some_parts (bundle_parts posts q)
first_alone_in a posts q is e none = first_alone a (drop 1 posts) q e none ∙ sym (ap (λ ps. some_parts (bundle_parts ps q)) is)

-- all but the first
pub rest_of : (posts : List Posted) → take (length posts - 1) (drop 1 posts) ≡ drop 1 posts
rest_of posts =
    let len : length (drop 1 posts) ≡ length posts - 1 = length-drop 1 posts in
    let all : length (drop 1 posts) ≤ length posts - 1 = omega (arith, len) in
    take_all (length posts - 1) (drop 1 posts) all

pub none_posted : (posts : List Posted) (q : ℕ) → length posts < 1 → None ≡ some_parts (bundle_parts posts q)
none_posted [] q lt = sym (ap some_parts none_in_order)
none_posted (a ∷ posts) q lt = absurd (omega arith)

-- or there are more
pub first_of_more : (a : Posted) (posts : List Posted) (q : ℕ) → has a.to q ≡ true → Some (bundle_parts (a ∷ posts) q) ≡ some_parts (bundle_parts (a ∷ posts) q)
first_of_more a posts q e =
    is_some_parts (bundle_parts (a ∷ posts) q)
    (ordered_some (sent_to (a ∷ posts) q) ∙ sent_some (a ∷ posts) q ∙ ap (λ b. not (b || is_sent_to posts q)) e)

pub first_of_more_in : (a : Posted) (posts : List Posted) (q : ℕ) → posts ≡ a ∷ drop 1 posts → has a.to q ≡ true → Some (bundle_parts posts q) ≡ some_parts (bundle_parts posts q)
first_of_more_in a posts q is e =
    ap (λ ps. Some (bundle_parts ps q)) is ∙ first_of_more a (drop 1 posts) q e ∙ sym (ap (λ ps. some_parts (bundle_parts ps q)) is)

-- ---- the bundle of one process

pub none_put : (heard q : ℕ) (ds : List DownPart) (sent : List (ProcId × DownBundle)) → None ≡ some_parts ds → sent ≡ sent ++ addressed q (bundle_with heard ds)
none_put heard q [] sent e = sym (append-nil sent)
none_put heard q (d ∷ ds) sent e = absurd cc

pub one_put : (heard q : ℕ) (parts ds : List DownPart) (sent new : List (ProcId × DownBundle)) → Some parts ≡ some_parts ds
    → new ≡ sent ++ (record { 0 = q }, record { epoch = record { 0 = heard }; parts = parts }) ∷ [] → new ≡ sent ++ addressed q (bundle_with heard ds)
one_put heard q parts [] sent new e is = absurd cc
one_put heard q parts (d ∷ ds) sent new e is =
    let same : parts ≡ d ∷ ds = cc in
    is ∙ ap (λ (es : List DownPart). sent ++ (record { 0 = q }, record { epoch = record { 0 = heard }; parts = es }) ∷ []) same

-- ---- the loop over what is posted

pub put_next : (posts : List Posted) (i q : ℕ) (a : Posted) (parts new all : List DownPart) → drop i posts ≡ a ∷ drop (i + 1) posts
    → new ≡ parts_with_all (part_to a.to a.part q) parts → parts_with_all (sent_to (drop i posts) q) parts ≡ all → parts_with_all (sent_to (drop (i + 1) posts) q) new ≡ all
put_next posts i q a parts new all is new_is so_far =
    ap (parts_with_all (sent_to (drop (i + 1) posts) q)) new_is
    ∙ sym (all_put (part_to a.to a.part q) (sent_to (drop (i + 1) posts) q) parts)
    ∙ sym (ap (λ ps. parts_with_all (sent_to ps q) parts) is) ∙ so_far

pub put_done : (posts : List Posted) (i q : ℕ) (parts all : List DownPart) → length posts ≤ i → parts_with_all (sent_to (drop i posts) q) parts ≡ all → parts ≡ all
put_done posts i q parts all past so_far = sym (put_none parts) ∙ sym (ap (λ ps. parts_with_all (sent_to ps q) parts) (drop_all i posts past)) ∙ so_far
