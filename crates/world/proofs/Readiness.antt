-- A world that stands for its journal is ready for a step.
use Rattle.std.proofs.Common.{◌≡◌, ℕ, ◌<◌, List, ◌∷◌, length, map, get_or, Option, None, Some, sym, ap, subst, ◌∙◌, arith}
use Rattle.std.specs.List.{AllByRecursion}
use Rattle.std.specs.Option.{option_map}
use Rattle.std.proofs.lemmas.List.{length-map, get_or-map}
use Rattle.wire_msgs.specs.declared.bundle.DownBundle.{DownBundle}
use Rattle.wire_msgs.specs.declared.bundle.UpBundle.{UpBundle}
use Rattle.protocol.specs.Played.{ArePlayed}
use Rattle.protocol.specs.Questions.{Facts}
use Rattle.protocol.specs.Start.{numbers}
use Rattle.content_core.specs.Content.{Kept as ContentKept}
use Rattle.content_core.specs.Moved.{IsTaken}
use Rattle.parent_core.specs.Parent.{Kept as ParentKept, facts_of}
use Rattle.traces.specs.Links.{takes, bundles_sent}
use Rattle.model.specs.Journal.{Journal}
use Rattle.model.specs.Links.{up_waiting, down_waiting}
use Rattle.model.specs.Moments.{said, did_by, events_of, facts_now, moments_of}
use Rattle.model.specs.Parent.{commits_heard}
use Rattle.model.specs.Process.{commits}
use Rattle.world.specs.Came.{State}
use Rattle.world.specs.Sides.{Side, side_of, sides_of, waiting_at}
use Rattle.world.specs.Stands.{side, state_of, Stands, most_entries}
use Rattle.world.specs.Ready.{IsReady}
use Rattle.world.proofs.Lists.{length-numbers, get_or-map-numbers}
use Rattle.world.proofs.Comes.{at_links}
use Rattle.world.proofs.Few.{Few, few_counts, taken_is, sent_is}
use Rattle.world.proofs.Commits.{made_count, heard_count}
use Rattle.world.proofs.Parts.{up_played, down_taken}
use Rattle.world.proofs.Shown.{there_is}

same_side : (k : ContentKept) (s : Side) (o : Option ContentKept) → o ≡ Some k → option_map side_of o ≡ Some s → side_of k ≡ s
same_side k s o is e = cc

length-by_numbers : {A : Type 0} (f : ℕ → A) (n : ℕ) → length (map f (numbers 0 n)) ≡ n
length-by_numbers f n = length-map (numbers 0 n) f ∙ length-numbers 0 n

module _ (before : ParentKept) (contents : List (Option ContentKept)) (ups : List (List UpBundle)) (downs : List (List DownBundle)) (j : Journal)
    (stands : Stands before.config j (state_of before contents ups downs)) (room : length j < most_entries) where
  facts_are : facts_of before ≡ facts_now before.config (moments_of before.config j)
  facts_are = ap (λ (s : State). s.facts) stands.is

  sides_are : sides_of contents ≡ map (λ p. Some (side before.config (moments_of before.config j) p)) (numbers 0 (length before.config.types))
  sides_are = ap (λ (s : State). s.sides) stands.is

  ups_are : ups ≡ map (λ p. up_waiting p (moments_of before.config j)) (numbers 0 (length before.config.types))
  ups_are = ap (λ (s : State). s.ups) stands.is

  downs_are : downs ≡ map (λ p. down_waiting p (moments_of before.config j)) (numbers 0 (length before.config.types))
  downs_are = ap (λ (s : State). s.downs) stands.is

  len_is : length contents ≡ length before.config.types
  len_is = sym (length-map contents (option_map side_of)) ∙ ap length sides_are ∙ length-by_numbers (λ p. Some (side before.config (moments_of before.config j) p)) (length before.config.types)

  side_is : (p : ℕ) → p < length before.config.types → option_map side_of (get_or contents p None) ≡ Some (side before.config (moments_of before.config j) p)
  side_is p lt =
      let within : p < length contents = subst (λ n. p < n) (sym len_is) lt in
      sym (get_or-map (option_map side_of) contents p None None within)
      ∙ ap (λ ss. get_or ss p None) sides_are ∙ get_or-map-numbers (λ q. Some (side before.config (moments_of before.config j) q)) (length before.config.types) p None lt

  few : (p : ℕ) → Few (length j) (events_of p (moments_of before.config j))
  few p = few_counts before.config j p

  pub ready : IsReady (length before.config.types) before contents ups downs
  ready = record {
    contents_len = len_is;
    ups_len = ap length ups_are ∙ length-by_numbers (λ p. up_waiting p (moments_of before.config j)) (length before.config.types);
    downs_len = ap length downs_are ∙ length-by_numbers (λ p. down_waiting p (moments_of before.config j)) (length before.config.types);
    there = λ p lt. there_is (get_or contents p None) (side before.config (moments_of before.config j) p) (side_is p lt);
    counts = λ p k lt is.
        let same : side_of k ≡ side before.config (moments_of before.config j) p = same_side k (side before.config (moments_of before.config j) p) (get_or contents p None) is (side_is p lt) in
        let made : k.commits ≡ commits (did_by p (moments_of before.config j)) = ap (λ (s : Side). s.seen.commits) same in
        let took : k.taken ≡ takes (events_of p (moments_of before.config j)) = ap (λ (s : Side). s.seen.taken) same ∙ taken_is before.config j p lt in
        record { commits = omega (arith, made, made_count before.config j p, room); taken = omega (arith, took, (few p).take, room) };
    parent_counts = record {
      heard = λ p lt.
          let e : (facts_of before).processes.commits_heard p ≡ commits_heard p (said (moments_of before.config j)) = ap (λ (f : Facts). f.processes.commits_heard p) facts_are in
          omega (arith, e, heard_count before.config j p, room);
      sent = λ p lt.
          let e : (facts_of before).processes.bundles_sent p ≡ length (bundles_sent (events_of p (moments_of before.config j))) =
          ap (λ (f : Facts). f.processes.bundles_sent p) facts_are ∙ sent_is before.config j p lt in
          omega (arith, e, (few p).send, room);
    };
    played = λ p b bs lt waits.
        let up : up_waiting p (moments_of before.config j) ≡ b ∷ bs = sym (ap (waiting_at p) ups_are ∙ at_links (λ q. up_waiting q (moments_of before.config j)) (length before.config.types) p lt) ∙ waits in
        (subst (AllByRecursion (λ (u : UpBundle). ArePlayed u.parts)) up (up_played before.config j p stands.fits.steps)).0;
    taken = λ p b bs lt waits.
        let down : down_waiting p (moments_of before.config j) ≡ b ∷ bs = sym (ap (waiting_at p) downs_are ∙ at_links (λ q. down_waiting q (moments_of before.config j)) (length before.config.types) p lt) ∙ waits in
        (subst (AllByRecursion (λ (d : DownBundle). IsTaken d.parts)) down (down_taken before.config j p stands.fits.steps)).0;
  }
