-- What settling does, one process after the other: entries come, and what waits weighs as much less at least.
use Rattle.std.proofs.Common.{◌≡◌, ℕ, zero, suc, ◌+◌, ◌-◌, ◌<◌, ◌≤◌, Bool, true, false, not, ◌&&◌, if◌then◌else◌, List, [], ◌∷◌, ◌++◌, length, map, refl, ap, sym, subst, ◌∙◌, arith, append_assoc, length-append}
use Rattle.std.specs.List.{AllByRecursion}
use Rattle.field_rules.specs.Bounds.{Bounds}
use Rattle.wire_msgs.specs.declared.bundle.DownBundle.{DownBundle}
use Rattle.journal.specs.Step.{StepFits}
use Rattle.journal.specs.declared.entry.Step.{Step}
use Rattle.journal.specs.declared.entry.Step.TheVariants.{Take, Hear}
use Rattle.protocol.specs.Start.{numbers}
use Rattle.traces.specs.Event.{Bundle}
use Rattle.traces.specs.Links.{writes_waiting, bundles_waiting}
use Rattle.model.specs.Journal.{Journal}
use Rattle.model.specs.Laws.{RunFits}
use Rattle.model.specs.Links.{bundles_in, is_nothing}
use Rattle.model.specs.Moments.{Written, events_of, seen_now}
use Rattle.model.specs.Moments.Written.{Own, Raw, Said}
use Rattle.model.specs.Next.{Run, run_after, moment_after}
use Rattle.model.specs.Settling.{weight, moments_in, heard_by, taken_by, all_served, round, IsServed, Extends}
use Rattle.model.proofs.WeightsLinks.{IsUp, waiting_own}
use Rattle.model.proofs.Falls.{run_lights, hear_lowers, hear_raw_lowers, take_lowers}

-- r' came of r: entries were added, what waits weighs as much less at least, and without a further entry
-- nothing has changed
pub record Goes (r r' : Run) : Type 0 where
  pub config : r'.config ≡ r.config
  pub fits : RunFits r'
  pub falls : length r'.journal + weight r' ≤ length r.journal + weight r
  pub still : length r'.journal ≡ length r.journal → r' ≡ r
  pub extends : Extends r.journal r'.journal

pub goes_nowhere : (r : Run) → RunFits r → Goes r r
goes_nowhere r fits = record { config = refl; fits = fits; falls = omega arith; still = λ same. refl; extends = record { added = []; is = refl } }

-- entries only come
pub extends_grows : (old new : Journal) → Extends old new → length old ≤ length new
extends_grows old new e = omega (arith, ap length e.is, length-append e.added old)

pub grows : (r r' : Run) → Goes r r' → length r.journal ≤ length r'.journal
grows r r' goes = extends_grows r.journal r'.journal goes.extends

extends_on : (j j' j'' : Journal) → Extends j j' → Extends j' j'' → Extends j j''
extends_on j j' j'' first later = record {
  added = later.added ++ first.added;
  is = later.is ∙ ap (λ l. later.added ++ l) first.is ∙ sym (append_assoc later.added first.added j);
}

pub goes_on : (r r' r'' : Run) → Goes r r' → Goes r' r'' → Goes r r''
goes_on r r' r'' first later = record {
  config = later.config ∙ first.config;
  fits = later.fits;
  falls = omega (arith, first.falls, later.falls);
  still = λ same.
      let none : length r'.journal ≡ length r.journal = omega (arith, grows r r' first, grows r' r'' later) in
      let none' : length r''.journal ≡ length r'.journal = omega arith in
      later.still none' ∙ first.still none;
  extends = extends_on r.journal r'.journal r''.journal first.extends later.extends;
}

-- what is below the number of processes still is
pub still_below : (p : ℕ) (r r' : Run) → Goes r r' → p < length r.config.types → p < length r'.config.types
still_below p r r' goes below = subst (λ c. p < length c.types) (sym goes.config) below

-- a limit on entries and weight together is kept
pub room_kept : (r r' : Run) (limit : ℕ) → Goes r r' → length r.journal + weight r < limit → length r'.journal + weight r' < limit
room_kept r r' limit goes room = omega (arith, goes.falls)

pub numbers_below : (k m n : ℕ) → k + m ≤ n → AllByRecursion (λ p. p < n) (numbers k m)
numbers_below k zero n within = tt
numbers_below k (suc m) n within = (omega arith, numbers_below (suc k) m n (omega arith))

-- the bundles, as they wait
abbrev contents : List (Bundle DownBundle) → List DownBundle
contents w = map (λ (b : Bundle DownBundle). b.content) w

module _ (bounds : Bounds) where
  -- a step that takes from the weight
  pub goes_step : (r : Run) (s : Step) → RunFits r → StepFits (length r.config.types) s → weight (run_after bounds r s) + 1 ≤ weight r → Goes r (run_after bounds r s)
  goes_step r s fits fit lower = record {
    config = refl;
    fits = record { config = fits.config; steps = (fit, fits.steps) };
    falls = omega arith;
    still = λ same. absurd (omega (arith, same));
    extends = record { added = record { step = s; answer = (moment_after bounds r.config r.journal s).answer } ∷ []; is = refl };
  }

  -- ---- one process

  hear_of : (r : Run) (p : ℕ) (w : List Written) → RunFits r → p < length r.config.types → writes_waiting (events_of p (moments_in r)) ≡ w → AllByRecursion IsUp w
      → Goes r (if is_nothing (bundles_in w) then r else run_after bounds r (Hear (record { 0 = p })))
  hear_of r p [] fits below first own = goes_nowhere r fits
  hear_of r p (Own b ∷ ws) fits below first own = goes_step r (Hear (record { 0 = p })) fits below (hear_lowers bounds r p b ws fits below first)
  hear_of r p (Raw b ∷ ws) fits below first own = goes_step r (Hear (record { 0 = p })) fits below (hear_raw_lowers bounds r p b ws fits below first)
  hear_of r p (Said says ∷ ws) fits below first own = absurd own.0

  pub goes_heard : (p : ℕ) (r : Run) → RunFits r → p < length r.config.types → Goes r (heard_by bounds p r)
  goes_heard p r fits below = hear_of r p (writes_waiting (events_of p (moments_in r))) fits below refl (waiting_own (events_of p (moments_in r)) (run_lights r p))

  take_of : (r : Run) (p : ℕ) (w : List (Bundle DownBundle)) → RunFits r → p < length r.config.types → (seen_now r.config p (moments_in r)).running ≡ true → bundles_waiting (events_of p (moments_in r)) ≡ w
      → Goes r (if not (is_nothing (contents w)) then run_after bounds r (Take (record { 0 = p })) else r)
  take_of r p [] fits below runs first = goes_nowhere r fits
  take_of r p (b ∷ bs) fits below runs first = goes_step r (Take (record { 0 = p })) fits below (take_lowers bounds r p b bs fits below runs first)

  pub goes_taken : (p : ℕ) (r : Run) → RunFits r → p < length r.config.types → Goes r (taken_by bounds p r)
  goes_taken p r fits below = by (seen_now r.config p (moments_in r)).running refl
    where
      by : (v : Bool) → (seen_now r.config p (moments_in r)).running ≡ v → Goes r (if v && not (is_nothing (contents (bundles_waiting (events_of p (moments_in r))))) then run_after bounds r (Take (record { 0 = p })) else r)
      by true runs = take_of r p (bundles_waiting (events_of p (moments_in r))) fits below runs refl
      by false stopped = goes_nowhere r fits

  pub goes_served : (p : ℕ) (r : Run) → RunFits r → p < length r.config.types → Goes r (taken_by bounds p (heard_by bounds p r))
  goes_served p r fits below =
      let heard : Goes r (heard_by bounds p r) = goes_heard p r fits below in
      goes_on r (heard_by bounds p r) (taken_by bounds p (heard_by bounds p r)) heard (goes_taken p (heard_by bounds p r) heard.fits (still_below p r (heard_by bounds p r) heard below))

  -- a turn more
  pub goes_turn : (p : ℕ) (start r next : Run) → Goes start r → p < length start.config.types → next ≡ taken_by bounds p (heard_by bounds p r) → Goes start next
  goes_turn p start r next goes below is =
      let turn : Goes r (taken_by bounds p (heard_by bounds p r)) = goes_served p r goes.fits (still_below p start r goes below) in
      subst (Goes start) (sym is) (goes_on start r (taken_by bounds p (heard_by bounds p r)) goes turn)

  -- ---- one after the other

  pub goes_all : (ps : List ℕ) (n : ℕ) (r : Run) → RunFits r → length r.config.types ≡ n → AllByRecursion (λ p. p < n) ps → Goes r (all_served bounds ps r)
  unfolding all_served
  goes_all [] n r fits count below = goes_nowhere r fits
  goes_all (p ∷ ps) n r fits count below =
      let one : Goes r (taken_by bounds p (heard_by bounds p r)) = goes_served p r fits (omega (arith, below.0)) in
      let same : length (taken_by bounds p (heard_by bounds p r)).config.types ≡ n = ap (λ c. length c.types) one.config ∙ count in
      goes_on r (taken_by bounds p (heard_by bounds p r)) (all_served bounds ps (taken_by bounds p (heard_by bounds p r))) one (goes_all ps n (taken_by bounds p (heard_by bounds p r)) one.fits same below.1)

  pub goes_round : (r : Run) → RunFits r → Goes r (round bounds r)
  goes_round r fits = goes_all (numbers 0 (length r.config.types)) (length r.config.types) r fits refl (numbers_below 0 (length r.config.types) (length r.config.types) (omega arith))

  -- ---- the loop over processes, one at a time

  pub served_none : (k : ℕ) (r : Run) → all_served bounds (numbers k 0) r ≡ r
  unfolding all_served
  served_none k r = refl

  pub served_first : (k m : ℕ) (r : Run) → all_served bounds (numbers k (suc m)) r ≡ all_served bounds (numbers (suc k) m) (taken_by bounds k (heard_by bounds k r))
  unfolding all_served
  served_first k m r = refl

  -- the turn of process p, of n
  pub served_next : (p n : ℕ) (r next all : Run) → p < n → all_served bounds (numbers p (n - p)) r ≡ all → next ≡ taken_by bounds p (heard_by bounds p r) → all_served bounds (numbers (p + 1) (n - (p + 1))) next ≡ all
  served_next p n r next all below so_far is =
      let after : suc p ≡ p + 1 = omega arith in
      let left : n - p ≡ suc (n - (p + 1)) = omega arith in
      let here : all_served bounds (numbers p (n - p)) r ≡ all_served bounds (numbers (p + 1) (n - (p + 1))) (taken_by bounds p (heard_by bounds p r)) =
      ap (λ m. all_served bounds (numbers p m) r) left ∙ served_first p (n - (p + 1)) r ∙ ap (λ k. all_served bounds (numbers k (n - (p + 1))) (taken_by bounds p (heard_by bounds p r))) after in
      ap (all_served bounds (numbers (p + 1) (n - (p + 1)))) is ∙ sym here ∙ so_far

  -- behind the last process
  pub served_all : (p n : ℕ) (r all : Run) → n ≤ p → all_served bounds (numbers p (n - p)) r ≡ all → r ≡ all
  served_all p n r all past so_far =
      let none : 0 ≡ n - p = omega arith in
      sym (served_none p r) ∙ ap (λ m. all_served bounds (numbers p m) r) none ∙ so_far

  -- ---- what is served

  adds_entry : (r : Run) (s : Step) → run_after bounds r s ≡ r → ⊥
  adds_entry r s same = let len : length (run_after bounds r s).journal ≡ length r.journal = ap (λ x. length x.journal) same in omega (arith, len)

  none_up : (r : Run) (p : ℕ) (w : List Written) → AllByRecursion IsUp w → (if is_nothing (bundles_in w) then r else run_after bounds r (Hear (record { 0 = p }))) ≡ r → bundles_in w ≡ []
  none_up r p [] own same = refl
  none_up r p (Own b ∷ ws) own same = absurd (adds_entry r (Hear (record { 0 = p })) same)
  none_up r p (Raw b ∷ ws) own same = absurd (adds_entry r (Hear (record { 0 = p })) same)
  none_up r p (Said says ∷ ws) own same = absurd own.0

  none_down : (r : Run) (p : ℕ) (w : List (Bundle DownBundle)) (v : Bool) → v ≡ true → (if v && not (is_nothing (contents w)) then run_after bounds r (Take (record { 0 = p })) else r) ≡ r → contents w ≡ []
  none_down r p [] v runs same = refl
  none_down r p (b ∷ bs) true runs same = absurd (adds_entry r (Take (record { 0 = p })) same)
  none_down r p (b ∷ bs) false runs same = absurd cc

  -- where serving a process does nothing, nothing waits for it
  pub served_still : (p : ℕ) (r : Run) → RunFits r → heard_by bounds p r ≡ r → taken_by bounds p r ≡ r → IsServed p r
  served_still p r fits heard taken = record {
    up = none_up r p (writes_waiting (events_of p (moments_in r))) (waiting_own (events_of p (moments_in r)) (run_lights r p)) heard;
    down = λ running. none_down r p (bundles_waiting (events_of p (moments_in r))) (seen_now r.config p (moments_in r)).running running taken;
  }
