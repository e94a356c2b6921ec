-- What the sending of bundles adds to what the parent said: that they were sent, and nothing else.
use Rattle.std.proofs.Common.{◌≡◌, ◌⊎◌, inl, inr, ℕ, zero, suc, ◌<◌, ◌≤◌, ◌==◌, Bool, true, false, ◌||◌, if◌then◌else◌, List, [], ◌∷◌, ◌++◌, refl, ap, sym, subst, ◌∙◌, arith, eq-eqb, eqb-true, ne_eqb}
use Rattle.std.specs.List.{AllByRecursion, list_any}
use Rattle.std.proofs.lemmas.List.{append-nil}
use Rattle.std.proofs.lemmas.Bool.{cases_eq}
use Rattle.wire_msgs.specs.declared.config.Config.{Config}
use Rattle.wire_msgs.specs.declared.part.DownPart.{DownPart}
use Rattle.protocol.specs.Questions.{Facts}
use Rattle.protocol.specs.Sayings.{Saying}
use Rattle.protocol.specs.Sayings.Saying.{Subscribed, Ended, Sent}
use Rattle.protocol.specs.Bundle.{is_no_bundle, after_sending}
use Rattle.traces.specs.Event.Event.{Ends}
use Rattle.model.specs.Moments.{is_end_of, ends}
use Rattle.model.proofs.Cases.{by_if}
use Rattle.model.proofs.Entry.{FitsOver, IsOfOthers, Posted, IsSending, IsNoJoin, JoinsLast}
use Rattle.model.proofs.Entry.Posted.{NonePosted, OnePosted}

-- what is said behind the bundles that the first n processes are sent
abbrev pub behind : (List Saying → Facts) → ℕ → (ℕ → List DownPart) → List Saying → List Saying
behind facts n sends ys = after_sending facts (λ y says. y ∷ says) n sends ys

-- the first is the second behind some sayings of bundles that were sent
pub record SentBehind (zs ys : List Saying) : Type 0 where
  pub sent : List Saying
  pub all_sent : AllByRecursion IsSending sent
  pub is : zs ≡ sent ++ ys

one_sent : (n : ℕ) (zs ys : List Saying) → SentBehind zs ys → SentBehind (Sent n ∷ zs) ys
one_sent n zs ys before = record { sent = Sent n ∷ before.sent; all_sent = (tt, before.all_sent); is = ap (λ says. Sent n ∷ says) before.is }

pub sending_adds : (facts : List Saying → Facts) (n : ℕ) (sends : ℕ → List DownPart) (ys : List Saying) → SentBehind (behind facts n sends ys) ys
sending_adds facts zero sends ys = record { sent = []; all_sent = tt; is = refl }
sending_adds facts (suc n) sends ys =
    by_if (λ zs. SentBehind zs ys) (is_no_bundle (sends n)) (behind facts n sends ys) (Sent n ∷ behind facts n sends ys)
    (λ none. sending_adds facts n sends ys) (λ some. one_sent n (behind facts n sends ys) ys (sending_adds facts n sends ys))

-- where nobody is sent anything
pub sending_none : (facts : List Saying → Facts) (n : ℕ) (sends : ℕ → List DownPart) (ys : List Saying) → ((q : ℕ) → sends q ≡ []) → behind facts n sends ys ≡ ys
sending_none facts zero sends ys none = refl
sending_none facts (suc n) sends ys none =
    ap (λ ds. if is_no_bundle ds then behind facts n sends ys else Sent n ∷ behind facts n sends ys) (none n) ∙ sending_none facts n sends ys none

-- where one process alone is sent something: if it isn't one of the first n, and if it is
sending_past : (facts : List Saying → Facts) (n p : ℕ) (sends : ℕ → List DownPart) (ys : List Saying) → ((q : ℕ) → (q == p) ≡ false → sends q ≡ []) → n ≤ p → behind facts n sends ys ≡ ys
sending_past facts zero p sends ys others le = refl
sending_past facts (suc n) p sends ys others le =
    ap (λ ds. if is_no_bundle ds then behind facts n sends ys else Sent n ∷ behind facts n sends ys) (others n (ne_eqb n p (λ e. omega arith))) ∙ sending_past facts n p sends ys others (omega arith)

pub sending_one : (facts : List Saying → Facts) (n p : ℕ) (sends : ℕ → List DownPart) (ys : List Saying) (d : DownPart) (ds : List DownPart) → sends p ≡ d ∷ ds
    → ((q : ℕ) → (q == p) ≡ false → sends q ≡ []) → p < n → behind facts n sends ys ≡ Sent p ∷ ys
sending_one facts zero p sends ys d ds some others lt = absurd (omega arith)
sending_one facts (suc n) p sends ys d ds some others lt = go (cases_eq n p) (sending_one facts n p sends ys d ds some others)
  where
    go : ((n ≡ p) ⊎ (n ≡ p → ⊥)) → (p < n → behind facts n sends ys ≡ Sent p ∷ ys) → (if is_no_bundle (sends n) then behind facts n sends ys else Sent n ∷ behind facts n sends ys) ≡ Sent p ∷ ys
    go (inl e) rest =
        ap (λ es. if is_no_bundle es then behind facts n sends ys else Sent n ∷ behind facts n sends ys) (ap sends e ∙ some)
        ∙ ap (λ says. Sent n ∷ says) (sending_past facts n p sends ys others (omega arith)) ∙ ap (λ k. Sent k ∷ ys) e
    go (inr ne) rest =
        ap (λ es. if is_no_bundle es then behind facts n sends ys else Sent n ∷ behind facts n sends ys) (others n (ne_eqb n p ne)) ∙ rest (omega arith)

-- ---- nobody is ended by it

ends_either : (p n : ℕ) (b : Bool) (ys : List Saying) → ends p (if b then ys else Sent n ∷ ys) ≡ ends p ys
ends_either p n true ys = refl
ends_either p n false ys = refl

pub sending_ends : (facts : List Saying → Facts) (n : ℕ) (sends : ℕ → List DownPart) (ys : List Saying) (p : ℕ) → ends p (behind facts n sends ys) ≡ ends p ys
sending_ends facts zero sends ys p = refl
sending_ends facts (suc n) sends ys p = ends_either p n (is_no_bundle (sends n)) (behind facts n sends ys) ∙ sending_ends facts n sends ys p

-- ---- it fits, and posts nothing

-- what was said fits, is of others, and posts these parts; a subscription is said last
pub record Joinable (c : Config) (p : ℕ) (old ys : List Saying) (ds : List DownPart) : Type 0 where
  pub fits : FitsOver c old ys
  pub joins : JoinsLast ys
  pub posted : Posted c p old ys ds

-- the same where nobody is subscribed
pub record Tellable (c : Config) (p : ℕ) (old ys : List Saying) (ds : List DownPart) : Type 0 where
  pub fits : FitsOver c old ys
  pub plain : AllByRecursion IsNoJoin ys
  pub posted : Posted c p old ys ds

pub joins_last : (ys : List Saying) → AllByRecursion IsNoJoin ys → JoinsLast ys
joins_last [] plain = tt
joins_last (Sent q ∷ ys) plain = joins_last ys plain.1
joins_last (Subscribed q g ∷ ys) plain = absurd plain.0
joins_last (_ ∷ ys) plain = plain.1

pub joinable : (c : Config) (p : ℕ) (old ys : List Saying) (ds : List DownPart) → Tellable c p old ys ds → Joinable c p old ys ds
joinable c p old ys ds t = record { fits = t.fits; joins = joins_last ys t.plain; posted = t.posted }

pub tell_more : (c : Config) (p : ℕ) (old ys : List Saying) (ds : List DownPart) → Joinable c p old ys ds → (n : ℕ) → Joinable c p old (Sent n ∷ ys) ds
tell_more c p old ys ds t n = record {
  fits = (tt, t.fits);
  joins = t.joins;
  posted = subst (Posted c p old (Sent n ∷ ys)) (append-nil ds) (OnePosted (Sent n) ys ds [] t.posted tt refl);
}

pub sending_tells : (c : Config) (p : ℕ) (old : List Saying) (ds : List DownPart) (facts : List Saying → Facts) (n : ℕ) (sends : ℕ → List DownPart) (ys : List Saying)
    → Joinable c p old ys ds → Joinable c p old (behind facts n sends ys) ds
sending_tells c p old ds facts zero sends ys t = t
sending_tells c p old ds facts (suc n) sends ys t =
    by_if (λ zs. Joinable c p old zs ds) (is_no_bundle (sends n)) (behind facts n sends ys) (Sent n ∷ behind facts n sends ys)
    (λ none. sending_tells c p old ds facts n sends ys t) (λ some. tell_more c p old (behind facts n sends ys) ds (sending_tells c p old ds facts n sends ys t) n)

-- what is of others ends no process itself
pub eqb_swapped : (m n : ℕ) → (m == n) ≡ false → (n == m) ≡ false
eqb_swapped m n e = go (n == m) refl
  where
    go : (b : Bool) → (n == m) ≡ b → b ≡ false
    go false is = refl
    go true is = let other : (m == n) ≡ true = eq-eqb m n (sym (eqb-true n m is)) in absurd cc

end_of_others : (p : ℕ) (y : Saying) → IsOfOthers p y → is_end_of p y ≡ false
end_of_others p (Ended q cause) other = eqb_swapped q p other
end_of_others p (_) other = refl

none_ends : (c : Config) (p : ℕ) (old ys : List Saying) (ds : List DownPart) → Posted c p old ys ds → list_any (is_end_of p) ys ≡ false
none_ends c p old _ _ NonePosted = refl
none_ends c p old _ _ (OnePosted y ys before ds posted other post) =
    ap (λ (b : Bool). b || list_any (is_end_of p) ys) (end_of_others p y other) ∙ none_ends c p old ys before posted

pub told_ends : (c : Config) (p : ℕ) (old ys : List Saying) (ds : List DownPart) → Posted c p old ys ds → ends p ys ≡ []
told_ends c p old ys ds posted = ap (λ (b : Bool). if b then Ends ∷ [] else []) (none_ends c p old ys ds posted)
