-- Where the bundles of a ruling go.
use Rattle.std.proofs.Common.{◌≡◌, ℕ, zero, suc, List, [], ◌∷◌, ◌++◌, length, map, set, get_or, Option, None, Some, refl, sym, ap, ◌∙◌}
use Rattle.fission_ids.specs.declared.process.ProcId.{ProcId}
use Rattle.wire_msgs.specs.declared.bundle.DownBundle.{DownBundle}
use Rattle.protocol.specs.Questions.{Facts}
use Rattle.protocol.specs.Bundle.{Ruling, bundle_for}
use Rattle.protocol.specs.Start.{numbers}
use Rattle.parent_core.specs.Ruled.{addressed, bundles_of}
use Rattle.world.specs.Sides.{delivered, links_with}
use Rattle.world.proofs.Lists.{with_one, at_front, set_front, append_one, longer}

-- what waits behind a ruling
abbrev pub behind : Ruling Facts → (ℕ → List DownBundle) → ℕ → List DownBundle
behind r f q = with_one (bundle_for r.kept q (r.sends q)) (f q)

-- one after the other
over : (sent more : List (ProcId × DownBundle)) (downs : List (List DownBundle)) → delivered (sent ++ more) downs ≡ delivered more (delivered sent downs)
over [] more downs = refl
over (to ∷ sent) more downs = over sent more (links_with to.0.0 to.1 downs)

one : (o : Option DownBundle) (front : List (List DownBundle)) (bs : List DownBundle) (rest : List (List DownBundle)) (k : ℕ) → k ≡ length front
    → delivered (addressed k o) (front ++ bs ∷ rest) ≡ front ++ with_one o bs ∷ rest
one None front bs rest k e = refl
one (Some b) front bs rest k e =
    ap (λ i. set (front ++ bs ∷ rest) i (get_or (front ++ bs ∷ rest) i [] ++ b ∷ [])) e
    ∙ ap (λ x. set (front ++ bs ∷ rest) (length front) (x ++ b ∷ [])) (at_front front bs rest [])
    ∙ set_front front bs (bs ++ b ∷ []) rest

along : (r : Ruling Facts) (f : ℕ → List DownBundle) (m k : ℕ) (front : List (List DownBundle)) → k ≡ length front
    → delivered (bundles_of r (numbers k m)) (front ++ map f (numbers k m)) ≡ front ++ map (behind r f) (numbers k m)
along r f zero k front e = refl
along r f (suc m) k front e =
    let rest : List (List DownBundle) = map f (numbers (suc k) m) in
    let here : List DownBundle = behind r f k in
    over (addressed k (bundle_for r.kept k (r.sends k))) (bundles_of r (numbers (suc k) m)) (front ++ f k ∷ rest)
    ∙ ap (delivered (bundles_of r (numbers (suc k) m))) (one (bundle_for r.kept k (r.sends k)) front (f k) rest k e ∙ append_one front here rest)
    ∙ along r f m (suc k) (front ++ here ∷ []) (ap suc e ∙ longer front here)
    ∙ sym (append_one front here (map (behind r f) (numbers (suc k) m)))

-- each process has its bundle behind what waited
pub all_delivered : (r : Ruling Facts) (f : ℕ → List DownBundle) (n : ℕ) → delivered (bundles_of r (numbers 0 n)) (map f (numbers 0 n)) ≡ map (behind r f) (numbers 0 n)
all_delivered r f n = along r f n 0 [] refl
