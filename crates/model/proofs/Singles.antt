-- Taking a Register is taking its Creates.
use Rattle.std.proofs.Common.{◌≡◌, ℕ, List, [], ◌∷◌, ◌++◌, map, refl, ◌∙◌}
use Rattle.wire_msgs.specs.declared.part.Known.{Known}
use Rattle.wire_msgs.specs.declared.part.DownPart.{DownPart}
use Rattle.wire_msgs.specs.declared.part.DownPart.TheVariants as downs
use Rattle.protocol.specs.Fold.{behind_all, after_part, after_parts}
use Rattle.protocol.specs.Seen.{Seen}
use Rattle.protocol.specs.Seen.Doing.{Came}
use Rattle.protocol.specs.SeenAfter.{seen_after}
use Rattle.protocol.specs.Take.{take_rules}
use Rattle.protocol.specs.Take as take
use Rattle.model.specs.View.{singles}

abbrev behind : ℕ → ℕ → Seen → List DownPart → Seen
behind p e s parts = after_parts (take_rules p e) (λ s. s) (seen_after p) s parts

creates : (p e : ℕ) (ks : List Known) (parts : List DownPart) (s : Seen) → behind p e s (map (λ (k : Known). downs.Create k) ks ++ parts) ≡ behind p e (behind_all (seen_after p) (map Came ks) s) parts
unfolding after_parts behind_all take.says
creates p e [] parts s = refl
creates p e (k ∷ ks) parts s = creates p e ks parts (seen_after p (Came k) s)

pub taken_single : (p e : ℕ) (parts : List DownPart) (s : Seen) → behind p e s (singles parts) ≡ behind p e s parts
unfolding after_parts take.says
taken_single p e [] s = refl
taken_single p e (downs.Register g ks ∷ parts) s = creates p e ks (singles parts) s ∙ taken_single p e parts (behind_all (seen_after p) (map Came ks) s)
taken_single p e (downs.Create k ∷ parts) s = taken_single p e parts (after_part (take_rules p e) (λ s. s) (seen_after p) (downs.Create k) s)
taken_single p e (downs.Commit x t ∷ parts) s = taken_single p e parts (after_part (take_rules p e) (λ s. s) (seen_after p) (downs.Commit x t) s)
taken_single p e (downs.Discard x ∷ parts) s = taken_single p e parts (after_part (take_rules p e) (λ s. s) (seen_after p) (downs.Discard x) s)
taken_single p e (d ∷ parts) s = taken_single p e parts (after_part (take_rules p e) (λ s. s) (seen_after p) d s)
