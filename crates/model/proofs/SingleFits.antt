-- The parts of a bundle that a process can take, with each context that comes in a part of its own.
use Rattle.std.proofs.Common.{◌≡◌, ℕ, ◌+◌, ◌≤◌, List, [], ◌∷◌, ◌++◌, map}
use Rattle.std.specs.List.{AllByRecursion}
use Rattle.wire_msgs.specs.declared.part.DownPart.{DownPart}
use Rattle.wire_msgs.specs.declared.part.DownPart.TheVariants as downs
use Rattle.wire_msgs.specs.declared.part.Known.{Known}
use Rattle.model.specs.View.{singles}
use Rattle.model.proofs.DownFits.{PartFits}

-- as the parts of a bundle, but none brings a group at once
abbrev pub SingleFits : ℕ → ℕ → DownPart → Type 0
SingleFits p made (downs.Create k) = Unit {0}
SingleFits p made (downs.Commit x t) = Unit {0}
SingleFits p made (downs.Discard w) = w.creator ≡ p + 1 → w.serial ≤ made
SingleFits p made downs.Kill = Unit {0}
SingleFits p made part = ⊥

creates_fit : (p made : ℕ) (ks : List Known) (parts : List DownPart) → AllByRecursion (SingleFits p made) parts → AllByRecursion (SingleFits p made) (map (λ (k : Known). downs.Create k) ks ++ parts)
creates_fit p made [] parts fits = fits
creates_fit p made (k ∷ ks) parts fits = (tt, creates_fit p made ks parts fits)

pub singles_fit : (p made : ℕ) (parts : List DownPart) → AllByRecursion (PartFits p made) parts → AllByRecursion (SingleFits p made) (singles parts)
singles_fit p made [] fits = tt
singles_fit p made (downs.Register g ks ∷ parts) fits = creates_fit p made ks (singles parts) (singles_fit p made parts fits.1)
singles_fit p made (downs.Create k ∷ parts) fits = (tt, singles_fit p made parts fits.1)
singles_fit p made (downs.Commit x t ∷ parts) fits = (tt, singles_fit p made parts fits.1)
singles_fit p made (downs.Discard w ∷ parts) fits = (fits.0, singles_fit p made parts fits.1)
singles_fit p made (downs.Kill ∷ parts) fits = (tt, singles_fit p made parts fits.1)
singles_fit p made (_ ∷ parts) fits = absurd fits.0
