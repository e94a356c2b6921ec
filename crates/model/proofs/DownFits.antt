-- A bundle of the parent that the process can take: what comes in it is of others, each below one that isn't brought
-- later, and all of it stands before what goes.
use Rattle.std.proofs.Common.{◌≡◌, ℕ, ◌+◌, ◌≤◌, ◌==◌, false, List, [], ◌∷◌}
use Rattle.std.specs.List.{AllByRecursion}
use Rattle.fission_ids.specs.Ids.{same_context}
use Rattle.wire_msgs.specs.declared.config.Config.{Config}
use Rattle.wire_msgs.specs.declared.part.DownPart.{DownPart}
use Rattle.wire_msgs.specs.declared.part.DownPart.TheVariants as downs
use Rattle.wire_msgs.specs.declared.part.Known.{Known}
use Rattle.protocol.specs.Questions.{option_any}
use Rattle.model.specs.Lines.{Making}
use Rattle.model.specs.View.{singles}
use Rattle.model.proofs.Arranging.{come_all, ComeFirst}
use Rattle.model.proofs.Holding.{KnownFits}

-- what is told of is of another process, or of the parent
pub record ComingFits (c : Config) (p : ℕ) (mk : List Making) (k : Known) : Type 0 where
  pub known : KnownFits c.tabs mk k
  pub others : (k.context.creator == p + 1) ≡ false

-- a later one is another, and isn't the context above
pub record IsApart (k later : Known) : Type 0 where
  pub other : same_context later.context k.context ≡ false
  pub not_above : option_any (same_context later.context) k.parent ≡ false

abbrev pub ComeApart : List Known → Type 0
ComeApart [] = Unit {0}
ComeApart (k ∷ ks) = AllByRecursion (IsApart k) ks × ComeApart ks

-- a part of a kind that is sent so far; what the process made itself goes only once it was made
abbrev pub PartFits : ℕ → ℕ → DownPart → Type 0
PartFits p made (downs.Create k) = Unit {0}
PartFits p made (downs.Commit x t) = Unit {0}
PartFits p made (downs.Discard w) = w.creator ≡ p + 1 → w.serial ≤ made
PartFits p made (downs.Register g ks) = Unit {0}
PartFits p made downs.Kill = Unit {0}
PartFits p made part = ⊥

pub record DownFits (c : Config) (p : ℕ) (mk : List Making) (made : ℕ) (parts : List DownPart) : Type 0 where
  pub first : ComeFirst (singles parts)
  pub come : AllByRecursion (ComingFits c p mk) (come_all (singles parts))
  pub apart : ComeApart (come_all (singles parts))
  pub kinds : AllByRecursion (PartFits p made) parts
