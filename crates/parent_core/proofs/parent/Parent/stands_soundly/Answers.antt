use Rattle.std.proofs.Common.{subst}
use Rattle.parent_core.specs.Parent.{Kept, facts_of}
use Rattle.parent_core.specs.Sound.{IsSound}
use Rattle.parent_core.specs.contracts.parent.Parent as parent
use Rattle.parent_core.proofs.Sound.{is_sound}
use Rattle.parent_core.proofs.parent.Parent.stands_soundly.Goals as goal

pub returns : goal.returns
returns c = subst (λ (k : Kept). IsSound (facts_of k)) c.self.view_is (is_sound (parent.the_view c.self.inside) c.self.invariant)
