-- Looking back reads what was said and done as the rules do.
use Rattle.std.proofs.Common.{◌≡◌, ℕ, List, ◌∷◌, ◌++◌}
use Rattle.wire_msgs.specs.declared.config.Config.{Config}
use Rattle.protocol.specs.Questions.{Facts}
use Rattle.protocol.specs.Sayings.{Saying}
use Rattle.protocol.specs.Seen.{Seen, Doing}
use Rattle.protocol.specs.FactsAfter.{facts_after}
use Rattle.protocol.specs.SeenAfter.{seen_after}
use Rattle.model.specs.Parent.{asked}
use Rattle.model.specs.Process.{own_asked}
use Rattle.model.specs.Moments.{Moment, said, did_by}
use Rattle.model.proofs.AskedMore.{asked_more, own_asked_more}

-- the parent's answers behind what it says now
abbrev pub facts_with : Config → List Moment → List Saying → Facts
facts_with c ms says = asked c.tabs (says ++ said ms)

-- a process's answers behind what it does now
abbrev pub seen_with : Config → ℕ → List Moment → List Doing → Seen
seen_with c p ms did = own_asked c.tabs p (did ++ did_by p ms)

pub reads_said : (c : Config) (ms : List Moment) (y : Saying) (says : List Saying) → facts_with c ms (y ∷ says) ≡ facts_after y (facts_with c ms says)
reads_said c ms y says = asked_more c.tabs y (says ++ said ms)

pub reads_did : (c : Config) (p : ℕ) (ms : List Moment) (d : Doing) (did : List Doing) → seen_with c p ms (d ∷ did) ≡ seen_after p d (seen_with c p ms did)
reads_did c p ms d did = own_asked_more c.tabs p d (did ++ did_by p ms)
