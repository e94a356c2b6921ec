use Rattle.std.proofs.Common.{not}
use Rattle.actors.specs.Side.{is_held_as, is_on}
use Rattle.actors.proofs.Holds.{received_once, left_once}
use Rattle.actors.proofs.laws.queries_are_held_once.Goals as goal

pub returns : goal.returns
returns c = record {
  receive = received_once;
  answer = λ q s. left_once (λ h. not (is_held_as q h)) s.held;
  teardown = λ w s. left_once (λ h. not (is_on w h)) s.held;
}
