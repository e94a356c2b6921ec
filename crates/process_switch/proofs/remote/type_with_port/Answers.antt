use Rattle.std.proofs.Common.{◌≡◌, ◌∙◌, subst, Some}
use Rattle.std.specs.Prelude.{IfOk}
use Rattle.process_switch.specs.Remote.{isolated_text}
use Rattle.process_switch.proofs.remote.type_with_port.Goals as goal

pub returns : goal.returns
unfolding isolated_text
returns c =
    let is : c.as_str.result.now ≡ isolated_text c.args.scheme.now c.args.host.now (Some c.args.port) = c.as_str.ensures.value ∙ c.in_ok-text.ensures.ok in
    subst (λ z. IfOk c.of.result (λ t. t ≡ z)) is c.of.ensures
