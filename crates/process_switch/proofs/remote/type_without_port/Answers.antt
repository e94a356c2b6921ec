use Rattle.std.proofs.Common.{◌≡◌, ◌∙◌, ◌++◌, ap, sym, subst, None, append-nil}
use Rattle.std.specs.Prelude.{codes, IfOk}
use Rattle.process_switch.specs.Remote.{isolated_text}
use Rattle.process_switch.proofs.remote.type_without_port.Goals as goal

pub returns : goal.returns
unfolding isolated_text
returns c =
    let is : c.as_str.result.now ≡ isolated_text c.args.scheme.now c.args.host.now None =
    c.as_str.ensures.value ∙ c.in_ok-text.ensures.ok
    ∙ ap (λ h. codes "webIsolated=" ++ (c.args.scheme.now ++ (codes "://" ++ h))) (sym (append-nil c.args.host.now))
    in
    subst (λ z. IfOk c.of.result (λ t. t ≡ z)) is c.of.ensures
