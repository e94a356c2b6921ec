use Rattle.std.proofs.Common.{◌∙◌, sym, ap, eq-eqb, true≢false}
use Rattle.std.proofs.lemmas.Bool.{eqb-true}
use Rattle.std.specs.Prelude.{is_none}
use Rattle.content_core.specs.Content.{seen_of}
use Rattle.content_core.specs.Held.{kept_of}
use Rattle.content_core.proofs.Acting.{allowed-none, refused-denied, none_is}
use Rattle.content_core.proofs.held.Held.set_refusal.Goals as goal

pub returns-then-eq : goal.returns-then-eq
returns-then-eq c =
    allowed-none c.args.self.now.process.0 (seen_of (kept_of c.args.self.now)) c.args.x c.args.t.now c.denied_fields-denied.result c.is_none-top.result c.owns.result
    (none_is c.above.result c.is_none-top.result c.is_none-top.ensures ∙ ap is_none c.above.ensures) c.owns.ensures c.denied_fields-denied.ensures (sym c.has.ensures ∙ c.if-not-has.false) (eqb-true _ _ (sym c.eq.ensures ∙ c.if-eq.true))

pub returns : goal.returns
returns c =
    refused-denied c.args.self.now.process.0 (seen_of (kept_of c.args.self.now)) c.args.x c.args.t.now c.denied_fields-denied.result c.is_none-top.result c.owns.result
    (none_is c.above.result c.is_none-top.result c.is_none-top.ensures ∙ ap is_none c.above.ensures) c.owns.ensures c.denied_fields-denied.ensures (sym c.has.ensures ∙ c.if-not-has.false) (λ none. true≢false (sym (eq-eqb _ _ none) ∙ sym c.eq.ensures ∙ c.if-eq.false))
