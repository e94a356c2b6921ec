use Rattle.std.proofs.Common.{◌≡◌, ◌∙◌, sym, subst, refl, length, ◌&&◌, ◌==◌}
use Rattle.std.specs.Prelude.{false, zip}
use Rattle.std.specs.List.{position_or_len}
use Rattle.context_tree.specs.Tree.{is_missing, place_in, line_above, is_less}
use Rattle.context_tree.proofs.Spans.{top_place_is}
use Rattle.context_tree.proofs.tree.Tree.place_for.Goals as goal

pub returns-in-None : goal.returns-in-None
returns-in-None c =
    let top = c.top_place.ensures
    ∙ (λ j. position_or_len (λ e. e.1 == 0 && is_less c.args.id e.0) (zip (c.contexts.ensures j) (c.depths.ensures j)))
    ∙ top_place_is c.args.id c.args.self.now in
    subst (λ o. (is_missing o c.args.self.now ≡ false) × (c.top_place.result ≡ place_in o c.args.id c.args.self.now)
    × (0 ≡ length (line_above o c.args.self.now))) (sym c.in-None.is) (refl, top, refl)
