use Rattle.std.proofs.Common.{◌≡◌, ◌∙◌, sym, ap, List, Option, Some, None}
use Rattle.std.specs.FinMap.{get}
use Rattle.std.specs.Option.{option_map}
use Rattle.fission_ids.specs.declared.context.ContextId.{ContextId}
use Rattle.context_tree.specs.Tree.{subtree_if_held}
use Rattle.content_core.specs.Content.{hold_of}
use Rattle.content_core.proofs.Going.{out_below, none_below}
use Rattle.content_core.proofs.contexts.Contexts.leave.Goals as goal

pub returns-in-Some : goal.returns-in-Some
returns-in-Some c =
    let ids : Some c.in-Some.gone.items ≡ subtree_if_held c.args.x c.args.self.now.tree =
    sym (ap (option_map (λ v. v.items)) c.in-Some.is) ∙ c.in_ok-gone.ensures.ok.0 in
    record {
      tree = c.in_ok-gone.ensures.ok.1;
      store = λ y.
          c.forget_fields.ensures y
          ∙ out_below c.args.x c.args.self.now.tree c.as_slice.result.now c.requires (ap Some c.as_slice.ensures.value ∙ ids) y (get c.args.self.now.store y);
      holds = λ y.
          c.forget_holds.ensures y
          ∙ out_below c.args.x c.args.self.now.tree c.as_slice-in-Some.result.now c.requires (ap Some c.as_slice-in-Some.ensures.value ∙ ids) y (hold_of y c.args.self.now.holds.entries);
    }

pub returns-in-None : goal.returns-in-None
returns-in-None c =
    let none : ◌≡◌ {A = Option (List ContextId)} None (subtree_if_held c.args.x c.args.self.now.tree) =
    sym (ap (option_map (λ v. v.items)) c.in-None.is) ∙ c.in_ok-gone.ensures.ok.0 in
    record {
      tree = c.in_ok-gone.ensures.ok.1;
      store = λ y. none_below c.args.x c.args.self.now.tree c.requires none y (get c.args.self.now.store y);
      holds = λ y. none_below c.args.x c.args.self.now.tree c.requires none y (hold_of y c.args.self.now.holds.entries);
    }
