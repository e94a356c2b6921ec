-- What the parent serves of a context, by its life in the parent, while the process wasn't ended: what it is told of is
-- served as it lives, and all else is still to come.
use Rattle.std.proofs.Common.{◌≡◌, inl, inr, ℕ, true, false, List, [], ◌∷◌, drop, zero, suc, refl, ap, sym, subst, ◌∙◌}
use Rattle.std.specs.List.{AllByRecursion}
use Rattle.fission_ids.specs.declared.context.ContextId.{ContextId}
use Rattle.field_table.specs.declared.field.Field.{Field}
use Rattle.wire_msgs.specs.declared.config.Config.{Config}
use Rattle.traces.specs.Laws.{Projected}
use Rattle.traces.specs.Links.{writes, hears, writes_waiting, is_ended}
use Rattle.traces.specs.Rules.{Flows}
use Rattle.traces.specs.Words.{Stage}
use Rattle.traces.specs.Words.Stage.{Coming, Held, Gone}
use Rattle.traces.specs.Words as words
use Rattle.trees.specs.Laws.{GoingWaits}
use Rattle.trees.specs.Look.{Effect, moved}
use Rattle.trees.specs.Look.Effect.{Comes, Goes}
use Rattle.trees.specs.Rules.{Fits}
use Rattle.trees.specs.Words.{is_told, stage, life, joint, is_held, Stands}
use Rattle.trees.proofs.Agrees.{Agrees, MakeWaits, agrees}
use Rattle.trees.proofs.Joint.{AllDid, stage_did, untold}
use Rattle.trees.proofs.Knowing.{all_made_own}
use Rattle.trees.proofs.Lists.{all_drop}
use Rattle.model.specs.Lines.{Making}
use Rattle.model.specs.Moments.{ProcessEvent}
use Rattle.model.specs.Trees.{tree_look, tree_begin}
use Rattle.model.specs.View.{begin}
use Rattle.model.specs.View as view
use Rattle.model.proofs.Cases.{true_false}
use Rattle.model.proofs.Lining.{Lined}
use Rattle.model.proofs.Stages.{trace_of, field_stage, SameStage, served_joint}
use Rattle.model.proofs.TreeLawful.{lawful}

-- what drops a context left it gone
did_drop : {W : Type 0} (does : W → Effect) (n : ℕ) (ws : List W) (s : Stage) → AllDid does ws s → AllDid does (drop n ws) s
did_drop does zero ws s d = d
did_drop does (suc n) [] s d = d
did_drop does (suc n) (w ∷ ws) s d = did_drop does n ws s d.1

stands_gone : {W : Type 0} (does : W → Effect) (ws : List W) (s : Stage) → AllDid does ws s → Stands does Goes ws → s ≡ Gone
stands_gone does (w ∷ ws) s d (inl is) = sym d.0 ∙ ap (λ e. moved e s) is
stands_gone does (w ∷ ws) s d (inr more) = stands_gone does ws s d.1 more
stands_gone does [] s d none = absurd none

-- a waiting make has what all that were made have
make_has : {W : Type 0} {A : Type 0} (does : W → Effect) (ws : List W) → AllByRecursion (λ w. does w ≡ Comes → A) ws → Stands does Comes ws → A
make_has does [] all none = absurd none
make_has does (w ∷ ws) all (inl is) = all.0 is
make_has does (w ∷ ws) all (inr more) = make_has does ws all.1 more

-- a joint stage by the life
of_live : (j l : Stage) (M D : Type 0) → Agrees j l M D → l ≡ Held → (D → ⊥) → j ≡ Held
of_live Coming l M D a e no_drop = absurd (subst (λ s. Agrees Coming s M D) e a)
of_live Held l M D a e no_drop = refl
of_live Gone l M D a e no_drop = absurd (no_drop (subst (λ s. Agrees Gone s M D) e a))

of_coming : (j l : Stage) (M D : Type 0) → Agrees j l M D → l ≡ Coming → (M → ⊥) → (D → ⊥) → j ≡ Coming
of_coming Coming l M D a e no_make no_drop = refl
of_coming Held l M D a e no_make no_drop = absurd (no_make (subst (λ s. Agrees Held s M D) e a))
of_coming Gone l M D a e no_make no_drop = absurd (no_drop (subst (λ s. Agrees Gone s M D) e a))

of_dead : (l : Stage) (M D : Type 0) → Agrees Held l M D → is_held l ≡ false → (M → ⊥) → ⊥
of_dead Coming M D a dead no_make = no_make a
of_dead Held M D a dead no_make = absurd cc
of_dead Gone M D a dead no_make = a

module _ (c : Config) (p : ℕ) (mk : List Making) (x : ContextId) (fld : Field) (l : Lined mk) (h : List ProcessEvent) (flows : Flows h) (runs : is_ended h ≡ false)
    (fits : Fits (tree_look c p mk) (tree_begin c p mk) h) (same : Projected (view.look x fld mk) h) (stages : SameStage c p mk x fld h)
  where
    dropped_gone : GoingWaits (tree_look c p mk) x h → field_stage c p mk x fld h ≡ Gone
    dropped_gone drops =
        stages ∙ stands_gone ((tree_look c p mk).does x) (writes_waiting h) (stage (tree_look c p mk) (tree_begin c p mk) x h)
        (did_drop ((tree_look c p mk).does x) (hears h) (writes h) (stage (tree_look c p mk) (tree_begin c p mk) x h) (stage_did (tree_look c p mk) (tree_begin c p mk) x h)) drops

    made_own : MakeWaits (tree_look c p mk) x h → (tree_look c p mk).is_own x ≡ true
    made_own makes = make_has ((tree_look c p mk).does x) (writes_waiting h) (all_drop (λ w. (tree_look c p mk).does x w ≡ Comes → (tree_look c p mk).is_own x ≡ true) (hears h) (writes h)
        (all_made_own (tree_look c p mk) (tree_begin c p mk) x h fits runs)) makes

    -- what the process isn't told of comes, if ever it does
    pub serves_untold : is_told (tree_look c p mk) (tree_begin c p mk) x h ≡ false → words.stage_served (begin c p x fld).stage (trace_of c p mk x fld h) ≡ Coming
    serves_untold unaware = served_joint c p mk x fld h flows runs same stages ∙ untold (tree_look c p mk) (tree_begin c p mk) (lawful c p mk l) x h flows fits unaware runs

    module _ (told : is_told (tree_look c p mk) (tree_begin c p mk) x h ≡ true) where
      agreeing : Agrees (joint (tree_look c p mk) (tree_begin c p mk) x h) (life (tree_look c p mk) (tree_begin c p mk) x h) (MakeWaits (tree_look c p mk) x h) (GoingWaits (tree_look c p mk) x h)
      agreeing = agrees (tree_look c p mk) (tree_begin c p mk) (lawful c p mk l) h flows fits x told

      -- what is live is served, unless the process dropped it
      pub serves_live : life (tree_look c p mk) (tree_begin c p mk) x h ≡ Held → (field_stage c p mk x fld h ≡ Gone → ⊥) → words.stage_served (begin c p x fld).stage (trace_of c p mk x fld h) ≡ Held
      serves_live live kept =
          served_joint c p mk x fld h flows runs same stages
          ∙ of_live (joint (tree_look c p mk) (tree_begin c p mk) x h) (life (tree_look c p mk) (tree_begin c p mk) x h) (MakeWaits (tree_look c p mk) x h) (GoingWaits (tree_look c p mk) x h) agreeing live (λ d. kept (dropped_gone d))

      -- what another makes comes
      pub serves_coming : life (tree_look c p mk) (tree_begin c p mk) x h ≡ Coming → (tree_look c p mk).is_own x ≡ false → (field_stage c p mk x fld h ≡ Gone → ⊥)
          → words.stage_served (begin c p x fld).stage (trace_of c p mk x fld h) ≡ Coming
      serves_coming new other kept =
          served_joint c p mk x fld h flows runs same stages
          ∙ of_coming (joint (tree_look c p mk) (tree_begin c p mk) x h) (life (tree_look c p mk) (tree_begin c p mk) x h) (MakeWaits (tree_look c p mk) x h) (GoingWaits (tree_look c p mk) x h) agreeing new
          (λ m. true_false ((tree_look c p mk).is_own x) (made_own m) other) (λ d. kept (dropped_gone d))

      -- what isn't live isn't served, unless a making of it waits
      pub serves_dead : is_held (life (tree_look c p mk) (tree_begin c p mk) x h) ≡ false → (MakeWaits (tree_look c p mk) x h → ⊥) → words.stage_served (begin c p x fld).stage (trace_of c p mk x fld h) ≡ Held → ⊥
      serves_dead dead unmade held =
          of_dead (life (tree_look c p mk) (tree_begin c p mk) x h) (MakeWaits (tree_look c p mk) x h) (GoingWaits (tree_look c p mk) x h)
          (subst (λ j. Agrees j (life (tree_look c p mk) (tree_begin c p mk) x h) (MakeWaits (tree_look c p mk) x h) (GoingWaits (tree_look c p mk) x h)) (sym (served_joint c p mk x fld h flows runs same stages) ∙ held) agreeing)
          dead unmade
