-- Whom the parent tells of a group: a process that was subscribed to it at the start or by a Register, until it is
-- ended.
use Rattle.std.proofs.Common.{◌≡◌, ℕ, Bool, true, false, ◌||◌, Option, None, Some, List, [], ◌∷◌, refl, ap, sym, ◌∙◌}
use Rattle.std.specs.List.{list_any}
use Rattle.fission_ids.specs.declared.context.ContextId.{ContextId}
use Rattle.fission_ids.specs.declared.group.GroupId.{GroupId}
use Rattle.wire_msgs.specs.declared.config.Config.{Config}
use Rattle.protocol.specs.Questions.{Facts, option_any, is_subscribed, is_told}
use Rattle.protocol.specs.Start.{facts_at_start}
use Rattle.traces.specs.Event.Event.{Sends, Ends}
use Rattle.trees.specs.Words as trees
use Rattle.model.specs.Lines.{Making, group_in}
use Rattle.model.specs.Moments.{ProcessEvent}
use Rattle.model.specs.Trees.{registers_group, tree_look, tree_begin}
use Rattle.model.proofs.Fitting.{FactsTies}

-- whether process p is told of a group, by its events
abbrev pub group_told : Config → ℕ → GroupId → List ProcessEvent → Bool
group_told c p g [] = is_subscribed (facts_at_start c.tabs) p g
group_told c p g (Sends k u d ∷ h) = list_any (registers_group g) d.parts || group_told c p g h
group_told c p g (Ends ∷ h) = false
group_told c p g (_ ∷ h) = group_told c p g h

any_either : (P Q : GroupId → Bool) (o : Option GroupId) → (option_any P o || option_any Q o) ≡ option_any (λ g. P g || Q g) o
any_either P Q None = refl
any_either P Q (Some g) = refl

any_never : (o : Option GroupId) → false ≡ option_any (λ (g : GroupId). false) o
any_never None = refl
any_never (Some g) = refl

pub any_same : (P Q : GroupId → Bool) → ((g : GroupId) → P g ≡ Q g) → (o : Option GroupId) → option_any P o ≡ option_any Q o
any_same P Q same None = refl
any_same P Q same (Some g) = same g

-- and so of each context in it
pub told_by_group : (c : Config) (p : ℕ) (mk : List Making) (x : ContextId) (h : List ProcessEvent) → trees.is_told (tree_look c p mk) (tree_begin c p mk) x h ≡ option_any (λ g. group_told c p g h) (group_in c.tabs mk x)
told_by_group c p mk x [] = refl
told_by_group c p mk x (Sends k u d ∷ h) =
    ap (λ b. option_any (λ g. list_any (registers_group g) d.parts) (group_in c.tabs mk x) || b) (told_by_group c p mk x h)
    ∙ any_either (λ g. list_any (registers_group g) d.parts) (λ g. group_told c p g h) (group_in c.tabs mk x)
told_by_group c p mk x (Ends ∷ h) = any_never (group_in c.tabs mk x)
told_by_group c p mk x (_ ∷ h) = told_by_group c p mk x h

-- as the parent answers it, where it answers the groups
pub told_is : (c : Config) (p : ℕ) (mk : List Making) (f : Facts) (x : ContextId) (h : List ProcessEvent) → FactsTies c.tabs mk f → f.contexts.known x ≡ true → ((g : GroupId) → is_subscribed f p g ≡ group_told c p g h)
    → is_told f p x ≡ trees.is_told (tree_look c p mk) (tree_begin c p mk) x h
told_is c p mk f x h ft known told =
    ap (option_any (is_subscribed f p)) (ft.known_group x known)
    ∙ any_same (is_subscribed f p) (λ g. group_told c p g h) told (group_in c.tabs mk x)
    ∙ sym (told_by_group c p mk x h)
