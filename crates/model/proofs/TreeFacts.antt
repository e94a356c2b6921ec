-- What the parent answers of the trees is what the events of a process that wasn't ended tell.
use Rattle.std.proofs.Common.{◌≡◌, ℕ, ◌+◌, true, List}
use Rattle.fission_ids.specs.declared.context.ContextId.{ContextId}
use Rattle.fission_ids.specs.declared.group.GroupId.{GroupId}
use Rattle.wire_msgs.specs.declared.config.Config.{Config}
use Rattle.protocol.specs.Questions.{Facts, is_owner, is_subscribed}
use Rattle.trees.specs.Children.{owned}
use Rattle.trees.specs.Rules.{Fits}
use Rattle.trees.specs.Words.{life, is_known}
use Rattle.model.specs.Lines.{Making}
use Rattle.model.specs.Moments.{ProcessEvent}
use Rattle.model.specs.Trees.{tree_look, tree_begin}
use Rattle.model.proofs.Living.{LifeTies}
use Rattle.model.proofs.Subscribers.{group_told}

pub record TreeFacts (c : Config) (p : ℕ) (mk : List Making) (f : Facts) (h : List ProcessEvent) : Type 0 where
  pub fits : Fits (tree_look c p mk) (tree_begin c p mk) h
  pub told : (g : GroupId) → is_subscribed f p g ≡ group_told c p g h
  pub lives : LifeTies mk f (λ x. life (tree_look c p mk) (tree_begin c p mk) x h)
  pub owners : (x : ContextId) → f.contexts.live x ≡ true → owned (tree_look c p mk) (tree_begin c p mk) x h ≡ is_owner f p x
  pub known : (x : ContextId) → is_known (tree_look c p mk) (tree_begin c p mk) x h ≡ true → f.contexts.known x ≡ true
  pub own_known : (x : ContextId) → x.creator ≡ p + 1 → f.contexts.known x ≡ true → is_known (tree_look c p mk) (tree_begin c p mk) x h ≡ true
