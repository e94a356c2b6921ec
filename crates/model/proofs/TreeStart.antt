-- The trees at the start: the parent has all tabs, and a process those that it is told of.
use Rattle.std.proofs.Common.{◌≡◌, inl, ℕ, ◌-◌, ◌==◌, Bool, true, false, ◌&&◌, if◌then◌else◌, Option, None, Some, List, [], refl, ap, sym, ◌∙◌, arith, eqb-true}
use Rattle.std.specs.Prelude.{is_some, nat_lt, slice_get}
use Rattle.std.specs.Option.{option_map, option_map_or}
use Rattle.fission_ids.specs.declared.context.ContextId.{ContextId}
use Rattle.wire_msgs.specs.declared.config.Config.{Config}
use Rattle.wire_msgs.specs.declared.config.StartTab.{StartTab}
use Rattle.protocol.specs.Questions.{option_any}
use Rattle.protocol.specs.Start.{tab_of, is_live, is_of_tab, is_held_at_start}
use Rattle.traces.specs.Words.Stage.{Coming, Gone}
use Rattle.trees.specs.Words.{is_held}
use Rattle.model.specs.Lines.{Making}
use Rattle.model.specs.Moments.{facts_now, seen_now, events_of}
use Rattle.model.specs.Parent.{known, live, owner, subscribers}
use Rattle.model.specs.Process.{holds, owns, frames_made}
use Rattle.model.specs.Trees.{held_if}
use Rattle.model.proofs.Cases.{both_true}
use Rattle.model.proofs.TreeEvents.{until_end}
use Rattle.model.proofs.TreeFacts.{TreeFacts}
use Rattle.model.proofs.TreeOwn.{TreeSeen}
use Rattle.model.proofs.TreeTies.{TreeTies}

module _ (c : Config) (p : ℕ) (mk : List Making) where
  -- a tab has no creator
  tab_creator : (x : ContextId) → is_live c.tabs x ≡ true → x.creator ≡ 0
  tab_creator x e = eqb-true x.creator 0 (both_true (x.creator == 0) (nat_lt 0 x.serial) (some_of (x.creator == 0 && nat_lt 0 x.serial) (slice_get c.tabs (x.serial - 1)) e)).0
    where
      some_of : {A : Type 0} (b : Bool) (o : Option A) → is_some (if b then o else None) ≡ true → b ≡ true
      some_of true o e = refl
      some_of false o e = absurd cc

  held_live : (x : ContextId) → is_held_at_start c.tabs p x ≡ true → is_live c.tabs x ≡ true
  held_live x e = by_tab (tab_of c.tabs x) e
    where
      by_tab : (o : Option StartTab) → is_of_tab p o ≡ true → is_some o ≡ true
      by_tab (Some tab) e = refl
      by_tab None e = absurd cc

  if_held : (v : Bool) → is_held (held_if v) ≡ v
  if_held true = refl
  if_held false = refl

  if_new : (v : Bool) → v ≡ false → held_if v ≡ Coming
  if_new v e = ap held_if e

  never_gone : {A : Type 0} (v : Bool) → held_if v ≡ Gone → A
  never_gone true e = absurd cc
  never_gone false e = absurd cc

  owner_is : (o : Option StartTab) → option_map_or (λ tab. tab.owner.0 == p) o false ≡ option_any (λ q. q == p) (option_map (λ tab. tab.owner.0) o)
  owner_is None = refl
  owner_is (Some tab) = refl

  facts_start : TreeFacts c p mk (facts_now c []) (events_of p [])
  unfolding known live owner subscribers
  facts_start = record {
    fits = tt;
    told = λ g. refl;
    lives = record { live = λ x. if_held (is_live c.tabs x); unknown = λ x e. inl (if_new (is_live c.tabs x) e) };
    owners = λ x live. owner_is (tab_of c.tabs x);
    known = λ x e. sym (if_held (is_live c.tabs x)) ∙ e;
    own_known = λ x own e. absurd (omega (arith, sym own ∙ tab_creator x e));
  }

  seen_start : TreeSeen c p mk (seen_now c p []) (until_end (events_of p []))
  unfolding holds owns frames_made
  seen_start = record {
    fits = tt;
    stages = λ x. if_held (is_held_at_start c.tabs p x);
    owners = λ x held. refl;
    unmade = λ x own later. record {
      unheld = λ e. omega (arith, sym own ∙ tab_creator x (held_live x (sym (if_held (is_held_at_start c.tabs p x)) ∙ ap is_held e)));
      with_above = λ e. never_gone (is_held_at_start c.tabs p x) e;
    };
  }

  pub trees_start : TreeTies c p mk (facts_now c []) (seen_now c p []) (events_of p [])
  trees_start = record { facts = λ runs. facts_start; seen = seen_start }
