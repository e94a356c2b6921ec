-- What there is before any step.
use Rattle.std.proofs.Common.{◌≡◌, ℕ, ◌+◌, List, [], ◌∷◌, ◌++◌, length, map, Option, Some, refl, sym, ap, ◌∙◌, subst, arith}
use Rattle.std.specs.Option.{option_map}
use Rattle.std.proofs.lemmas.List.{map-append}
use Rattle.wire_msgs.specs.Config.{ConfigFits}
use Rattle.wire_msgs.specs.declared.bundle.DownBundle.{DownBundle}
use Rattle.wire_msgs.specs.declared.bundle.UpBundle.{UpBundle}
use Rattle.wire_msgs.specs.declared.config.Config.{Config}
use Rattle.wire_msgs.specs.declared.config.StartTab.{StartTab}
use Rattle.protocol.specs.Questions.{Facts}
use Rattle.protocol.specs.Start.{numbers, facts_at_start, seen_at_start}
use Rattle.content_core.specs.Content.{Kept, seen_of}
use Rattle.parent_core.specs.Parent.{Kept as ParentKept, facts_of}
use Rattle.model.specs.Parent as parent
use Rattle.model.specs.Process as process
use Rattle.model.specs.Moments.{moments_of}
use Rattle.model.specs.Next.{Lawful}
use Rattle.world.specs.Sides.{Side, side_of, sides_of}
use Rattle.world.specs.Stands.{state, state_of, Stands}
use Rattle.world.proofs.Lists.{map-numbers_more}

abbrev pub side_at_start : List StartTab → ℕ → Option Side
side_at_start tabs p = Some (record { process = p; seen = seen_at_start tabs p })

-- one process more
pub one_more : (contents : List (Option Kept)) (k : Kept) (tabs : List StartTab) (p : ℕ) → sides_of contents ≡ map (side_at_start tabs) (numbers 0 p)
    → k.process ≡ p → seen_of k ≡ seen_at_start tabs p → sides_of (contents ++ Some k ∷ []) ≡ map (side_at_start tabs) (numbers 0 (p + 1))
one_more contents k tabs p so_far e1 e2 =
    map-append (option_map side_of) contents (Some k ∷ [])
    ∙ map-numbers_more (side_at_start tabs) p (sides_of contents) (Some (side_of k)) so_far (same e1 e2)
  where
    same : k.process ≡ p → seen_of k ≡ seen_at_start tabs p → Some (side_of k) ≡ side_at_start tabs p
    same e1 e2 = cc

state_at_start : (c : Config) → state c [] ≡ record {
  facts = facts_at_start c.tabs;
  sides = map (side_at_start c.tabs) (numbers 0 (length c.types));
  ups = map (λ p. []) (numbers 0 (length c.types));
  downs = map (λ p. []) (numbers 0 (length c.types));
}
unfolding parent.value parent.commits_heard parent.bundles_sent parent.ended parent.owner parent.subscribers parent.known parent.group parent.above parent.live parent.under parent.order parent.groups_made parent.keeping parent.tabs_made process.running process.commits process.taken process.value process.newest process.frames_made process.holds process.group process.above process.under process.owns process.order
state_at_start c = refl

-- a world stands for no journal
pub stands_at_start : (c d : Config) (before : ParentKept) (contents : List (Option Kept)) (ups : List (List UpBundle)) (downs : List (List DownBundle)) → ConfigFits c → d ≡ c
    → facts_of before ≡ facts_at_start c.tabs → sides_of contents ≡ map (side_at_start c.tabs) (numbers 0 (length c.types))
    → ups ≡ map (λ p. []) (numbers 0 (length c.types)) → downs ≡ map (λ p. []) (numbers 0 (length c.types))
    → Stands d [] (state_of before contents ups downs)
unfolding Lawful moments_of
stands_at_start c d before contents ups downs fits same facts sides up down =
    subst (λ (e : Config). Stands e [] (state_of before contents ups downs)) (sym same) (record {
      fits = record { config = fits; steps = tt };
      few = omega arith;
      lawful = tt;
      is = state_same facts sides up down ∙ sym (state_at_start c);
    })
  where
    state_same : facts_of before ≡ facts_at_start c.tabs → sides_of contents ≡ map (side_at_start c.tabs) (numbers 0 (length c.types))
        → ups ≡ map (λ p. []) (numbers 0 (length c.types)) → downs ≡ map (λ p. []) (numbers 0 (length c.types))
        → state_of before contents ups downs ≡ record {
          facts = facts_at_start c.tabs;
          sides = map (side_at_start c.tabs) (numbers 0 (length c.types));
          ups = map (λ p. []) (numbers 0 (length c.types));
          downs = map (λ p. []) (numbers 0 (length c.types));
        }
    state_same e1 e2 e3 e4 =
        ap (λ (f : Facts). record { facts = f; sides = sides_of contents; ups = ups; downs = downs }) e1
        ∙ ap (λ (ss : List (Option Side)). record { facts = facts_at_start c.tabs; sides = ss; ups = ups; downs = downs }) e2
        ∙ ap (λ (us : List (List UpBundle)). record { facts = facts_at_start c.tabs; sides = map (side_at_start c.tabs) (numbers 0 (length c.types)); ups = us; downs = downs }) e3
        ∙ ap (λ (ds : List (List DownBundle)). record { facts = facts_at_start c.tabs; sides = map (side_at_start c.tabs) (numbers 0 (length c.types)); ups = map (λ p. []) (numbers 0 (length c.types)); downs = ds }) e4
