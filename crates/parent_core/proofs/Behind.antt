-- What the parent answers behind each saying that leaves the contexts where they are.
use Rattle.std.proofs.Common.{◌≡◌, ℕ, ◌<◌, ◌==◌, Bool, true, false, if◌then◌else◌, Option, None, List, ◌∷◌, map, refl, ap, ◌∙◌}
use Rattle.std.proofs.Math.Path.{fun_ext}
use Rattle.std.proofs.lemmas.List.{length-map}
use Rattle.fission_ids.specs.declared.context.ContextId.{ContextId}
use Rattle.fission_ids.specs.Ids.{same_context}
use Rattle.field_table.specs.declared.field.Field.{Field}
use Rattle.field_table.specs.declared.value.Value.{Value}
use Rattle.transaction.specs.Transaction.{Changes, new_value}
use Rattle.context_tree.specs.Tree.{is_held}
use Rattle.context_group.specs.declared.group.Group.{Group}
use Rattle.context_group.specs.Groups.{group_after_ack, group_after_drop, AreSound}
use Rattle.context_store.specs.Content.{Content}
use Rattle.wire_msgs.specs.declared.cause.EndCause.{EndCause}
use Rattle.protocol.specs.Fold.{or_later}
use Rattle.protocol.specs.Questions.{Facts, option_any}
use Rattle.protocol.specs.Sayings.Saying.{Wrote, Acked, Ended as EndedOf}
use Rattle.protocol.specs.FactsAfter.{facts_after}
use Rattle.parent_core.specs.Parent.{Kept, End, HoldsAll, facts_of, owner_in, owner_left}
use Rattle.parent_core.specs.Contents.{value_at}
use Rattle.parent_core.proofs.Facts.{same_contexts, same_facts, same_groups}
use Rattle.parent_core.proofs.Counting.{lives, holds_groups}
use Rattle.parent_core.proofs.Settled.{live_acked, subscribers_acked, awaited_acked, kept_acked, live_left, subscribers_left, awaited_left, kept_left}

module _ (inside before : Kept) (view : inside ≡ before) where
  -- fields were written
  pub facts_wrote : (x : ContextId) (t : Changes) (new : Content)
      → ((y : ContextId) (fld : Field) → value_at y fld new ≡ (if same_context y x then or_later (new_value t fld) (value_at y fld inside.contexts) else value_at y fld inside.contexts))
      → facts_of (record inside { contexts = new }) ≡ facts_after (Wrote x t) (facts_of before)
  unfolding facts_after
  facts_wrote x t new values =
      let f : Facts = facts_of inside in
      ap (λ (v : ContextId → Field → Option Value). record f { contexts = record f.contexts { value = v } }) (fun_ext (λ y. fun_ext (values y)))
      ∙ ap (λ (k : Kept). facts_after (Wrote x t) (facts_of k)) view

  -- a discard was acknowledged
  pub facts_acked : HoldsAll inside → (p : ℕ) (x : ContextId) → facts_of (record inside { groups = map (group_after_ack p x) inside.groups }) ≡ facts_after (Acked p x) (facts_of before)
  unfolding facts_after
  facts_acked h p x =
      let gs : List Group = inside.groups in
      same_facts (facts_of (record inside { groups = map (group_after_ack p x) gs })) (facts_after (Acked p x) (facts_of inside))
      refl
      (same_groups _ _ (record {
        made = length-map gs (group_after_ack p x);
        kept = λ g. kept_acked p x gs h.sound g _ (lives inside h g);
        subscribers = subscribers_acked p x gs h.sound;
        awaited = awaited_acked p x gs h.sound;
      }))
      refl refl
      ∙ ap (λ (k : Kept). facts_after (Acked p x) (facts_of k)) view

  -- a process was ended
  pub facts_ended : HoldsAll inside → (p : ℕ) (cause : EndCause)
      → facts_of (record inside { groups = map (group_after_drop p) inside.groups; ends = record { process = p; cause = cause } ∷ inside.ends }) ≡ facts_after (EndedOf p cause) (facts_of before)
  unfolding facts_after
  facts_ended h p cause =
      let gs : List Group = inside.groups in
      let es : List End = record { process = p; cause = cause } ∷ inside.ends in
      same_facts (facts_of (record inside { groups = map (group_after_drop p) gs; ends = es })) (facts_after (EndedOf p cause) (facts_of inside))
      (same_contexts _ _ (record {
        known = λ x. refl;
        group = λ x. refl;
        above = λ x. refl;
        live = λ x. refl;
        under = λ x y. refl;
        owner = λ x. owned (is_held x inside.nodes) (owner_left inside.ends (owner_in x inside.origins));
        value = λ x fld. refl;
        order = refl;
      }))
      (same_groups _ _ (record {
        made = length-map gs (group_after_drop p);
        kept = λ g. kept_left p gs h.sound g _ (lives inside h g);
        subscribers = subscribers_left p gs h.sound;
        awaited = awaited_left p gs h.sound;
      }))
      refl refl
      ∙ ap (λ (k : Kept). facts_after (EndedOf p cause) (facts_of k)) view
    where
      owned : (b : Bool) (o : Option ℕ) → (if b then (if option_any (λ q. q == p) o then None else o) else None)
          ≡ (if option_any (λ q. q == p) (if b then o else None) then None else if b then o else None)
      owned true o = refl
      owned false o = refl

-- what holds behind these
pub holds_acked : (k : Kept) → HoldsAll k → (p : ℕ) (x : ContextId) → AreSound (map (group_after_ack p x) k.groups) → HoldsAll (record k { groups = map (group_after_ack p x) k.groups })
holds_acked k h p x sound = holds_groups k (map (group_after_ack p x) k.groups) h sound (live_acked p x k.groups h.sound)

pub holds_ended : (k : Kept) → HoldsAll k → (p : ℕ) (cause : EndCause) → p < 16 → AreSound (map (group_after_drop p) k.groups)
    → HoldsAll (record k { groups = map (group_after_drop p) k.groups; ends = record { process = p; cause = cause } ∷ k.ends })
holds_ended k h p cause low sound = record {
  config = h.config;
  tree = h.tree;
  sound = sound;
  stored = h.stored;
  known = h.known;
  above = h.above;
  inside = h.inside;
  range = h.range;
  live = λ g. live_left p k.groups h.sound g ∙ h.live g;
  processes = h.processes;
  ends = (low, h.ends);
  tabs = h.tabs;
}
