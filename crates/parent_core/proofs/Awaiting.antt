-- The groups where more is awaited in one, if that is kept.
use Rattle.std.proofs.Common.{◌≡◌, ◌-◌, ◌==◌, Bool, true, false, ◌&&◌, if◌then◌else◌, List, ◌∷◌, length, refl, sym, ap, ◌∙◌, eqb-true, length-set}
use Rattle.fission_ids.specs.declared.context.ContextId.{ContextId}
use Rattle.fission_ids.specs.declared.group.GroupId.{GroupId}
use Rattle.fission_ids.specs.declared.process.ProcSet.{ProcSet}
use Rattle.context_group.specs.declared.acks.Awaited.{Awaited}
use Rattle.context_group.specs.declared.group.Group.{Group}
use Rattle.context_group.specs.Acks.{acks_with}
use Rattle.context_group.specs.Groups.{no_group, group_at, at_group, is_kept, group_after_await}
use Rattle.context_group.proofs.Places.{group_at-set, made_if_kept, same_at}
use Rattle.std.specs.Prelude.{slice_index_or}

-- a group by its number
pub group_same : (g h : GroupId) (gs : List Group) → (g.0 == h.0) ≡ true → group_at g gs ≡ group_at h gs
group_same g h gs e = ap (λ n. slice_index_or (no_group ∷ gs) n no_group) (eqb-true g.0 h.0 e)

module _ (who : ProcSet) (x : ContextId) (g : GroupId) (gs : List Group) where
  abbrev pub more_awaited : List Group
  more_awaited = if is_kept g gs then at_group (group_after_await who x) g gs else gs

  -- what isn't awaited stays
  pub same_more : {A : Type 0} (part : Group → A) → ((v : Group) → part (group_after_await who x v) ≡ part v) → (h : GroupId) → part (group_at h more_awaited) ≡ part (group_at h gs)
  same_more part same h = by (is_kept g gs) refl
    where
      by : (b : Bool) → is_kept g gs ≡ b → part (group_at h (if b then at_group (group_after_await who x) g gs else gs)) ≡ part (group_at h gs)
      by true kept = same_at part g h gs (group_after_await who x (group_at g gs)) (made_if_kept g gs kept) (same (group_at g gs))
      by false kept = refl

  pub length_more : length more_awaited ≡ length gs
  length_more = by (is_kept g gs)
    where
      by : (b : Bool) → length (if b then at_group (group_after_await who x) g gs else gs) ≡ length gs
      by true = length-set gs (g.0 - 1) (group_after_await who x (group_at g gs))
      by false = refl

  pub awaited_more : (h : GroupId) → (group_at h more_awaited).awaited ≡ (if h.0 == g.0 && is_kept h gs then acks_with who x (group_at h gs).awaited else (group_at h gs).awaited)
  awaited_more h = by (is_kept g gs) refl (h.0 == g.0) refl
    where
      either : (b : Bool) (l m : List Awaited) → m ≡ (if b && false then l else m)
      either true l m = refl
      either false l m = refl

      by : (b : Bool) → is_kept g gs ≡ b → (c : Bool) → (h.0 == g.0) ≡ c
          → (group_at h (if b then at_group (group_after_await who x) g gs else gs)).awaited ≡ (if c && is_kept h gs then acks_with who x (group_at h gs).awaited else (group_at h gs).awaited)
      by true kept true is =
          let same : group_at h gs ≡ group_at g gs = group_same h g gs is in
          ap (λ (v : Group). v.awaited) (group_at-set g h gs (group_after_await who x (group_at g gs)) (made_if_kept g gs kept))
          ∙ ap (λ b. (if b then group_after_await who x (group_at g gs) else group_at h gs).awaited) is
          ∙ ap (λ (v : Group). acks_with who x v.awaited) (sym same)
          ∙ sym (ap (λ b. if b then acks_with who x (group_at h gs).awaited else (group_at h gs).awaited) (ap (λ (v : Group). v.is_kept) same ∙ kept))
      by true kept false is =
          ap (λ (v : Group). v.awaited) (group_at-set g h gs (group_after_await who x (group_at g gs)) (made_if_kept g gs kept))
          ∙ ap (λ b. (if b then group_after_await who x (group_at g gs) else group_at h gs).awaited) is
      by false kept true is =
          sym (ap (λ b. if b then acks_with who x (group_at h gs).awaited else (group_at h gs).awaited) (ap (λ (v : Group). v.is_kept) (group_same h g gs is) ∙ kept))
      by false kept false is = refl
