-- How the fields of a commit are judged: by the set of those that are reverted, and by the notes.
use Rattle.std.proofs.Common.{◌≡◌, ℕ, Bool, true, false, ◌&&◌, if◌then◌else◌, Option, None, Some, map, refl, sym, ap, ap₂, ◌∙◌}
use Rattle.std.specs.Prelude.{is_none, is_some, unwrap_or}
use Rattle.fission_ids.specs.declared.context.ContextId.{ContextId}
use Rattle.field_table.specs.declared.field.Field.{Field}
use Rattle.field_table.specs.declared.field_set.FieldSet.{FieldSet}
use Rattle.field_table.specs.declared.value.Value.{Value}
use Rattle.field_table.specs.declared.value.Value.TheVariants.{Flag}
use Rattle.field_table.specs.declared.verdict.Verdict.{Verdict}
use Rattle.field_table.specs.declared.verdict.Verdict.TheVariants.{Allow, Deny, Revert}
use Rattle.field_table.specs.Field.{fields}
use Rattle.field_table.specs.FieldSet.{has, set_of}
use Rattle.field_table.proofs.FieldSets.{members_set_of}
use Rattle.field_table.proofs.Filling.{same_by_fields}
use Rattle.transaction.specs.Transaction.{Changes, new_value}
use Rattle.field_rules.specs.Bounds.{Bounds}
use Rattle.field_rules.specs.Rules.{verdict}
use Rattle.wire_msgs.specs.declared.note.FieldMark.{FieldMark}
use Rattle.wire_msgs.specs.declared.note.FieldMark.TheVariants.{Applied, Reverted}
use Rattle.wire_msgs.specs.declared.note.FieldNote.{FieldNote}
use Rattle.protocol.specs.Hear.{mark_of, field_notes, verdict_of, question_of, is_noted, is_applied, is_reverted, values_where}
use Rattle.protocol.specs.Commits.{applied}
use Rattle.protocol.specs.Outside.{allowed_in}
use Rattle.protocol.specs.Questions.{is_owner}
use Rattle.protocol.proofs.Judging.{map-filter_same, verdict_bounded}
use Rattle.protocol.proofs.Notes.{noted}
use Rattle.parent_core.specs.Parent.{Kept, facts_of}
use Rattle.parent_core.specs.Writes.{question_of_heard, is_reverted_in, notes_with}

mark_again : (v : Verdict) → (if is_reverted (mark_of v) then Reverted else Applied) ≡ mark_of v
mark_again Allow = refl
mark_again Deny = refl
mark_again Revert = refl

module _ (k : Kept) (b : Bounds) (p : ℕ) (x : ContextId) (top owns : Bool) (t : Changes) (reverted : FieldSet) (is_top : top ≡ is_none ((facts_of k).contexts.above x)) (owner : owns ≡ is_owner (facts_of k) p x) (is : reverted ≡ set_of (is_reverted_in b p x top owns t)) where
  member : (fld : Field) → has reverted fld ≡ is_reverted_in b p x top owns t fld
  member fld = members_set_of reverted (is_reverted_in b p x top owns t) is fld

  -- the verdict that the rule has, by the bounds
  verdict_is : (fld : Field) → verdict b (question_of_heard p x top owns fld (unwrap_or (new_value t fld) (Flag false))) ≡ verdict_of (allowed_in b t) (facts_of k) p x t fld
  verdict_is fld =
      ap₂ (λ (l o : Bool). verdict b (question_of_heard p x l o fld (unwrap_or (new_value t fld) (Flag false)))) is_top owner
      ∙ sym (verdict_bounded b (question_of (facts_of k) p x fld (unwrap_or (new_value t fld) (Flag false))))

  -- the notes are those of the rule
  pub notes_are : notes_with reverted t ≡ field_notes (allowed_in b t) (facts_of k) p x t
  notes_are = map-filter_same
      (λ fld. noted_as fld (if has reverted fld then Reverted else Applied)) (λ fld. noted_as fld (mark_of (verdict_of (allowed_in b t) (facts_of k) p x t fld)))
      (λ fld. is_some (new_value t fld)) same fields
    where
      noted_as : Field → FieldMark → FieldNote
      noted_as fld m = record { field = fld; mark = m }

      same : (fld : Field) → is_some (new_value t fld) ≡ true
          → noted_as fld (if has reverted fld then Reverted else Applied) ≡ noted_as fld (mark_of (verdict_of (allowed_in b t) (facts_of k) p x t fld))
      same fld e =
          ap (λ (z : Bool). noted_as fld (if z then Reverted else Applied))
          (member fld ∙ ap (λ z. z && is_reverted (mark_of (verdict b (question_of_heard p x top owns fld (unwrap_or (new_value t fld) (Flag false)))))) e)
          ∙ ap (noted_as fld)
          (mark_again (verdict b (question_of_heard p x top owns fld (unwrap_or (new_value t fld) (Flag false)))) ∙ ap mark_of (verdict_is fld))

  mark : Field → FieldMark
  mark fld = if has reverted fld then Reverted else Applied

  -- what is applied
  pub applied_are : map (λ f. if has reverted f then None else new_value t f) fields ≡ applied (notes_with reverted t) t
  unfolding mark
  applied_are = same_by_fields (λ f. if has reverted f then None else new_value t f) (λ f. if is_noted is_applied (notes_with reverted t) f then new_value t f else None) same
    where
      either : (r : Bool) (o : Option Value) → (if r then None else o) ≡ (if is_some o && is_applied (if r then Reverted else Applied) then o else None)
      either true None = refl
      either true (Some v) = refl
      either false None = refl
      either false (Some v) = refl

      same : (f : Field) → (if has reverted f then None else new_value t f) ≡ (if is_noted is_applied (notes_with reverted t) f then new_value t f else None)
      same f =
          either (has reverted f) (new_value t f)
          ∙ ap (λ (z : Bool). if z then new_value t f else None) (sym (noted is_applied mark t f))

  -- what goes back
  pub back_are : map (λ f. if has reverted f then (facts_of k).contexts.value x f else None) fields ≡ values_where (is_noted is_reverted (notes_with reverted t)) (facts_of k) x
  unfolding mark
  back_are = same_by_fields (λ f. if has reverted f then (facts_of k).contexts.value x f else None)
      (λ f. if is_noted is_reverted (notes_with reverted t) f then (facts_of k).contexts.value x f else None) same
    where
      reverted_mark : (r : Bool) → is_reverted (if r then Reverted else Applied) ≡ r
      reverted_mark true = refl
      reverted_mark false = refl

      again : (a z r : Bool) → r ≡ (a && z) → r ≡ (a && r)
      again true z r e = refl
      again false z r e = e

      same : (f : Field) → (if has reverted f then (facts_of k).contexts.value x f else None) ≡ (if is_noted is_reverted (notes_with reverted t) f then (facts_of k).contexts.value x f else None)
      same f =
          ap (λ (z : Bool). if z then (facts_of k).contexts.value x f else None)
          (again (is_some (new_value t f)) _ (has reverted f) (member f)
          ∙ sym (noted is_reverted mark t f ∙ ap (λ z. is_some (new_value t f) && z) (reverted_mark (has reverted f))))
