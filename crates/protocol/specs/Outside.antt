-- What the functions of the outside allow: asked of the zooms of a bundle's commit, and read back from the
-- notes of the answer.
use Rattle.std.specs.Prelude.{Bool, false, List, [], ◌∷◌, unwrap_or}
use Rattle.field_table.specs.declared.field.Field.{Field}
use Rattle.field_table.specs.declared.value.Value.{Value}
use Rattle.field_table.specs.declared.value.Value.TheVariants.{Flag}
use Rattle.transaction.specs.Transaction.{Changes, new_value}
use Rattle.field_rules.specs.declared.rule.Rule.{Rule}
use Rattle.field_rules.specs.declared.rule.Rule.TheVariants.{Custom}
use Rattle.field_rules.specs.Bounds.{Bounds, is_within}
use Rattle.field_rules.specs.Rules.{rule, range_of, number_in}
use Rattle.wire_msgs.specs.declared.answer.Answer.{Answer}
use Rattle.wire_msgs.specs.declared.answer.Answer.TheVariants.{Parts}
use Rattle.wire_msgs.specs.declared.bundle.UpBundle.{UpBundle}
use Rattle.wire_msgs.specs.declared.note.PartNote.{PartNote}
use Rattle.wire_msgs.specs.declared.note.PartNote.TheVariants as notes
use Rattle.wire_msgs.specs.declared.part.UpPart.{UpPart}
use Rattle.wire_msgs.specs.declared.part.UpPart.TheVariants as ups
use Rattle.protocol.specs.Hear.{is_noted, is_applied}

-- whether the bounds of the functions allow a value; under a rule without a function none is asked
abbrev pub is_allowed_by : Bounds → Rule → Value → Bool
is_allowed_by b (Custom z) v = is_within (range_of z b) (number_in v)
is_allowed_by b r v = false

-- of which fields they allow the value
abbrev pub allowed_in : Bounds → Changes → Field → Bool
allowed_in b t fld = is_allowed_by b (rule fld) (unwrap_or (new_value t fld) (Flag false))

-- the changes of a bundle's commit; a bundle with two is never judged
abbrev pub changes_in : List UpPart → Changes
changes_in [] = []
changes_in (ups.Commit x t ∷ parts) = t
changes_in (_ ∷ parts) = changes_in parts

-- of which fields of a bundle they allow the value
abbrev pub allowed_of : Bounds → UpBundle → Field → Bool
allowed_of b u = allowed_in b (changes_in u.parts)

-- the fields that the note of a bundle's commit calls applied
abbrev pub applied_in : List PartNote → Field → Bool
applied_in [] fld = false
applied_in (notes.Commit x ns ∷ more) fld = is_noted is_applied ns fld
applied_in (_ ∷ more) fld = applied_in more fld

-- what was allowed, by the answer to the bundle
abbrev pub told_allowed : Answer → Field → Bool
told_allowed (Parts ns) = applied_in ns
told_allowed answer = λ fld. false
