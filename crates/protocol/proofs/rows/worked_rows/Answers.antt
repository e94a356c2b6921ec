use Rattle.std.proofs.Common.{refl}
use Rattle.field_rules.specs.Rules.{row as rule_row}
use Rattle.field_table.specs.Field.{row}
use Rattle.field_table.specs.FieldSet.{number_of_bits}
use Rattle.protocol.specs.Fold.{behind_all, after_parts, first_fault, notes_of, posts_of}
use Rattle.protocol.specs.Hear.{fault, note, says, posts}
use Rattle.protocol.specs.Order.{first_misplaced, parts_with_all}
use Rattle.protocol.specs.Bundle.{envelope_fault}
use Rattle.protocol.specs.FactsAfter.{facts_after}
use Rattle.protocol.specs.SeenAfter.{seen_after}
use Rattle.protocol.specs.Take as take
use Rattle.protocol.specs.OwnActs as own
use Rattle.protocol.specs.Rows.{parent_rows, process_rows}
use Rattle.protocol.proofs.rows.worked_rows.Goals as goal

pub returns-clause-parent : goal.returns-clause-parent
unfolding parent_rows first_fault notes_of posts_of after_parts fault note says posts facts_after behind_all envelope_fault first_misplaced parts_with_all rule_row number_of_bits row
returns-clause-parent c = refl

pub returns-clause-groups : goal.returns-clause-groups
unfolding facts_after behind_all
returns-clause-groups c = (refl, refl, refl)

pub returns-clause-process : goal.returns-clause-process
unfolding process_rows seen_after notes_of posts_of after_parts behind_all take.note take.says take.posts
returns-clause-process c = refl

pub returns-clause-refusals : goal.returns-clause-refusals
unfolding own.refusal seen_after rule_row number_of_bits
returns-clause-refusals c = (refl, refl, refl, refl)
