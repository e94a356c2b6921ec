use Rattle.std.proofs.Common.{◌≡◌, if◌then◌else◌}
use Rattle.std.specs.Prelude.{slice_index}
use Rattle.field_table.specs.Field.{number}
use Rattle.field_table.specs.FieldSet.{has}
use Rattle.field_table.proofs.Filling.{filled}
use Rattle.context_store.proofs.marked.renumber.Given as goal

abbrev pub invariant-loop-f : goal.invariant-loop-f
invariant-loop-f l = l.numbers ≡ filled (λ f. if has l.fn.s f then l.fn.n else slice_index l.fn.numbers (number f)) l.f-index l.fn.numbers
