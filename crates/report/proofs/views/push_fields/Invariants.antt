use Rattle.std.proofs.Common.{◌≡◌, ◌++◌, ℕ, List, string_bytes, drop}
use Rattle.std.specs.List.{flat_map}
use Rattle.field_table.specs.declared.field.Field.{Field}
use Rattle.report.specs.Views.{field_line}
use Rattle.report.proofs.views.push_fields.Given as goal

abbrev pub invariant-loop-f : goal.invariant-loop-f
invariant-loop-f g l =
    let line : Field → List ℕ = λ f. field_line f ((g.S.Side.told l.side).value l.x f) in
    string_bytes l.out ++ flat_map line (drop l.f-index l.fields) ≡ string_bytes l.fn.out ++ flat_map line l.fields
