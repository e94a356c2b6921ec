-- The values of the contexts.
use Rattle.std.specs.Prelude.{Option}
use Rattle.std.specs.Option.{option_map}
use Rattle.std.specs.FinMap.{get}
use Rattle.fission_ids.specs.declared.context.ContextId.{ContextId}
use Rattle.field_table.specs.declared.field.Field.{Field}
use Rattle.field_table.specs.declared.value.Value.{Value}
use Rattle.field_table.specs.Table.{value_in}
use Rattle.context_store.specs.Content.{Content}

-- the value of a field, where the context is there
abbrev pub value_at : ContextId → Field → Content → Option Value
value_at x fld m = option_map (λ s. value_in s.fields fld) (get m x)
