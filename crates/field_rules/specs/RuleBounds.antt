-- The bounds of the rule functions that `Rules` has.
use Rattle.std.specs.Option.{option_map_or}
use Rattle.field_rules.specs.declared.rules.Rules.{Rules}
use Rattle.field_rules.specs.Bounds.{Bounds, range, no_number}

-- the bounds that the rule functions keep to
abbrev pub bounds_of : {f : _} {g : _} → Rules f g → Bounds
bounds_of r = record {
  full = option_map_or (λ c. range c.low c.high) r.full no_number;
  text = option_map_or (λ c. range c.low c.high) r.text no_number;
}
