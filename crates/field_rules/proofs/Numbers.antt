-- The rules that read a number stand at fields of numbers alone.
use Rattle.std.proofs.Common.{◌≡◌, true}
use Rattle.field_table.specs.declared.field.Field.{Field}
use Rattle.field_table.specs.declared.field.Field.TheVariants as fields
use Rattle.field_table.specs.declared.value.Value.{Value}
use Rattle.field_table.specs.Field.{kind, row}
use Rattle.field_table.specs.Value.{is_of, is_number}
use Rattle.field_rules.specs.declared.rule.Rule.TheVariants.{Window, Custom}
use Rattle.field_rules.specs.declared.rule.Zoom.{Zoom}
use Rattle.field_rules.specs.Rules.{rule}

-- the value of the field that a window is written to is a number
pub window_is_number : (f : Field) (v : Value) → rule f ≡ Window → is_of (kind f) v ≡ true → is_number v ≡ true
unfolding row
window_is_number fields.Name v e k = cc
window_is_number fields.Closed v e k = cc
window_is_number fields.ExplicitActive v e k = k
window_is_number fields.CurrentInnerWindowId v e k = k
window_is_number fields.OpenerId v e k = k
window_is_number fields.FullZoom v e k = k
window_is_number fields.TextZoom v e k = k
window_is_number fields.Muted v e k = cc
window_is_number fields.MessageManagerGroup v e k = cc
window_is_number fields.UserAgentOverride v e k = cc
window_is_number fields.AllowContentRetargeting v e k = cc
window_is_number fields.SandboxFlags v e k = k
window_is_number fields.IsInBFCache v e k = cc
window_is_number fields.Loading v e k = cc
window_is_number fields.DefaultLoadFlags v e k = k
window_is_number fields.DisplayMode v e k = k

-- the value of a field that a zoom is written to is a number
pub zoom_is_number : (f : Field) (v : Value) (z : Zoom) → rule f ≡ Custom z → is_of (kind f) v ≡ true → is_number v ≡ true
unfolding row
zoom_is_number fields.Name v z e k = cc
zoom_is_number fields.Closed v z e k = cc
zoom_is_number fields.ExplicitActive v z e k = k
zoom_is_number fields.CurrentInnerWindowId v z e k = k
zoom_is_number fields.OpenerId v z e k = k
zoom_is_number fields.FullZoom v z e k = k
zoom_is_number fields.TextZoom v z e k = k
zoom_is_number fields.Muted v z e k = cc
zoom_is_number fields.MessageManagerGroup v z e k = cc
zoom_is_number fields.UserAgentOverride v z e k = cc
zoom_is_number fields.AllowContentRetargeting v z e k = cc
zoom_is_number fields.SandboxFlags v z e k = k
zoom_is_number fields.IsInBFCache v z e k = cc
zoom_is_number fields.Loading v z e k = cc
zoom_is_number fields.DefaultLoadFlags v z e k = k
zoom_is_number fields.DisplayMode v z e k = k
