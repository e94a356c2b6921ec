use Rattle.std.proofs.Common.{sym}
use Rattle.field_rules.proofs.Numbers.{window_is_number, zoom_is_number}
use Rattle.field_rules.proofs.ask.denied.Goals as goal

pub has_window-requires : goal.has_window-requires
has_window-requires c = window_is_number _ _ (sym c.in-Window.ensures) c.requires

pub number_in-requires : goal.number_in-requires
number_in-requires c = zoom_is_number _ _ _ (sym c.in-Custom.ensures) c.requires
