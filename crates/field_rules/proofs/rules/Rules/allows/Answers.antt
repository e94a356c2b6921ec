use Rattle.std.proofs.Common.{sym}
use Rattle.field_rules.proofs.Numbers.{window_is_number}
use Rattle.field_rules.proofs.rules.Rules.allows.Goals as goal

pub has_window-requires : goal.has_window-requires
has_window-requires g c = window_is_number _ _ (sym c.in-Window.ensures) c.requires.kind
