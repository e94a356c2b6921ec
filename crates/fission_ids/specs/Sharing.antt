-- Texts that are shared.
use Rattle.std.specs.Prelude.{ℕ, List, [], Option, None, Some}
use Rattle.std.specs.Arc.{arc_str_bytes}
use Rattle.std.specs.declared.sync.ArcStr.{ArcStr}

-- the bytes of a text that is shared, or of none
abbrev pub shared_bytes : {Z : Type 0} → Option (ArcStr Z) → List ℕ
shared_bytes None = []
shared_bytes (Some text) = arc_str_bytes text
