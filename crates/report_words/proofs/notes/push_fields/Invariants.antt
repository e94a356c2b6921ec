use Rattle.std.proofs.Common.{◌≡◌, ◌++◌, string_bytes, drop}
use Rattle.std.specs.List.{flat_map}
use Rattle.report_words.specs.Notes.{field_note_text}
use Rattle.report_words.proofs.notes.push_fields.Given as goal

abbrev pub invariant-loop-note : goal.invariant-loop-note
invariant-loop-note l = string_bytes l.out ++ flat_map field_note_text (drop l.note-index l.notes) ≡ string_bytes l.fn.out ++ flat_map field_note_text l.notes
