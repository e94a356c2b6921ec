use Rattle.std.proofs.Common.{◌≡◌, ◌++◌, codes, string_bytes, drop}
use Rattle.std.specs.List.{flat_map}
use Rattle.report_words.specs.Pieces.{after_blank}
use Rattle.report_words.specs.Notes.{note_text}
use Rattle.report_words.proofs.answers.parts_words.Given as goal

abbrev pub invariant-loop-note : goal.invariant-loop-note
invariant-loop-note l = string_bytes l.out ++ flat_map (λ note. after_blank (note_text note)) (drop l.note-index l.notes) ≡ codes "ok" ++ flat_map (λ note. after_blank (note_text note)) l.notes
