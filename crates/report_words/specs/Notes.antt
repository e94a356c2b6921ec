-- What became of the parts of a bundle, as it is written.
use Rattle.std.specs.Prelude.{ℕ, List, [], ◌∷◌, ◌++◌, codes}
use Rattle.std.specs.List.{flat_map}
use Rattle.std.specs.Fmt.{decimal}
use Rattle.fission_ids.specs.Ids.{context_text, window_text, query_text, group_text}
use Rattle.field_table.specs.Field.{name}
use Rattle.wire_msgs.specs.declared.note.Mark.{Mark}
use Rattle.wire_msgs.specs.declared.note.Mark.TheVariants as marks
use Rattle.wire_msgs.specs.declared.note.FieldMark.{FieldMark}
use Rattle.wire_msgs.specs.declared.note.FieldMark.TheVariants.{Applied, Obsolete, Reverted}
use Rattle.wire_msgs.specs.declared.note.FieldNote.{FieldNote}
use Rattle.wire_msgs.specs.declared.note.LoadMark.{LoadMark}
use Rattle.wire_msgs.specs.declared.note.LoadMark.TheVariants as loads
use Rattle.wire_msgs.specs.declared.note.AskMark.{AskMark}
use Rattle.wire_msgs.specs.declared.note.AskMark.TheVariants as asks
use Rattle.wire_msgs.specs.declared.note.PartNote.{PartNote}
use Rattle.wire_msgs.specs.declared.note.PartNote.TheVariants.{Create, Drop, Ack, Window, Gone, Commit}
use Rattle.wire_msgs.specs.declared.note.PartNote.TheVariants.{CommitIgnored, Load, Ask, Tell, Reply}
use Rattle.wire_msgs.specs.declared.note.PartNote.TheVariants.{Register, Discard, Close, Kill}
use Rattle.report_words.specs.Pieces.{text_of_pieces, process_text}

-- what became of a part, behind a blank; of one that was done nothing is said
unfoldable pub mark_text : Mark → List ℕ
mark_text marks.Done = []
mark_text marks.Late = codes " late"
mark_text marks.Ignored = codes " ignored"

-- what became of a field
unfoldable pub field_mark_text : FieldMark → List ℕ
field_mark_text Applied = codes "a"
field_mark_text Obsolete = codes "o"
field_mark_text Reverted = codes "r"

-- a field of a commit and what became of it, behind a blank
unfoldable pub field_note_text : FieldNote → List ℕ
field_note_text note =
    text_of_pieces (codes " " ∷ name note.field ∷ codes "=" ∷ field_mark_text note.mark ∷ [])

-- what became of a load
unfoldable pub load_mark_text : LoadMark → List ℕ
load_mark_text (loads.Target p) = process_text p
load_mark_text (loads.Opened w) = window_text w
load_mark_text (loads.Refused number) = codes "refused " ++ decimal number
load_mark_text loads.Ignored = codes "ignored"

-- what became of a query
unfoldable pub ask_mark_text : AskMark → List ℕ
ask_mark_text asks.Reply = codes "reply"
ask_mark_text asks.Reject = codes "reject"
ask_mark_text asks.Hold = codes "hold"
ask_mark_text asks.Ignore = codes "ignore"

-- what became of a part
unfoldable pub note_text : PartNote → List ℕ
note_text (Create x mark) = text_of_pieces (codes "create " ∷ context_text x ∷ mark_text mark ∷ [])
note_text (Drop x mark) = text_of_pieces (codes "drop " ∷ context_text x ∷ mark_text mark ∷ [])
note_text (Ack x) = codes "ack " ++ context_text x
note_text (Window w mark) = text_of_pieces (codes "window " ∷ window_text w ∷ mark_text mark ∷ [])
note_text (Gone w mark) = text_of_pieces (codes "gone " ∷ window_text w ∷ mark_text mark ∷ [])
note_text (Commit x notes) =
    text_of_pieces (codes "commit " ∷ context_text x ∷ flat_map field_note_text notes ∷ [])
note_text (CommitIgnored x) = text_of_pieces (codes "commit " ∷ context_text x ∷ codes " ignored" ∷ [])
note_text (Load x mark) =
    text_of_pieces (codes "load " ∷ context_text x ∷ codes " " ∷ load_mark_text mark ∷ [])
note_text (Ask q mark) = text_of_pieces (codes "ask " ∷ query_text q ∷ codes " " ∷ ask_mark_text mark ∷ [])
note_text (Tell w actor mark) =
    text_of_pieces (codes "tell " ∷ window_text w ∷ codes " " ∷ actor ∷ mark_text mark ∷ [])
note_text (Reply q mark) = text_of_pieces (codes "reply " ∷ query_text q ∷ mark_text mark ∷ [])
note_text (Register g) = codes "register " ++ group_text g
note_text (Discard x) = codes "discard " ++ context_text x
note_text (Close x mark) = text_of_pieces (codes "close " ∷ context_text x ∷ mark_text mark ∷ [])
note_text Kill = codes "kill"
