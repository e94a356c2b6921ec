-- Why a step was refused, and why a process was ended, as they are written.
use Rattle.std.specs.Prelude.{ℕ, List, [], ◌∷◌, ◌++◌, codes}
use Rattle.std.specs.Fmt.{decimal}
use Rattle.fission_ids.specs.declared.any_id.AnyId.{AnyId}
use Rattle.fission_ids.specs.declared.any_id.AnyId.TheVariants.{Context, Window, Query}
use Rattle.fission_ids.specs.declared.why.Why.{Why}
use Rattle.fission_ids.specs.declared.why.Why.TheVariants.{Unregistered, Subframe, RemoteType, Group, Address}
use Rattle.fission_ids.specs.Ids.{context_text, window_text, query_text}
use Rattle.wire_msgs.specs.declared.cause.EndCause.{EndCause}
use Rattle.wire_msgs.specs.declared.cause.EndCause.TheVariants as causes
use Rattle.wire_msgs.specs.declared.refusal.Counted.{Counted}
use Rattle.wire_msgs.specs.declared.refusal.Counted.TheVariants.{Groups, Contexts, Loads}
use Rattle.wire_msgs.specs.declared.refusal.Refusal.{Refusal}
use Rattle.wire_msgs.specs.declared.refusal.Refusal.TheVariants.{NoProcess, Stopped, NoContext, NotMine}
use Rattle.wire_msgs.specs.declared.refusal.Refusal.TheVariants.{Denied, NoWindow, NoActor, NoQuery, Empty}
use Rattle.wire_msgs.specs.declared.refusal.Refusal.TheVariants.{NoGroup, TooMany, NotTop}
use Rattle.report_words.specs.Pieces.{text_of_pieces, after_blank, names_text}

-- ---- refusals

-- the number of a refusal
abbrev pub refusal_number : Refusal → ℕ
refusal_number NoProcess = 1
refusal_number Stopped = 2
refusal_number NoContext = 3
refusal_number NotMine = 4
refusal_number (Denied fields) = 5
refusal_number NoWindow = 6
refusal_number (NoActor why) = 7
refusal_number NoQuery = 8
refusal_number Empty = 9
refusal_number NoGroup = 10
refusal_number (TooMany what most) = 11
refusal_number NotTop = 12

-- why no actor was admitted
unfoldable pub why_text : Why → List ℕ
why_text Unregistered = codes "unregistered"
why_text Subframe = codes "subframe"
why_text RemoteType = codes "remotetype"
why_text Group = codes "group"
why_text Address = codes "address"

-- what there were too many of
unfoldable pub counted_text : Counted → List ℕ
counted_text Groups = codes "groups"
counted_text Contexts = codes "contexts"
counted_text Loads = codes "loads"

-- what stands behind the number of a refusal
unfoldable pub detail_text : Refusal → List ℕ
detail_text NoProcess = []
detail_text Stopped = []
detail_text NoContext = []
detail_text NotMine = []
detail_text (Denied fields) = names_text fields
detail_text NoWindow = []
detail_text (NoActor why) = after_blank (why_text why)
detail_text NoQuery = []
detail_text Empty = []
detail_text NoGroup = []
detail_text (TooMany what most) =
    text_of_pieces (codes " " ∷ counted_text what ∷ codes " " ∷ decimal most ∷ [])
detail_text NotTop = []

-- a refusal by its number, and what it says further
unfoldable pub refusal_text : Refusal → List ℕ
refusal_text why = text_of_pieces (codes "refused " ∷ decimal (refusal_number why) ∷ detail_text why ∷ [])

-- ---- causes

-- an id of any kind
unfoldable pub id_text : AnyId → List ℕ
id_text (Context x) = context_text x
id_text (Window w) = window_text w
id_text (Query q) = query_text q

-- why a process was ended
unfoldable pub cause_text : EndCause → List ℕ
cause_text (causes.Denied x fields) =
    text_of_pieces (codes "denied " ∷ context_text x ∷ names_text fields ∷ [])
cause_text (causes.BadEpoch said due) =
    text_of_pieces (codes "badepoch " ∷ decimal said.0 ∷ codes " " ∷ decimal due.0 ∷ [])
cause_text (causes.BadStamp said sent) =
    text_of_pieces (codes "badstamp " ∷ decimal said ∷ codes " " ∷ decimal sent ∷ [])
cause_text (causes.BadId id) = codes "badid " ++ id_text id
cause_text (causes.BadPart number) = codes "badpart " ++ decimal number
cause_text causes.Failed = codes "failed"
cause_text causes.Killed = codes "killed"
