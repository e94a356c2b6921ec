-- The entries of the events of a process come one after the other, and one that changes a field as it sends a bundle
-- is later than all before.
use Rattle.std.proofs.Common.{◌≡◌, ℕ, ◌+◌, ◌≤◌, Option, None, Some, List, [], ◌∷◌, ◌++◌, length, sym, subst, ◌∙◌, arith}
use Rattle.std.specs.List.{AllByRecursion, list_any}
use Rattle.fission_ids.specs.declared.context.ContextId.{ContextId}
use Rattle.field_table.specs.declared.field.Field.{Field}
use Rattle.transaction.specs.Transaction.{Changes}
use Rattle.wire_msgs.specs.declared.bundle.DownBundle.{DownBundle}
use Rattle.wire_msgs.specs.declared.bundle.UpBundle.{UpBundle}
use Rattle.wire_msgs.specs.declared.config.Config.{Config}
use Rattle.wire_msgs.specs.declared.note.FieldNote.{FieldNote}
use Rattle.protocol.specs.Bundle.{bundle_for}
use Rattle.protocol.specs.Order.{in_order}
use Rattle.protocol.specs.Sayings.{Saying}
use Rattle.protocol.specs.Take.{is_kill}
use Rattle.traces.specs.Event.Event.{Takes}
use Rattle.traces.specs.Laws.{Apart}
use Rattle.traces.specs.Links.{now}
use Rattle.model.specs.Lines.{Making}
use Rattle.model.specs.Moments.{Moment, ProcessEvent, events_of, facts_now, seen_now, told, heard}
use Rattle.model.specs.Moments.Written.{Own}
use Rattle.model.specs.View as view
use Rattle.model.proofs.Cases.{by_if}
use Rattle.model.proofs.Entry.{IsAck, HeardCommit, Hearing, Entry}
use Rattle.model.proofs.Entry.Entry.{Idle, Sets, Frames, Drops, TakesOne, Tells, Killing, HearsOne}
use Rattle.model.proofs.Entry.Hearing.{AsMade, AsLate, AsDrop, AsOldDrop, AsAcks, AsCommit, AsOldCommit, AsOver}
use Rattle.model.proofs.FieldFacts.{heard_accepts, heard_reverts}
use Rattle.model.proofs.Stages.{acks_posted, by_acks}

module _ (c : Config) (p : ℕ) (mk : List Making) (x : ContextId) (fld : Field) (ms : List Moment) (m : Moment) (apart_before : Apart (view.look x fld mk) (events_of p ms)) (now_before : now (events_of p ms) ≤ length ms) where
  pub record EntryNext (es : List ProcessEvent) : Type 0 where
    pub apart : Apart (view.look x fld mk) (es ++ events_of p ms)
    pub now_is : now (es ++ events_of p ms) ≤ length ms + 1

  told_entry : (ys : List Saying) (o : Option DownBundle) → EntryNext (told (length ms + 1) ys o ∷ [])
  told_entry ys None = record { apart = apart_before; now_is = omega arith }
  told_entry ys (Some d) = record { apart = ((λ some. omega (arith, now_before)), apart_before); now_is = omega arith }

  commit_entry : (u : UpBundle) (y : ContextId) (d : Changes) (ns : List FieldNote) (back : Option DownBundle) → HeardCommit c p ms m u y d ns back → (o : Option DownBundle) → m.events p ≡ heard (length ms + 1) (Own u) m.answer m.says o → EntryNext (m.events p)
  commit_entry u y d ns back is None events = subst EntryNext (sym (events ∙ heard_accepts (length ms + 1) (Own u) m.answer m.says is.done)) (record { apart = apart_before; now_is = omega arith })
  commit_entry u y d ns back is (Some g) events = subst EntryNext (sym (events ∙ heard_reverts (length ms + 1) (Own u) m.answer m.says g is.done)) (record { apart = apart_before; now_is = omega arith })

  hears_entry : (u : UpBundle) → Hearing c p ms m u → EntryNext (m.events p)
  hears_entry u (AsMade y a is) = subst EntryNext (sym is.events) (record { apart = apart_before; now_is = omega arith })
  hears_entry u (AsLate y a d is) = subst EntryNext (sym is.events) (record { apart = apart_before; now_is = omega arith })
  hears_entry u (AsDrop y is) = subst EntryNext (sym is.events) (record { apart = apart_before; now_is = omega arith })
  hears_entry u (AsOldDrop y is) = subst EntryNext (sym is.events) (record { apart = apart_before; now_is = omega arith })
  hears_entry u (AsAcks is) = subst EntryNext (sym is.events) (record { apart = apart_before; now_is = omega arith })
  hears_entry u (AsCommit y d ns back is) = commit_entry u y d ns back is back is.events
  hears_entry u (AsOldCommit y d is) = subst EntryNext (sym is.events) (record { apart = apart_before; now_is = omega arith })
  hears_entry u (AsOver is) = subst EntryNext (sym is.events) (record { apart = apart_before; now_is = omega arith })

  pub entry_next : Entry c p ms m → EntryNext (m.events p)
  entry_next (Idle is) = subst EntryNext (sym is.events) (record { apart = apart_before; now_is = omega (arith, now_before) })
  entry_next (Sets y d u is) = subst EntryNext (sym is.events) (record { apart = apart_before; now_is = omega (arith, now_before) })
  entry_next (Frames a u is) = subst EntryNext (sym is.events) (record { apart = apart_before; now_is = omega (arith, now_before) })
  entry_next (Drops y u is) = subst EntryNext (sym is.events) (record { apart = apart_before; now_is = omega (arith, now_before) })
  entry_next (TakesOne d rest is) = subst EntryNext (sym is.events)
      (by_acks (λ es. EntryNext (es ++ Takes d ∷ [])) (seen_now c p (m ∷ ms)) _ (by_if (AllByRecursion IsAck) (list_any is_kill d.content.parts) [] _ (λ kill. tt) (λ lives. acks_posted p d.content.epoch.0 _ _ d.content.parts []))
      (record { apart = apart_before; now_is = omega (arith, now_before) }) (λ u plain. record { apart = apart_before; now_is = omega (arith, now_before) }))
  entry_next (Tells posts is) = subst EntryNext (sym is.events) (told_entry m.says (bundle_for (facts_now c (m ∷ ms)) p (in_order posts)))
  entry_next (Killing d is) = subst EntryNext (sym is.events) (record { apart = ((λ some. omega (arith, now_before)), apart_before); now_is = omega arith })
  entry_next (HearsOne u rest first hears) = hears_entry u hears
