-- The parent hears another process: whatever bundle that sent, the process is told what was said, or nothing was.
use Rattle.std.proofs.Common.{◌≡◌, ℕ, ◌<◌, ◌==◌, Bool, true, false, if◌then◌else◌, Option, None, Some, is_some, List, [], ◌∷◌, length, refl, ap, sym, ◌∙◌}
use Rattle.std.specs.Option.{option_map_or}
use Rattle.field_table.specs.declared.field.Field.{Field}
use Rattle.wire_msgs.specs.declared.answer.Answer.TheVariants as answers
use Rattle.wire_msgs.specs.declared.answer.Answer.TheVariants.{Refused}
use Rattle.wire_msgs.specs.declared.refusal.Refusal.TheVariants.{Empty}
use Rattle.wire_msgs.specs.declared.bundle.UpBundle.{UpBundle}
use Rattle.wire_msgs.specs.declared.cause.EndCause.{EndCause}
use Rattle.wire_msgs.specs.declared.config.Config.{Config}
use Rattle.protocol.specs.Sayings.{Saying}
use Rattle.protocol.specs.Sayings.Saying.{Counted, Ended}
use Rattle.protocol.specs.Fold.{or_later, after_parts, first_fault, notes_of, posts_of}
use Rattle.protocol.specs.Hear.{hear_rules}
use Rattle.protocol.specs.Order.{in_order}
use Rattle.protocol.specs.Bundle.{Ruling, end_parts, end_ruling, parts_ruling, bundle_ruling, envelope_fault, is_counted}
use Rattle.model.specs.Moments.{Moment, Written, said, only_answer, heard_moment}
use Rattle.model.specs.Moments.Written.{Own, Raw}
use Rattle.model.specs.Parent.{asked, ended}
use Rattle.model.proofs.Cases.{by_if}
use Rattle.model.proofs.Entry.{Entry}
use Rattle.model.proofs.Entry.Entry.{Idle}
use Rattle.model.proofs.Entry.Posted.{OnePosted}
use Rattle.model.proofs.ClassifySending.{Tellable, eqb_swapped}
use Rattle.model.proofs.ClassifyTold.{by_option, hear_moment, facts_behind, ruling_behind, hear_tells, nothing_tells, nothing_in_order, all_parts}

module _ (c : Config) (allows : Field → Bool) (p q : ℕ) (ms : List Moment) (w : Written) (other : (q == p) ≡ false) (low : q < 16) where
  -- what the entry is, by its ruling
  abbrev IsEntry : Ruling (List Saying) → Type 0
  IsEntry rule = Entry c p ms (hear_moment c q ms w rule)

  other_ended : (n : ℕ) (cause : EndCause) (ys : List Saying) → Tellable c p (said ms) ys [] → IsEntry (end_ruling (facts_behind c ms) (λ y says. y ∷ says) n q cause ys)
  other_ended n cause ys t =
      hear_tells c p q ms w n (answers.Ended cause) (λ r. if r == q then end_parts cause else []) (Ended q cause ∷ ys) [] (eqb_swapped q p other)
      (record { fits = (low, t.fits); plain = (tt, t.plain); posted = OnePosted (Ended q cause) ys [] [] t.posted other refl })
      (ap (λ (b : Bool). if b then end_parts cause else []) (eqb_swapped q p other) ∙ sym nothing_in_order)

  other_done : (n : ℕ) (b : UpBundle) (ys : List Saying) → Tellable c p (said ms) ys [] → first_fault (hear_rules allows q q) (facts_behind c ms) (λ y says. y ∷ says) 1 ys b.parts ≡ None
      → IsEntry (parts_ruling (facts_behind c ms) (λ y says. y ∷ says) n allows q b ys)
  other_done n b ys t clear =
      hear_tells c p q ms w n (answers.Parts (notes_of (hear_rules allows q q) (facts_behind c ms) (λ y says. y ∷ says) ys b.parts))
      (λ r. in_order (posts_of (hear_rules allows q r) (facts_behind c ms) (λ y says. y ∷ says) ys b.parts))
      (after_parts (hear_rules allows q q) (facts_behind c ms) (λ y says. y ∷ says) ys b.parts)
      (posts_of (hear_rules allows q p) (facts_behind c ms) (λ y says. y ∷ says) ys b.parts) (eqb_swapped q p other)
      (all_parts c allows q p (said ms) other 1 b.parts ys [] clear t) refl

  later_none : {A : Type 0} (o r : Option A) → or_later o r ≡ None → r ≡ None
  later_none None r e = e
  later_none (Some a) r e = absurd cc

  other_runs : (n : ℕ) (b : UpBundle) (ys : List Saying) → Tellable c p (said ms) ys []
      → IsEntry (option_map_or (λ cause. end_ruling (facts_behind c ms) (λ y says. y ∷ says) n q cause ys)
      (or_later (envelope_fault (asked c.tabs (said ms)) q b) (first_fault (hear_rules allows q q) (facts_behind c ms) (λ y says. y ∷ says) 1 ys b.parts))
      (parts_ruling (facts_behind c ms) (λ y says. y ∷ says) n allows q b ys))
  other_runs n b ys t =
      by_option IsEntry (λ cause. end_ruling (facts_behind c ms) (λ y says. y ∷ says) n q cause ys)
      (or_later (envelope_fault (asked c.tabs (said ms)) q b) (first_fault (hear_rules allows q q) (facts_behind c ms) (λ y says. y ∷ says) 1 ys b.parts))
      (parts_ruling (facts_behind c ms) (λ y says. y ∷ says) n allows q b ys)
      (λ cause e. other_ended n cause ys t)
      (λ e. other_done n b ys t (later_none (envelope_fault (asked c.tabs (said ms)) q b) (first_fault (hear_rules allows q q) (facts_behind c ms) (λ y says. y ∷ says) 1 ys b.parts) e))

  counted_tells : (v : Bool) → Tellable c p (said ms) (if v then Counted q ∷ [] else []) []
  counted_tells true = record { fits = (tt, tt); plain = (tt, tt); posted = OnePosted (Counted q) [] [] [] (nothing_tells c p (said ms)).posted other refl }
  counted_tells false = nothing_tells c p (said ms)

  pub other_heard : (n : ℕ) (b : UpBundle) → IsEntry (bundle_ruling (facts_behind c ms) (λ y says. y ∷ says) n allows q b [])
  other_heard n b =
      by_if IsEntry (is_some (ended q (said ms))) (ruling_behind c ms n answers.Ignored (λ r. []) [])
      (option_map_or (λ cause. end_ruling (facts_behind c ms) (λ y says. y ∷ says) n q cause (if is_counted (asked c.tabs (said ms)) q b then Counted q ∷ [] else []))
      (or_later (envelope_fault (asked c.tabs (said ms)) q b) (first_fault (hear_rules allows q q) (facts_behind c ms) (λ y says. y ∷ says) 1 (if is_counted (asked c.tabs (said ms)) q b then Counted q ∷ [] else []) b.parts))
      (parts_ruling (facts_behind c ms) (λ y says. y ∷ says) n allows q b (if is_counted (asked c.tabs (said ms)) q b then Counted q ∷ [] else [])))
      (λ over. hear_tells c p q ms w n answers.Ignored (λ r. []) [] [] (eqb_swapped q p other) (nothing_tells c p (said ms)) (sym nothing_in_order))
      (λ runs. other_runs n b (if is_counted (asked c.tabs (said ms)) q b then Counted q ∷ [] else []) (counted_tells (is_counted (asked c.tabs (said ms)) q b)))

-- nothing happens
pub idle : (c : Config) (p : ℕ) (ms : List Moment) (m : Moment) → m.says ≡ [] → m.did p ≡ [] → m.events p ≡ [] → Entry c p ms m
idle c p ms m says did events = Idle (record { says = says; did = did; events = events })

pub other_hears : (c : Config) (p q : ℕ) (ms : List Moment) (allows : Field → Bool) (ws : List Written) → (q == p) ≡ false → q < 16 → Entry c p ms (heard_moment c q ms allows ws)
other_hears c p q ms allows [] other low = idle c p ms (only_answer (Refused Empty)) refl refl refl
other_hears c p q ms allows (Own b ∷ rest) other low = other_heard c allows p q ms (Own b) other low (length c.types) b
other_hears c p q ms allows (Raw b ∷ rest) other low = other_heard c allows p q ms (Raw b) other low (length c.types) b
other_hears c p q ms allows (_ ∷ rest) other low = idle c p ms (only_answer (Refused Empty)) refl refl refl
