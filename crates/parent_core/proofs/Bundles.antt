-- The ruling of a whole bundle, by what the parent finds of it in turn.
use Rattle.std.proofs.Common.{◌≡◌, ℕ, ◌<◌, ◌≤◌, Bool, true, false, if◌then◌else◌, Option, None, Some, List, [], length, refl, sym, ap, ap₂, subst, ◌∙◌}
use Rattle.std.specs.Prelude.{is_some}
use Rattle.std.specs.Option.{option_map_or}
use Rattle.field_table.specs.declared.field.Field.{Field}
use Rattle.wire_msgs.specs.declared.answer.Answer.{Answer}
use Rattle.wire_msgs.specs.declared.answer.Answer.TheVariants.{Ignored, Parts}
use Rattle.wire_msgs.specs.declared.bundle.UpBundle.{UpBundle}
use Rattle.wire_msgs.specs.declared.cause.EndCause.{EndCause}
use Rattle.wire_msgs.specs.declared.part.DownPart.{DownPart}
use Rattle.wire_msgs.specs.declared.note.PartNote.{PartNote}
use Rattle.wire_msgs.specs.declared.part.UpPart.{UpPart}
use Rattle.protocol.specs.Questions.{Facts, Processes}
use Rattle.protocol.specs.Sayings.Saying.{Counted}
use Rattle.protocol.specs.Fold.{or_later, after_parts, first_fault, posts_of}
use Rattle.protocol.specs.FactsAfter.{facts_after}
use Rattle.protocol.specs.Hear.{hear_rules}
use Rattle.protocol.specs.Order.{in_order}
use Rattle.protocol.specs.Bundle.{Ruling, is_counted, envelope_fault, end_ruling, parts_ruling, bundle_ruling}
use Rattle.parent_core.specs.Parent.{Kept, facts_of}
use Rattle.parent_core.specs.Posts.{Posted, bundle_parts, sent_to}
use Rattle.parent_core.specs.Ruled.{RuledBy}
use Rattle.parent_core.specs.Heard.{PartsDone}
use Rattle.parent_core.specs.declared.hearing.PartsHeard.{PartsHeard}
use Rattle.parent_core.specs.declared.ruled.Ruled.{Ruled}
use Rattle.parent_core.proofs.Folding.{later_none, parts_keep}
use Rattle.parent_core.proofs.Sends.{plain_ruling, ruled_quiet, ruled_from, ruled_by}

-- ---- the epoch

-- the answers behind the epoch of a bundle, which is recorded if it counts
abbrev pub counted_facts : Facts → ℕ → UpBundle → Facts
counted_facts f p b = if is_counted f p b then facts_after (Counted p) f else f

-- that changes neither the ends nor how many bundles were sent
counted_sent : (b : Bool) (p q : ℕ) (f : Facts) → (if b then facts_after (Counted p) f else f).processes.bundles_sent q ≡ f.processes.bundles_sent q
unfolding facts_after
counted_sent true p q f = refl
counted_sent false p q f = refl

counted_ended : (b : Bool) (p q : ℕ) (f : Facts) → (if b then facts_after (Counted p) f else f).processes.ended q ≡ f.processes.ended q
unfolding facts_after
counted_ended true p q f = refl
counted_ended false p q f = refl

pub still_counts : (bound : ℕ) (b : Bool) (p : ℕ) (f g : Facts) → g ≡ (if b then facts_after (Counted p) f else f) → ((q : ℕ) → f.processes.bundles_sent q < bound) → (q : ℕ) → g.processes.bundles_sent q < bound
still_counts bound b p f g is below q = subst (λ (n : ℕ). n < bound) (sym (ap (λ (h : Facts). h.processes.bundles_sent q) is ∙ counted_sent b p q f)) (below q)

pub still_runs : (b : Bool) (p : ℕ) (f g : Facts) → g ≡ (if b then facts_after (Counted p) f else f) → f.processes.ended p ≡ None → g.processes.ended p ≡ None
still_runs b p f g is runs = ap (λ (h : Facts). h.processes.ended p) is ∙ counted_ended b p p f ∙ runs

-- behind the parts too
pub parts_count : (bound : ℕ) (allows : Field → Bool) (p : ℕ) (f g : Facts) (parts : List UpPart) → g ≡ after_parts (hear_rules allows p p) (λ f. f) facts_after f parts
    → ((q : ℕ) → f.processes.bundles_sent q < bound) → (q : ℕ) → g.processes.bundles_sent q < bound
parts_count bound allows p f g parts is below q =
    subst (λ (n : ℕ). n < bound) (sym (ap (λ (h : Facts). h.processes.bundles_sent q) is ∙ ap (λ (ps : Processes). ps.bundles_sent q) (parts_keep allows p f parts))) (below q)

-- ---- the whole

module _ (before : Kept) (allows : Field → Bool) (p : ℕ) (b : UpBundle) where
  -- the rule of the whole bundle
  abbrev pub whole_ruling : Ruling Facts
  whole_ruling = bundle_ruling (λ f. f) facts_after (length before.config.types) allows p b (facts_of before)

  abbrev pub counted : Facts
  counted = counted_facts (facts_of before) p b

  -- why it ends its sender
  abbrev pub whole_fault : Option EndCause
  whole_fault = or_later (envelope_fault (facts_of before) p b) (first_fault (hear_rules allows p p) (λ f. f) facts_after 1 counted b.parts)

  -- of a process that was ended nothing is heard
  pub ruled_ended : (cause : EndCause) (r : Ruled) → Some cause ≡ (facts_of before).processes.ended p → r ≡ record { core = before; answer = Ignored; sent = [] } → RuledBy before whole_ruling r
  ruled_ended cause r e is =
      let n = length before.config.types in
      let rest : Ruling Facts = option_map_or (λ why. end_ruling (λ g. g) facts_after n p why counted) whole_fault (parts_ruling (λ g. g) facts_after n allows p b counted) in
      subst (RuledBy before whole_ruling) (sym is)
      (subst (λ (rl : Ruling Facts). RuledBy before rl (record { core = before; answer = Ignored; sent = [] }))
      (ap (λ (o : Option EndCause). if is_some o then plain_ruling n Ignored (λ q. []) (facts_of before) else rest) e) (ruled_quiet before Ignored))

  module _ (k : Kept) (runs : (facts_of before).processes.ended p ≡ None) (config : k.config ≡ before.config) (facts : facts_of k ≡ counted) where
    whole_is : (o : Option EndCause) → o ≡ whole_fault
        → option_map_or (λ why. end_ruling (λ g. g) facts_after (length k.config.types) p why (facts_of k)) o (parts_ruling (λ g. g) facts_after (length k.config.types) allows p b (facts_of k)) ≡ whole_ruling
    whole_is o e =
        let n = length before.config.types in
        let by : ℕ → Facts → Option EndCause → Ruling Facts =
        λ m f why. option_map_or (λ c. end_ruling (λ g. g) facts_after m p c f) why (parts_ruling (λ g. g) facts_after m allows p b f) in
        ap₂ (λ c f. by (length c.types) f o) config facts ∙ ap (by n counted) e
        ∙ sym (ap (λ (o : Option EndCause). if is_some o then plain_ruling n Ignored (λ q. []) (facts_of before) else by n counted whole_fault) runs)

    -- a cause ends the sender
    pub ruled_cause : (cause : EndCause) (r : Ruled) → Some cause ≡ whole_fault
        → RuledBy k (end_ruling (λ g. g) facts_after (length k.config.types) p cause (facts_of k)) r → RuledBy before whole_ruling r
    ruled_cause cause r e ruled = ruled_from before k whole_ruling r config (subst (λ (rl : Ruling Facts). RuledBy k rl r) (whole_is (Some cause) e) ruled)

    -- without one the parts are done
    pub ruled_parts : (r : Ruled) → None ≡ whole_fault
        → RuledBy k (parts_ruling (λ g. g) facts_after (length k.config.types) allows p b (facts_of k)) r → RuledBy before whole_ruling r
    ruled_parts r e ruled = ruled_from before k whole_ruling r config (subst (λ (rl : Ruling Facts). RuledBy k rl r) (whole_is None e) ruled)

    pub faultless_envelope : None ≡ whole_fault → envelope_fault (facts_of before) p b ≡ None
    faultless_envelope e = (later_none (envelope_fault (facts_of before) p b) (first_fault (hear_rules allows p p) (λ f. f) facts_after 1 counted b.parts) (sym e)).0

    pub faultless_parts : None ≡ whole_fault → first_fault (hear_rules allows p p) (λ f. f) facts_after 1 (facts_of k) b.parts ≡ None
    faultless_parts e =
        ap (λ (f : Facts). first_fault (hear_rules allows p p) (λ f. f) facts_after 1 f b.parts) facts
        ∙ (later_none (envelope_fault (facts_of before) p b) (first_fault (hear_rules allows p p) (λ f. f) facts_after 1 counted b.parts) (sym e)).1

-- ---- the parts

-- what is posted of the parts is sent
pub ruled_heard : (k : Kept) (allows : Field → Bool) (p : ℕ) (b : UpBundle) (heard : PartsHeard) (a : Answer) (posted : List Posted) (r : Ruled) → length k.config.types ≤ 16
    → PartsDone allows p b.parts k heard → a ≡ Parts heard.notes.items → posted ≡ heard.posts.items
    → RuledBy heard.core (plain_ruling (length heard.core.config.types) a (bundle_parts posted) (facts_of heard.core)) r
    → RuledBy k (parts_ruling (λ f. f) facts_after (length k.config.types) allows p b (facts_of k)) r
ruled_heard k allows p b heard a posted r few done answer is ruled =
    let n = length k.config.types in
    let f : Facts = facts_of k in
    let behind : Facts = after_parts (hear_rules allows p p) (λ f. f) facts_after f b.parts in
    let sends : ℕ → List DownPart = λ q. in_order (posts_of (hear_rules allows p q) (λ f. f) facts_after f b.parts) in
    subst (λ (ms : List PartNote). RuledBy k (plain_ruling n (Parts ms) sends behind) r) done.notes
    (subst (λ (c : Answer). RuledBy k (plain_ruling n c sends behind) r) answer
    (ruled_by k heard.core a posted sends behind r few done.config done.facts
    (λ q lt. ap in_order (ap (λ (ps : List Posted). sent_to ps q) is ∙ done.posts q lt)) ruled))
