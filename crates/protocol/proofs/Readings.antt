-- The two readings of a rule meet: over what is kept it comes to what it comes to over the answers, if what a
-- saying makes of what is kept is what it does to the answers.
use Rattle.std.proofs.Common.{◌≡◌, ℕ, zero, suc, ◌==◌, Bool, true, false, if◌then◌else◌, Option, None, Some, List, [], ◌∷◌, refl, ap, sym, subst, ◌∙◌}
use Rattle.std.proofs.Math.Path.{fun_ext}
use Rattle.std.specs.Prelude.{is_some}
use Rattle.std.specs.List.{list_any}
use Rattle.std.specs.Option.{option_map_or}
use Rattle.field_table.specs.declared.field.Field.{Field}
use Rattle.wire_msgs.specs.declared.action.Action.{Action}
use Rattle.wire_msgs.specs.declared.action.ParentAction.{ParentAction}
use Rattle.wire_msgs.specs.declared.answer.Answer.{Answer}
use Rattle.wire_msgs.specs.declared.answer.Answer.TheVariants.{Refused, Ignored, Parts, Ended as EndedBy}
use Rattle.wire_msgs.specs.declared.bundle.UpBundle.{UpBundle}
use Rattle.wire_msgs.specs.declared.bundle.DownBundle.{DownBundle}
use Rattle.wire_msgs.specs.declared.cause.EndCause.{EndCause}
use Rattle.wire_msgs.specs.declared.part.DownPart.{DownPart}
use Rattle.wire_msgs.specs.declared.part.UpPart.{UpPart}
use Rattle.wire_msgs.specs.declared.refusal.Refusal.{Refusal}
use Rattle.protocol.specs.Questions.{Facts}
use Rattle.protocol.specs.FactsAfter.{facts_after}
use Rattle.protocol.specs.Sayings.{Saying}
use Rattle.protocol.specs.Sayings.Saying.{Counted, Sent, Ended}
use Rattle.protocol.specs.Seen.{Seen, Doing}
use Rattle.protocol.specs.Seen.Doing.{Took}
use Rattle.protocol.specs.SeenAfter.{seen_after}
use Rattle.protocol.specs.Fold.{or_later, behind_all, after_parts, first_fault, notes_of, posts_of}
use Rattle.protocol.specs.Hear.{hear_rules}
use Rattle.protocol.specs.Order.{in_order}
use Rattle.protocol.specs.Bundle.{Ruling, is_counted, envelope_fault, is_no_bundle, after_sending, ruling, end_parts, end_ruling, parts_ruling, bundle_ruling}
use Rattle.protocol.specs.ParentActs.{refusal, says, posts, answer, done_ruling, action_ruling}
use Rattle.protocol.specs.OwnActs.{action_step}
use Rattle.protocol.specs.OwnActs as acts
use Rattle.protocol.specs.Take.{Step, bundle_step, take_rules, is_kill}
use Rattle.protocol.proofs.Same.{all_behind, parts_same, fault_same, notes_same, posts_same}

-- ---- the parent

-- a ruling over what is kept is a ruling over the answers
pub record Meets {Kept : Type 0} (facts : Kept → Facts) (r : Ruling Kept) (plain : Ruling Facts) : Type 0 where
  pub answer : r.answer ≡ plain.answer
  pub kept : facts r.kept ≡ plain.kept
  pub sends : r.sends ≡ plain.sends

module _ {Kept : Type 0} (facts : Kept → Facts) (next : Saying → Kept → Kept) (reads : (y : Saying) (s : Kept) → facts (next y s) ≡ facts_after y (facts s)) where
  sending : (n : ℕ) (sends : ℕ → List DownPart) (s : Kept) (f : Facts) → facts s ≡ f → facts (after_sending facts next n sends s) ≡ after_sending (λ g. g) facts_after n sends f
  sending zero sends s f e = e
  sending (suc n) sends s f e = by (is_no_bundle (sends n)) (sending n sends s f e)
    where
      by : (b : Bool) → facts (after_sending facts next n sends s) ≡ after_sending (λ g. g) facts_after n sends f
          → facts (if b then after_sending facts next n sends s else next (Sent n) (after_sending facts next n sends s))
          ≡ (if b then after_sending (λ g. g) facts_after n sends f else facts_after (Sent n) (after_sending (λ g. g) facts_after n sends f))
      by true so = so
      by false so = reads (Sent n) (after_sending facts next n sends s) ∙ ap (facts_after (Sent n)) so

  pub ruling_meets : (n : ℕ) (a b : Answer) (to sends : ℕ → List DownPart) (s : Kept) (f : Facts) → a ≡ b → to ≡ sends → facts s ≡ f
      → Meets facts (ruling facts next n a to s) (ruling (λ g. g) facts_after n b sends f)
  ruling_meets n a b to sends s f same alike e = record {
    answer = same;
    kept = sending n to s f e ∙ ap (λ g. after_sending (λ h. h) facts_after n g f) alike;
    sends = alike;
  }

  -- nothing is sent, nor anything else done
  nothing_meets : (n : ℕ) (a : Answer) (s : Kept) → Meets facts (ruling facts next n a (λ q. []) s) (ruling (λ g. g) facts_after n a (λ q. []) (facts s))
  nothing_meets n a s = ruling_meets n a a (λ q. []) (λ q. []) s (facts s) refl refl refl

  -- ---- a bundle

  module _ (n : ℕ) (allows : Field → Bool) (p : ℕ) where
    end_meets : (cause : EndCause) (s : Kept) (f : Facts) → facts s ≡ f → Meets facts (end_ruling facts next n p cause s) (end_ruling (λ g. g) facts_after n p cause f)
    end_meets cause s f e =
        ruling_meets n (EndedBy cause) (EndedBy cause) (λ q. if q == p then end_parts cause else []) (λ q. if q == p then end_parts cause else []) (next (Ended p cause) s) (facts_after (Ended p cause) f)
        refl refl (reads (Ended p cause) s ∙ ap (facts_after (Ended p cause)) e)

    done_meets : (b : UpBundle) (s : Kept) → Meets facts (parts_ruling facts next n allows p b s) (parts_ruling (λ g. g) facts_after n allows p b (facts s))
    done_meets b s =
        ruling_meets n _ _ _ _ (after_parts (hear_rules allows p p) facts next s b.parts) (after_parts (hear_rules allows p p) (λ g. g) facts_after (facts s) b.parts)
        (ap Parts (notes_same (hear_rules allows p p) facts next facts_after reads b.parts s))
        (fun_ext (λ q. ap in_order (posts_same (hear_rules allows p q) facts next facts_after reads b.parts s)))
        (parts_same (hear_rules allows p p) facts next facts_after reads b.parts s)

    parts_meet : (b : UpBundle) (s : Kept) (f : Facts) → facts s ≡ f → Meets facts (parts_ruling facts next n allows p b s) (parts_ruling (λ g. g) facts_after n allows p b f)
    parts_meet b s f e = subst (λ (g : Facts). Meets facts (parts_ruling facts next n allows p b s) (parts_ruling (λ h. h) facts_after n allows p b g)) e (done_meets b s)

    -- whether a cause is there or not
    either_meets : (b : UpBundle) (s : Kept) (f : Facts) (o u : Option EndCause) → facts s ≡ f → o ≡ u
        → Meets facts (option_map_or (λ cause. end_ruling facts next n p cause s) o (parts_ruling facts next n allows p b s))
        (option_map_or (λ cause. end_ruling (λ g. g) facts_after n p cause f) u (parts_ruling (λ g. g) facts_after n allows p b f))
    either_meets b s f o u e same =
        subst (λ (v : Option EndCause). Meets facts (option_map_or (λ cause. end_ruling facts next n p cause s) o (parts_ruling facts next n allows p b s))
        (option_map_or (λ cause. end_ruling (λ g. g) facts_after n p cause f) v (parts_ruling (λ g. g) facts_after n allows p b f))) same (by o)
      where
        by : (o : Option EndCause) → Meets facts (option_map_or (λ cause. end_ruling facts next n p cause s) o (parts_ruling facts next n allows p b s))
            (option_map_or (λ cause. end_ruling (λ g. g) facts_after n p cause f) o (parts_ruling (λ g. g) facts_after n allows p b f))
        by (Some cause) = end_meets cause s f e
        by None = parts_meet b s f e

    abbrev counted : UpBundle → Kept → Kept
    counted b s = if is_counted (facts s) p b then next (Counted p) s else s

    abbrev plain_counted : UpBundle → Facts → Facts
    plain_counted b f = if is_counted f p b then facts_after (Counted p) f else f

    counted_is : (b : UpBundle) (s : Kept) → facts (counted b s) ≡ plain_counted b (facts s)
    counted_is b s = by (is_counted (facts s) p b)
      where
        by : (v : Bool) → facts (if v then next (Counted p) s else s) ≡ (if v then facts_after (Counted p) (facts s) else facts s)
        by true = reads (Counted p) s
        by false = refl

    pub bundle_meets : (b : UpBundle) (s : Kept) → Meets facts (bundle_ruling facts next n allows p b s) (bundle_ruling (λ g. g) facts_after n allows p b (facts s))
    bundle_meets b s = by (is_some ((facts s).processes.ended p))
      where
        by : (v : Bool) → Meets facts
            (if v then ruling facts next n Ignored (λ q. []) s else option_map_or (λ cause. end_ruling facts next n p cause (counted b s))
            (or_later (envelope_fault (facts s) p b) (first_fault (hear_rules allows p p) facts next 1 (counted b s) b.parts)) (parts_ruling facts next n allows p b (counted b s)))
            (if v then ruling (λ g. g) facts_after n Ignored (λ q. []) (facts s) else option_map_or (λ cause. end_ruling (λ g. g) facts_after n p cause (plain_counted b (facts s)))
            (or_later (envelope_fault (facts s) p b) (first_fault (hear_rules allows p p) (λ g. g) facts_after 1 (plain_counted b (facts s)) b.parts)) (parts_ruling (λ g. g) facts_after n allows p b (plain_counted b (facts s))))
        by true = nothing_meets n Ignored s
        by false =
            either_meets b (counted b s) (plain_counted b (facts s)) _ _ (counted_is b s)
            (ap (or_later (envelope_fault (facts s) p b)) (fault_same (hear_rules allows p p) facts next facts_after reads 1 b.parts (counted b s)
            ∙ ap (λ f. first_fault (hear_rules allows p p) (λ g. g) facts_after 1 f b.parts) (counted_is b s)))

  -- ---- an action of the parent

  done_action_meets : (n : ℕ) (action : ParentAction) (s : Kept) → Meets facts (done_ruling facts next n action s) (done_ruling (λ g. g) facts_after n action (facts s))
  done_action_meets n action s =
      ruling_meets n _ _ _ _ (behind_all next (says (facts s) action) s) (behind_all facts_after (says (facts s) action) (facts s)) refl
      (ap (λ (g : Facts). λ q. in_order (posts (facts s) g action q)) (behind_is)) behind_is
    where
      behind_is : facts (behind_all next (says (facts s) action) s) ≡ behind_all facts_after (says (facts s) action) (facts s)
      behind_is = all_behind facts next facts_after reads (says (facts s) action) s

  pub action_meets : (n : ℕ) (action : ParentAction) (s : Kept) → Meets facts (action_ruling facts next n action s) (action_ruling (λ g. g) facts_after n action (facts s))
  action_meets n action s = by (refusal (facts s) action)
    where
      by : (o : Option Refusal) → Meets facts (option_map_or (λ why. ruling facts next n (Refused why) (λ q. []) s) o (done_ruling facts next n action s))
          (option_map_or (λ why. ruling (λ g. g) facts_after n (Refused why) (λ q. []) (facts s)) o (done_ruling (λ g. g) facts_after n action (facts s)))
      by (Some why) = nothing_meets n (Refused why) s
      by None = done_action_meets n action s

-- ---- a process

-- a step over what is kept is a step over the answers
pub record Agrees {Kept : Type 0} (seen : Kept → Seen) (r : Step Kept) (plain : Step Seen) : Type 0 where
  pub answer : r.answer ≡ plain.answer
  pub kept : seen r.kept ≡ plain.kept
  pub sends : r.sends ≡ plain.sends

module _ {Kept : Type 0} (p : ℕ) (seen : Kept → Seen) (next : Doing → Kept → Kept) (reads : (d : Doing) (s : Kept) → seen (next d s) ≡ seen_after p d (seen s)) where
  -- its own action
  pub own_action_agrees : (action : Action) (s : Kept) → Agrees seen (action_step seen next p action s) (action_step (λ g. g) (seen_after p) p action (seen s))
  own_action_agrees action s = by (acts.refusal p (seen s) action)
    where
      by : (o : Option Refusal) → Agrees seen
          (option_map_or (λ why. record { answer = Refused why; kept = s; sends = [] }) o
          (record { answer = acts.answer p (seen s) action; kept = behind_all next (acts.says p (seen s) action) s; sends = acts.posts p (seen s) action }))
          (option_map_or (λ why. record { answer = Refused why; kept = seen s; sends = [] }) o
          (record { answer = acts.answer p (seen s) action; kept = behind_all (seen_after p) (acts.says p (seen s) action) (seen s); sends = acts.posts p (seen s) action }))
      by (Some why) = record { answer = refl; kept = refl; sends = refl }
      by None = record { answer = refl; kept = all_behind seen next (seen_after p) reads (acts.says p (seen s) action) s; sends = refl }

  -- the take of a bundle
  pub take_agrees : (b : DownBundle) (s : Kept) → Agrees seen (bundle_step seen next p b s) (bundle_step (λ g. g) (seen_after p) p b (seen s))
  take_agrees b s = record {
    answer = ap Parts (notes_same (take_rules p b.epoch.0) seen next (seen_after p) reads b.parts s);
    kept = reads Took (after_parts (take_rules p b.epoch.0) seen next s b.parts) ∙ ap (seen_after p Took) (parts_same (take_rules p b.epoch.0) seen next (seen_after p) reads b.parts s);
    sends = ap (λ us. if list_any is_kill b.parts then [] else us) (posts_same (take_rules p b.epoch.0) seen next (seen_after p) reads b.parts s);
  }
