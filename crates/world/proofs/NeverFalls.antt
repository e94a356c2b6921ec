-- What no entry lowers, many entries don't lower.
use Rattle.std.proofs.Common.{◌≡◌, ℕ, ◌<◌, ◌≤◌, true, List, [], ◌∷◌, ◌++◌, length, sym, subst, arith}
use Rattle.std.specs.List.{AllByRecursion}
use Rattle.fission_ids.specs.declared.context.ContextId.{ContextId}
use Rattle.field_table.specs.declared.field.Field.{Field}
use Rattle.field_rules.specs.Bounds.{Bounds}
use Rattle.wire_msgs.specs.declared.config.Config.{Config}
use Rattle.wire_msgs.specs.Config.{ConfigFits}
use Rattle.journal.specs.Step.{StepFits}
use Rattle.journal.specs.declared.entry.Entry.{Entry}
use Rattle.protocol.specs.Outside.{told_allowed}
use Rattle.traces.specs.Event.Event.{Writes}
use Rattle.model.specs.Journal.{Journal, steps_of}
use Rattle.model.specs.Laws.{RunFits}
use Rattle.model.specs.Moments.{ProcessEvent, events_of, moment, moments_of}
use Rattle.model.specs.Moments.Written.{Own, Raw, Said}
use Rattle.model.specs.Next.{Run, run_with}
use Rattle.model.specs.Settling.{settled}
use Rattle.model.specs.View.{base, point, all_own, is_honest}
use Rattle.model.proofs.Rounds.{goes_settled}
use Rattle.model.proofs.RoundsGoes.{Goes}
use Rattle.model.proofs.FieldLaws.{never_fall}

-- neither the base nor the point of an honest process fell from one journal to another
pub record None_fell (c : Config) (old new : Journal) : Type 0 where
  pub base : (p : ℕ) (x : ContextId) (f : Field) → p < length c.types → is_honest c p new ≡ true → base c p x f old ≤ base c p x f new
  pub point : (p : ℕ) (x : ContextId) (f : Field) → p < length c.types → is_honest c p new ≡ true → point c p x f old ≤ point c p x f new

-- what is honest behind further events was so before them
honest_before : (new h : List ProcessEvent) → all_own (new ++ h) ≡ true → all_own h ≡ true
honest_before [] h own = own
honest_before (Writes (Raw b) ∷ new) h own = absurd cc
honest_before (Writes (Own b) ∷ new) h own = honest_before new h own
honest_before (Writes (Said says) ∷ new) h own = honest_before new h own
honest_before (_ ∷ new) h own = honest_before new h own

still_honest : (c : Config) (e : Entry) (j : Journal) (p : ℕ) → is_honest c p (e ∷ j) ≡ true → is_honest c p j ≡ true
unfolding moments_of
still_honest c e j p own = honest_before ((moment c (moments_of c j) (told_allowed e.answer) e.step).events p) (events_of p (moments_of c j)) own

pub none_fell : (c : Config) (old added : Journal) → ConfigFits c → AllByRecursion (StepFits (length c.types)) (steps_of (added ++ old)) → None_fell c old (added ++ old)
none_fell c old [] config steps = record { base = λ p x f lt own. omega arith; point = λ p x f lt own. omega arith }
none_fell c old (e ∷ added) config steps =
    let before : None_fell c old (added ++ old) = none_fell c old added config steps.1 in
    let r : Run = record { config = c; journal = added ++ old } in
    let fits : RunFits (run_with r e) = record { config = config; steps = steps } in
    record {
      base = λ p x f lt own. omega (arith, before.base p x f lt (still_honest c e (added ++ old) p own), (never_fall r e p x f fits lt own).0);
      point = λ p x f lt own. omega (arith, before.point p x f lt (still_honest c e (added ++ old) p own), (never_fall r e p x f fits lt own).1);
    }

-- neither the base nor the point of an honest process fell from one run to another
pub record Fell_nowhere (old new : Run) : Type 0 where
  pub base : (p : ℕ) (x : ContextId) (f : Field) → p < length old.config.types → is_honest new.config p new.journal ≡ true → base old.config p x f old.journal ≤ base new.config p x f new.journal
  pub point : (p : ℕ) (x : ContextId) (f : Field) → p < length old.config.types → is_honest new.config p new.journal ≡ true → point old.config p x f old.journal ≤ point new.config p x f new.journal

-- so settling lowers none
pub settled_none_fell : (b : Bounds) (r : Run) → RunFits r → Fell_nowhere r (settled b r)
settled_none_fell b r fits =
    let goes : Goes r (settled b r) = goes_settled b r fits in
    let steps : AllByRecursion (StepFits (length r.config.types)) (steps_of (settled b r).journal) =
    subst (λ (c : Config). AllByRecursion (StepFits (length c.types)) (steps_of (settled b r).journal)) goes.config goes.fits.steps in
    let none : None_fell r.config r.journal (settled b r).journal = subst (None_fell r.config r.journal) (sym goes.extends.is)
    (none_fell r.config r.journal goes.extends.added fits.config (subst (λ (j : Journal). AllByRecursion (StepFits (length r.config.types)) (steps_of j)) goes.extends.is steps)) in
    subst (λ (c : Config). Fell_nowhere r (record { config = c; journal = (settled b r).journal })) (sym goes.config) (record { base = none.base; point = none.point })
