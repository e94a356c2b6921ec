use Rattle.std.proofs.Common.{◌≡◌, Bool, true, false, if◌then◌else◌, Option, refl, ap, ◌∙◌}
use Rattle.std.specs.Option.{option_copied}
use Rattle.field_table.specs.declared.value.Value.{Value}
use Rattle.protocol.specs.Seen.{Seen}
use Rattle.model.specs.Moments.{moments_of, seen_now}
use Rattle.model.specs.Next.{Run}
use Rattle.model.specs.View.{view, is_honest}
use Rattle.report.proofs.writing.process_shows.Goals as goal

either_shown : (b : Bool) (now seen last : Option Value) → now ≡ last → (b ≡ true → now ≡ seen) → now ≡ (if b then seen else last)
either_shown true now seen last other honest = honest refl
either_shown false now seen last other honest = other

pub returns : goal.returns
returns c =
    let w : Run = c.args.world.now in
    let p = c.args.p.0 in
    let x = c.args.context in
    let f = c.args.field in
    either_shown (is_honest w.config p w.journal) (option_copied c.field.result) (view w.config p x f w.journal) ((seen_now w.config p (moments_of w.config w.journal)).value x f)
    (c.field.ensures ∙ ap (λ (s : Seen). s.value x f) c.in_ok-content.ensures.answers)
    (λ honest. c.field.ensures ∙ c.in_ok-content.ensures.shows honest x f)
