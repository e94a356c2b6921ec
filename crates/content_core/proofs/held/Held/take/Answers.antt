use Rattle.std.proofs.Common.{◌∙◌, ap, subst, List}
use Rattle.wire_msgs.specs.declared.part.DownPart.{DownPart}
use Rattle.content_core.specs.Held.{kept_of, TakesParts}
use Rattle.content_core.specs.Steps.{sends_of}
use Rattle.content_core.proofs.Folding.{moved-taken}
use Rattle.content_core.proofs.held.Held.take.Goals as goal

pub returns : goal.returns
returns c =
    moved-taken (kept_of c.args.self) (kept_of c.take_parts.new.self) c.args.bundle c.in_ok-notes.notes c.in_ok-sends.sends c.moved.result
    (subst (λ (parts : List DownPart). TakesParts parts c.args.bundle.epoch.0 c.in_ok-notes.notes (kept_of c.args.self) (kept_of c.take_parts.new.self)) c.as_slice.ensures c.in_ok-notes.ensures)
    (c.in_ok-sends.ensures ∙ ap sends_of c.as_slice-2.ensures) c.moved.ensures.core c.moved.ensures.answer c.moved.ensures.sent
