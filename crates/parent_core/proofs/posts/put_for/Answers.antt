use Rattle.std.proofs.Common.{Bool, ◌∷◌, [], if◌then◌else◌, ap, sym, ◌∙◌}
use Rattle.wire_msgs.specs.declared.part.DownPart.{DownPart}
use Rattle.protocol.specs.Order.{parts_with, parts_with_all}
use Rattle.parent_core.proofs.Sends.{put_none, put_one}
use Rattle.parent_core.proofs.posts.put_for.Goals as goal

pub returns-in_ok-put : goal.returns-in_ok-put
returns-in_ok-put c =
    let part = c.args.a.now.part in
    let old = c.args.parts.now.items in
    c.in_ok-put.ensures ∙ ap (λ (d : DownPart). parts_with d old) (c.in_ok-copy.ensures ∙ c.part.ensures) ∙ sym (put_one part old)
    ∙ ap (λ (b : Bool). parts_with_all (if b then part ∷ [] else []) old) (sym c.if-is_for.true ∙ c.is_for.ensures)

pub returns-else-is_for : goal.returns-else-is_for
returns-else-is_for c =
    let old = c.args.parts.now.items in
    sym (put_none old) ∙ ap (λ (b : Bool). parts_with_all (if b then c.args.a.now.part ∷ [] else []) old) c.if-is_for.ensures
