use Rattle.std.proofs.Common.{◌∙◌}
use Rattle.content_core.specs.Content.{seen_of}
use Rattle.content_core.specs.Held.{kept_of}
use Rattle.content_core.proofs.Acting.{set-held, moved-set}
use Rattle.content_core.proofs.held.Held.set.Goals as goal

pub write-requires-clause-held : goal.write-requires-clause-held
write-requires-clause-held c = set-held c.args.self.process.0 (seen_of (kept_of c.args.self)) c.args.x c.args.change c.requires.allowed

pub returns : goal.returns
returns c =
    moved-set (kept_of c.args.self) (kept_of c.write.new.self) c.args.x c.in_ok-parts.parts c.moved.result c.moved.ensures.core c.moved.ensures.sent
    c.in_ok-t.t c.args.change (c.in_ok-t.ensures ∙ c.get.ensures) c.write.ensures c.moved.ensures.answer c.in_ok-parts.ensures
