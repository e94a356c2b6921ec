use Rattle.std.proofs.Common.{◌∙◌, ap}
use Rattle.content_core.specs.Content.{seen_of}
use Rattle.content_core.specs.Held.{kept_of}
use Rattle.content_core.proofs.Acting.{why_not, refusal-set}
use Rattle.content_core.proofs.held.Held.refusal.Goals as goal

pub returns-in-Set : goal.returns-in-Set
returns-in-Set c =
    c.set_refusal.ensures
    ∙ ap (why_not c.args.self.now.process.0 (seen_of (kept_of c.args.self.now)) c.in-Set.context) c.get.ensures
    ∙ refusal-set c.args.self.now.process.0 (seen_of (kept_of c.args.self.now)) c.args.action.now c.in-Set.context c.in-Set.fields c.in-Set.is c.if-not-self.false
