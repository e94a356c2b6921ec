use Rattle.std.proofs.Common.{◌∙◌, ap}
use Rattle.field_table.specs.Table.{Table}
use Rattle.context_store.specs.Content.{obsolete_fields, stored_after_overlay}
use Rattle.context_store.proofs.Entries.{Entry}
use Rattle.context_store.proofs.Records.{obsolete-told, fields-overlaid}
use Rattle.context_store.proofs.list_store.Listed.overlay.Goals as goal

pub returns-clause-whole : goal.returns-clause-whole
returns-clause-whole c =
    let made : Table → Entry = λ fields. (c.self.inside.context, record { fields = fields; epochs = c.self.inside.epochs }) in
    let all : Entry → Entry = λ l. (l.0, stored_after_overlay c.args.t c.args.e l.1) in
    ap made (fields-overlaid c.args.t c.args.e _ _ _ c.self.inside.epochs c.modified-modified.ensures.whole c.obsolete-obsolete.ensures.whole _ _ _ c.minus.ensures.whole c.keep.ensures.whole c.apply.ensures.whole)
    ∙ ap all c.self.view_is

pub returns-clause-obsolete : goal.returns-clause-obsolete
returns-clause-obsolete c =
    obsolete-told c.args.t c.args.e _ _ c.self.inside.fields c.self.inside.epochs c.modified-modified.ensures.whole c.obsolete-obsolete.ensures.whole
    ∙ ap (λ (l : Entry). obsolete_fields c.args.t c.args.e l.1) c.self.view_is
