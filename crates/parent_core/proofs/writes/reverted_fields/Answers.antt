use Rattle.std.proofs.Common.{◌∙◌, sym, Bool}
use Rattle.field_table.specs.declared.field.Field.{Field}
use Rattle.field_table.proofs.FieldSets.{none_of, all_of, some_more_in, some_more_out}
use Rattle.field_rules.specs.RuleBounds.{bounds_of}
use Rattle.parent_core.specs.Writes.{is_reverted_in}
use Rattle.parent_core.proofs.writes.reverted_fields.Goals as goal
use Rattle.parent_core.proofs.writes.reverted_fields.Goals.{then-is_reverted_in, else-is_reverted_in}

pub loop-f-init : goal.loop-f-init
loop-f-init g c = none_of (is_reverted_in (bounds_of c.args.rules.now) c.args.p.0 c.args.x c.args.top c.args.owns c.args.t.now)

pub loop-f-preserved : goal.loop-f-preserved
loop-f-preserved g c =
    let p : Field → Bool = is_reverted_in (bounds_of c.args.rules.now) c.args.p.0 c.args.x c.args.top c.args.owns c.args.t.now in
    elim c.if-is_reverted_in.branch [
      | then-is_reverted_in w ↦ some_more_in p c.loop-f.f-index _ _ _ c.loop-f-test.true c.loop-f.invariant (sym c.is_reverted_in.ensures ∙ w.if-is_reverted_in.true) (w.reverted-is ∙ w.with-reverted.ensures.whole)
      | else-is_reverted_in w ↦ some_more_out p c.loop-f.f-index _ _ _ c.loop-f-test.true c.loop-f.invariant (sym c.is_reverted_in.ensures ∙ w.if-is_reverted_in.false) w.reverted-is
    ]

pub returns : goal.returns
returns g c =
    c.loop-f.invariant
    ∙ all_of (is_reverted_in (bounds_of c.args.rules.now) c.args.p.0 c.args.x c.args.top c.args.owns c.args.t.now) c.loop-f.f-index c.loop-f-test.false
