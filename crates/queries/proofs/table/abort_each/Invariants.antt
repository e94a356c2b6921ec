use Rattle.fission_ids.specs.declared.outcome.Outcome.TheVariants.{Aborted}
use Rattle.queries.specs.Row.{is_of}
use Rattle.queries.proofs.Lists.{MappedTo}
use Rattle.queries.proofs.Rows.{settled_if}
use Rattle.queries.proofs.table.abort_each.Given as goal

abbrev pub invariant-loop-row : goal.invariant-loop-row
invariant-loop-row l = MappedTo (settled_if (is_of l.w) Aborted) l.row-index l.rows l.fn.rows
