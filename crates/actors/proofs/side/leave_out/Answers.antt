use Rattle.std.proofs.Common.{not, rules}
use Rattle.std.proofs.lemmas.Fn.{filter_same}
use Rattle.fission_ids.specs.declared.query.QueryId.{QueryId}
use Rattle.fission_ids.specs.declared.window.WindowId.{WindowId}
use Rattle.actors.specs.Side.{is_held_as}
use Rattle.actors.proofs.side.leave_out.Goals as goal

pub returns : goal.returns
returns c = filter_same _ (λ (h : QueryId × WindowId). not (is_held_as c.args.q h)) _ (λ h b f r. search rules) _ _ c.retain.ensures.filtered
