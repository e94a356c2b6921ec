use Rattle.trees.proofs.Order.{untold_others}
use Rattle.trees.proofs.laws.untold_made_nothing.Goals as goal

pub returns : goal.returns
returns g c = λ look begin h k runs y untold. untold_others look begin k.lawful y h k.flows k.fits untold runs
