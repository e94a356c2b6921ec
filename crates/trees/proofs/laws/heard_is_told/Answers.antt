use Rattle.trees.proofs.Order.{wrote_told}
use Rattle.trees.proofs.laws.heard_is_told.Goals as goal

pub returns : goal.returns
returns g c = λ look begin w h k runs first x moves. wrote_told look begin k.lawful x w h k.flows k.fits runs first moves
