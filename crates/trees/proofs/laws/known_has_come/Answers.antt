use Rattle.trees.proofs.Taking.{known_came}
use Rattle.trees.proofs.laws.known_has_come.Goals as goal

pub returns : goal.returns
returns g c = λ look begin h k runs x known new. known_came look begin k.lawful x h k.fits runs known new
