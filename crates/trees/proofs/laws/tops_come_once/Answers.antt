use Rattle.trees.proofs.Taking.{first_new}
use Rattle.trees.proofs.laws.tops_come_once.Goals as goal

pub returns : goal.returns
returns g c = λ look begin d h k runs first x other top comes. first_new look begin k.lawful x other top d h k.flows k.fits runs first comes
