use Rattle.trees.proofs.Siblings.{one_owner}
use Rattle.trees.proofs.laws.children_have_one_owner.Goals as goal

pub returns : goal.returns
returns g c = λ look begin h k runs x y is live. one_owner look begin k.lawful x y is h k.fits runs live
