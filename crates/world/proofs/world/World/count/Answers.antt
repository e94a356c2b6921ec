use Rattle.world.proofs.world.World.count.Goals as goal

pub returns-clause-few : goal.returns-clause-few
returns-clause-few c = rw (c.len.ensures, c.config.ensures) c.self.invariant.fits.config.few
