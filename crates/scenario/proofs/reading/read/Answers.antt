use Rattle.scenario.proofs.FitsReading.{reading_fits}
use Rattle.scenario.proofs.reading.read.Goals as goal

pub returns-clause-fits : goal.returns-clause-fits
returns-clause-fits c = reading_fits c.args.bytes.now c.whole.result c.whole.ensures
