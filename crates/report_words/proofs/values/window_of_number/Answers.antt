use Rattle.report_words.proofs.Numbered.{window_numbered-is}
use Rattle.report_words.proofs.values.window_of_number.Goals as goal

pub returns : goal.returns
returns c = window_numbered-is c.args.n c.of_number.result c.of_number.ensures.cases
