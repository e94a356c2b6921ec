use Rattle.report_words.proofs.Numbered.{context_numbered-is}
use Rattle.report_words.proofs.values.context_of_number.Goals as goal

pub returns : goal.returns
returns c = context_numbered-is c.args.n c.of_number.result c.of_number.ensures.cases
