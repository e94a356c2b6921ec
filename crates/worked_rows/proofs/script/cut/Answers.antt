use Rattle.std.proofs.lemmas.Str.Pattern.{split_text_parts}
use Rattle.worked_rows.proofs.script.cut.Goals as goal

pub returns-clause-found : goal.returns-clause-found
returns-clause-found c = split_text_parts c.args.mark.now c.args.text.now c.split_once.result c.split_once.ensures.cases
