use Rattle.std.proofs.lemmas.Str.Pattern.{strip_prefix_char}
use Rattle.fission_ids.proofs.numbers.after_letter.Goals as goal

pub returns : goal.returns
returns c = strip_prefix_char c.args.letter c.args.text.now c.strip_prefix.result c.strip_prefix.ensures.cases c.requires
