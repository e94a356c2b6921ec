use Rattle.std.proofs.Common.{◌∙◌, sym}
use Rattle.match_pattern.proofs.Leftmost.{left_behind, left_nowhere}
use Rattle.match_pattern.proofs.glob.behind_piece.Goals as goal

pub returns-clause-left : goal.returns-clause-left
returns-clause-left c =
    left_behind c.args.pattern.now c.args.text.now c.args.at c.in-Some.start c.requires.place c.requires.within (sym c.find.ensures.place ∙ c.in-Some.is)

pub returns-in_default-clause-left : goal.returns-in_default-clause-left
returns-in_default-clause-left c =
    left_nowhere c.args.pattern.now c.args.text.now c.args.at c.requires.place c.requires.within (sym c.find.ensures.place ∙ c.in_default.is)
