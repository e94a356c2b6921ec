use Rattle.std.proofs.Common.{◌∙◌, sym, refl}
use Rattle.match_pattern.proofs.Spelled.{host_here, path_here}
use Rattle.match_pattern.proofs.spelling.Spelling.of.Goals as goal

pub returns-clause-host : goal.returns-clause-host
returns-clause-host c = host_here c.args.text.now c.in_ok-scheme_len.scheme_len (sym c.find.ensures.place ∙ c.in_ok-scheme_len.was) _ refl c.slash_in-host_len.result c.slash_in-host_len.ensures.place

pub returns-clause-path : goal.returns-clause-path
returns-clause-path c = path_here c.args.text.now c.in_ok-scheme_len.scheme_len (sym c.find.ensures.place ∙ c.in_ok-scheme_len.was) _ refl c.slash_in-host_len.result c.slash_in-host_len.ensures.place
