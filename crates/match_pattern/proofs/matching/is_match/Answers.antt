use Rattle.std.proofs.Common.{◌∙◌, sym, ap}
use Rattle.match_pattern.specs.Reading.{is_known_scheme}
use Rattle.match_pattern.proofs.Faults.{all_match, parts_match, separator_there, same_parts}
use Rattle.match_pattern.proofs.matching.is_match.Goals as goal

pub returns-then-is_all_urls : goal.returns-then-is_all_urls
returns-then-is_all_urls c =
    c.is_known_scheme.ensures
    ∙ ap is_known_scheme (c.as_bytes.ensures.value ∙ c.scheme.ensures.value)
    ∙ sym (all_match c.args.pattern.now c.args.u.now (sym c.is_all_urls.ensures ∙ c.if-is_all_urls.true))

pub unreachable-requires : goal.unreachable-requires
unreachable-requires c =
    separator_there c.args.pattern.now c.as_bytes-2.result.now c.as_bytes-2.ensures.value c.requires
    (sym c.is_all_urls.ensures ∙ c.if-is_all_urls.false) c.in_default.ensures.scheme_len

pub returns : goal.returns
returns c =
    c.fits_parts.ensures
    ∙ same_parts c.args.pattern.now c.as_bytes-2.result.now c.in-Some.parts.scheme.now c.in-Some.parts.host.now c.in-Some.parts.path.now c.args.u.now
    c.as_bytes-2.ensures.value c.in-Some.ensures.scheme c.in-Some.ensures.host c.in-Some.ensures.path
    ∙ sym (parts_match c.args.pattern.now c.args.u.now (sym c.is_all_urls.ensures ∙ c.if-is_all_urls.false))
