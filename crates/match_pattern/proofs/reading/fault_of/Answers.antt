use Rattle.std.proofs.Common.{◌∙◌, sym}
use Rattle.match_pattern.proofs.Faults.{no_fault_of_all_urls, fault_without_separator, fault_of_other_scheme, fault_in_host, fault_in_path, fault_nowhere}
use Rattle.match_pattern.proofs.reading.fault_of.Goals as goal

pub returns-then-is_all_urls : goal.returns-then-is_all_urls
returns-then-is_all_urls c = sym (no_fault_of_all_urls c.args.text.now (sym c.is_all_urls.ensures ∙ c.if-is_all_urls.true))

pub returns-in_default : goal.returns-in_default
returns-in_default c =
    sym (fault_without_separator c.args.text.now c.as_bytes.result.now c.as_bytes.ensures.value
    (sym c.is_all_urls.ensures ∙ c.if-is_all_urls.false) c.in_default.ensures.scheme_len)

pub returns-then-not-is_scheme : goal.returns-then-not-is_scheme
returns-then-not-is_scheme c =
    sym (fault_of_other_scheme c.args.text.now c.as_bytes.result.now c.in-Some.parts.scheme.now c.as_bytes.ensures.value
    (sym c.is_all_urls.ensures ∙ c.if-is_all_urls.false) c.in-Some.ensures.scheme_len c.in-Some.ensures.scheme
    (sym c.is_scheme.ensures ∙ c.if-not-is_scheme.true))

pub returns-in-Some-host_break : goal.returns-in-Some-host_break
returns-in-Some-host_break c =
    sym (fault_in_host c.args.text.now c.as_bytes.result.now c.in-Some.parts.scheme.now c.as_bytes.ensures.value
    (sym c.is_all_urls.ensures ∙ c.if-is_all_urls.false) c.in-Some.ensures.scheme_len c.in-Some.ensures.scheme
    (sym c.is_scheme.ensures ∙ c.if-not-is_scheme.false)
    c.in-Some.parts.host.now c.in-Some.ensures.host c.in-Some-host_break.at (sym c.host_break.ensures.place ∙ c.in-Some-host_break.is))

pub returns-in-None : goal.returns-in-None
returns-in-None c =
    sym (fault_nowhere c.args.text.now c.as_bytes.result.now c.in-Some.parts.scheme.now c.as_bytes.ensures.value
    (sym c.is_all_urls.ensures ∙ c.if-is_all_urls.false) c.in-Some.ensures.scheme_len c.in-Some.ensures.scheme
    (sym c.is_scheme.ensures ∙ c.if-not-is_scheme.false)
    c.in-Some.parts.host.now c.in-Some.ensures.host
    c.in-Some.parts.path.now c.in-Some.ensures.path (sym c.host_break.ensures.place ∙ c.in_default-host_break.is)
    (sym c.path_break.ensures.place ∙ c.in-None.is))

pub returns-in-Some-path_break : goal.returns-in-Some-path_break
returns-in-Some-path_break c =
    sym (fault_in_path c.args.text.now c.as_bytes.result.now c.in-Some.parts.scheme.now c.as_bytes.ensures.value
    (sym c.is_all_urls.ensures ∙ c.if-is_all_urls.false) c.in-Some.ensures.scheme_len c.in-Some.ensures.scheme
    (sym c.is_scheme.ensures ∙ c.if-not-is_scheme.false)
    c.in-Some.parts.host.now c.in-Some.ensures.host
    c.in-Some.parts.path.now c.in-Some.ensures.path (sym c.host_break.ensures.place ∙ c.in_default-host_break.is)
    c.in-Some-path_break.at (sym c.path_break.ensures.place ∙ c.in-Some-path_break.is))
