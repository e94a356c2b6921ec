use Rattle.std.proofs.Common.{take, ◌∙◌, ap}
use Rattle.std.specs.List.{prefix_len}
use Rattle.match_pattern.specs.Reading.{break_behind, is_name_byte}
use Rattle.match_pattern.proofs.Lists.{take_at_most}
use Rattle.match_pattern.proofs.reading.name_break.Goals as goal

pub returns-clause-place : goal.returns-clause-place
returns-clause-place c =
    c.break_behind.ensures.place
    ∙ ap (λ n. break_behind n c.args.name.now)
    (c.name_len.ensures.count
    ∙ ap (λ k. prefix_len is_name_byte (take k c.args.name.now)) c.min-most.ensures
    ∙ ap (prefix_len is_name_byte) (take_at_most 253 c.args.name.now))
