use Rattle.std.proofs.Common.{◌≡◌, ◌++◌, ◌-◌, length, string_bytes}
use Rattle.std.specs.List.{flat_map}
use Rattle.protocol.specs.Start.{numbers}
use Rattle.parent_core.specs.Parent.{facts_of}
use Rattle.report.specs.Views.{process_line}
use Rattle.report.proofs.views.push_process_lines.Given as goal

abbrev pub invariant-loop-p : goal.invariant-loop-p
invariant-loop-p l =
    let line = process_line l.parent.config (facts_of l.parent) in
    string_bytes l.out ++ flat_map line (numbers l.p (length l.parent.config.types - l.p)) ≡ string_bytes l.fn.out ++ flat_map line (numbers 0 (length l.parent.config.types))
