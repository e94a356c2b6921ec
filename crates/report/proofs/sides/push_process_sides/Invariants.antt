use Rattle.std.proofs.Common.{◌≡◌, ◌++◌, ◌-◌, length, string_bytes}
use Rattle.std.specs.List.{flat_map}
use Rattle.protocol.specs.Start.{numbers}
use Rattle.report.specs.Report.{process_side_text}
use Rattle.report.proofs.sides.push_process_sides.Given as goal

abbrev pub invariant-loop-p : goal.invariant-loop-p
invariant-loop-p l =
    let line = process_side_text l.world in
    string_bytes l.out ++ flat_map line (numbers l.p (length l.world.config.types - l.p)) ≡ string_bytes l.fn.out ++ flat_map line (numbers 0 (length l.world.config.types))
