-- The exit status of what a run came to.
use Rattle.std.specs.Prelude.{ℕ, Result, Ok, Err, ⊤}
use Rattle.report.specs.declared.fault.ReportFault.{ReportFault}
use Rattle.report.specs.declared.fault.ReportFault.TheVariants.{Failed, OutOfMemory}
use Rattle.fission_play.specs.declared.failure.Failure.{Failure}
use Rattle.fission_play.specs.declared.failure.Failure.TheVariants as failures

-- why a report wasn't written whole, by the fault in writing it
abbrev pub failure_of : ReportFault → Failure
failure_of Failed = failures.WriteFault
failure_of OutOfMemory = failures.Memory

abbrev pub code_of : Result ⊤ Failure → ℕ
code_of (Ok done) = 0
code_of (Err failures.Memory) = 1
code_of (Err failures.Words) = 2
code_of (Err failures.Unread) = 3
code_of (Err (failures.Shape place)) = 4
code_of (Err failures.TooLarge) = 5
code_of (Err failures.ReadFault) = 6
code_of (Err failures.WriteFault) = 7
