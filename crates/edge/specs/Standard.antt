-- Sources and sinks over the readers and writers of std.
use Rattle.std.specs.Prelude.{ℕ, List, take, Result, MatchResult}
use Rattle.std.specs.declared.option.Option.{Option}
use Rattle.std.specs.Io.KnownBytes.{Appends}
use Rattle.edge.specs.declared.standard.StdSink.{StdSink}
use Rattle.edge.specs.declared.standard.StdSource.{StdSource}
use Rattle.edge.specs.Pieces.{Begins}

abbrev pub reader_of : {R : Type 0} → StdSource R → R
reader_of source = source.inner

-- the faults that the source answered
abbrev pub source_faults : {R : Type 0} → StdSource R → ℕ
source_faults source = source.faults

abbrev pub writer_of : {W : Type 0} → StdSink W → W
writer_of sink = sink.inner

-- the faults that the sink answered
abbrev pub sink_faults : {W : Type 0} → StdSink W → ℕ
sink_faults sink = sink.faults

-- at Ok(n) the first n bytes went on, and at Err a front of the bytes
abbrev pub GoesOn : {E : Type 0} → Option (List ℕ) → Option (List ℕ) → Result ℕ E → List ℕ → Type 0
GoesOn old new result bytes =
    MatchResult result (λ n. Appends old new (take n bytes)) (λ _. Begins old new bytes)
