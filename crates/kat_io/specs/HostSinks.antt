-- A sink over a writer of the host.
use Rattle.std.specs.Prelude.{None}
use Rattle.kat_io.specs.declared.host.HostSink.{HostSink}
use Rattle.kat_io.specs.Seen.{SinkSeen}

-- the writer that a sink was made of
abbrev pub writer_of : {W : Type 0} → HostSink W → W
writer_of sink = sink.writer

-- what is seen of such a sink: it does not tell its contents
abbrev pub seen_writer : {W : Type 0} → HostSink W → SinkSeen
seen_writer sink = record { contents = None; faults = sink.faults }
