-- What a library over the system's files and a sink over a writer count.
use Rattle.std.specs.Prelude.{ℕ}
use Rattle.enc_base.specs.declared.host.HostLibrary.{HostLibrary}
use Rattle.enc_base.specs.declared.host.HostSink.{HostSink}

-- how often it was read
abbrev pub reads_of : {R A B C : Type 0} → HostLibrary R A B C → ℕ
reads_of library = library.reads

-- how often a read failed
abbrev pub library_faults_of : {R A B C : Type 0} → HostLibrary R A B C → ℕ
library_faults_of library = library.faults

-- how often a write failed
abbrev pub sink_faults_of : {W : Type 0} → HostSink W → ℕ
sink_faults_of sink = sink.faults

-- the writer that it holds
abbrev pub writer_of : {W : Type 0} → HostSink W → W
writer_of sink = sink.to
