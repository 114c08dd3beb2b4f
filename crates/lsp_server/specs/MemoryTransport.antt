-- What the transport in memory tells.
use Rattle.std.specs.Prelude.{◌≡◌, ℕ, List, Option, Some, drop, map}
use Rattle.lsp_server.specs.declared.memory_transport.MemoryTransport.{MemoryTransport}
use Rattle.lsp_server.specs.Reads.{Moment}
use Rattle.lsp_server.specs.ReadAt.{moment_at}

-- all its bytes, those read among them
abbrev pub all_bytes : MemoryTransport → List ℕ
all_bytes t = t.bytes.items

abbrev pub bytes_left : MemoryTransport → Option (List ℕ)
bytes_left t = Some (drop t.at t.bytes.items)

abbrev pub bytes_taken : MemoryTransport → List ℕ
bytes_taken t = t.taken.items

abbrev pub bytes_flushed : MemoryTransport → ℕ
bytes_flushed t = t.flushed

-- how many bytes a read gives at most
abbrev pub read_size : MemoryTransport → ℕ
read_size t = t.piece

abbrev pub reads_failed : MemoryTransport → ℕ
reads_failed t = t.faults

-- what stood as each read was made
abbrev pub reads_made : MemoryTransport → List Moment
reads_made t = map (moment_at t.bytes.items t.taken.items) t.reads.items

-- what no write and no flush changes
pub record KeepsReads (old new : MemoryTransport) : Type 0 where
  pub all : all_bytes new ≡ all_bytes old
  pub left : bytes_left new ≡ bytes_left old
  pub reads : reads_made new ≡ reads_made old
  pub piece : read_size new ≡ read_size old
  pub faults : reads_failed new ≡ reads_failed old
