-- What the numbers of a read that was made say of the bytes.
use Rattle.std.specs.Prelude.{ℕ, List, Bool, take, drop, Some, nat_le}
use Rattle.lsp_server.specs.declared.memory_transport.ReadAt.{ReadAt}
use Rattle.lsp_server.specs.Reads.{Moment, moment}

-- no more had been taken than so many bytes
abbrev pub is_within : ℕ → ReadAt → Bool
is_within n r = nat_le r.taken n

-- what stood then, where these are the bytes to read and those taken
abbrev pub moment_at : List ℕ → List ℕ → ReadAt → Moment
moment_at bytes taken r = moment (Some (drop r.read bytes)) (Some (take r.taken taken)) (Some r.flushed)
