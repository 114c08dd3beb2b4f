-- The arguments of the program, and how it ends.
use Rattle.std.specs.Prelude.{◌≡◌, ◌<◌, ◌≤◌, ◌⊎◌, ◌+◌, ◌-◌, ◌^◌, ℕ, ◌&&◌, List, [], ◌∷◌, length, nat_le, if◌then◌else◌, Option, Some, None, IfSome, option_and_then, map, String, string_bytes}
use Rattle.std.specs.declared.alloc.Global.{Global}
use Rattle.lsp_server.specs.SourceSink.{CountRose, IsFlushed}
use Rattle.lsp_server.specs.Served.{CallBytes}
use Rattle.lsp_program.specs.Number.{number_of}
use Rattle.lsp_relay.specs.Relay.{IsRelayed}

-- a number from 1 to 64
abbrev pub up_to_64 : ℕ → Option ℕ
up_to_64 n = if nat_le 1 n && nat_le n 64 then Some n else None

abbrev pub editors_of : List ℕ → Option ℕ
editors_of argument = option_and_then up_to_64 (number_of argument)

-- one such argument
abbrev pub editors_in : List (List ℕ) → Option ℕ
editors_in [] = None
editors_in (argument ∷ []) = editors_of argument
editors_in (argument ∷ more ∷ arguments) = None

-- how many editors the arguments ask for
abbrev pub editors_asked : List (String Global) → Option ℕ
editors_asked arguments = editors_in (map string_bytes arguments)

-- all bytes were relayed, with some counts
pub record HasRelayed (editors : ℕ) (call : CallBytes) : Type 0 where
  pub passed : ℕ
  pub dropped : ℕ
  pub relayed : IsRelayed editors call passed dropped

-- the arguments ask for editors, over a source that tells its bytes: this holds of their number and these bytes
abbrev pub WhereRelaying : List (String Global) → Option (List ℕ) → (ℕ → List ℕ → Type 0) → Type 0
WhereRelaying arguments left P = IfSome (editors_asked arguments) (λ editors. IfSome left (P editors))

-- what the exit status tells of a source and a sink: what was written is flushed, and each failure has its cause and is told
pub record StatusTells {I O : Type 0} (left_of : I → Option (List ℕ)) (read_faults_of : I → ℕ) (taken_of : O → Option (List ℕ)) (flushed_of : O → Option ℕ) (faults_of : O → ℕ) (source source_after : I) (sink sink_after : O) (status : ℕ) : Type 0 where
  pub flushed : (status ≡ 0) ⊎ (status ≡ 3) ⊎ (status ≡ 5) → IsFlushed (taken_of sink) (flushed_of sink) → IsFlushed (taken_of sink_after) (flushed_of sink_after)
  pub read : status ≡ 3 → CountRose (read_faults_of source) (read_faults_of source_after)
  pub write : status ≡ 4 → CountRose (faults_of sink) (faults_of sink_after)
  pub spent : status ≡ 5 → IfSome (left_of source) (λ bytes. IfSome (left_of source_after) (λ rest. 2 ^ 64 - 1 + length rest ≤ length bytes))
  pub read_told : read_faults_of source < read_faults_of source_after → status ≡ 3
  pub write_told : faults_of sink < faults_of sink_after → status ≡ 4
