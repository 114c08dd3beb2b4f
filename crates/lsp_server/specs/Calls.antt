-- What reads, writes and flushes come to, as the sources and sinks of this crate say it.
use Rattle.std.specs.Prelude.{◌≡◌, ◌<◌, ◌≤◌, ◌+◌, ◌↔◌, ℕ, List, length, take, Option, Result, IfOk, OnOk, OnErr, IsErrOf, Contains}
use Rattle.std.specs.Io.KnownBytes.{Consumes, Appends, Keeps}
use Rattle.lsp_server.specs.declared.sink.Refused.{Refused}
use Rattle.lsp_server.specs.declared.sink.Refused.TheVariants.{Failed, NoMemory}
use Rattle.lsp_server.specs.SourceSink.{CountRose, ReadsEnd, Flushes}
use Rattle.lsp_server.specs.Memory.{number_after}

-- ---- sources

-- a read into this piece gives what stands first in what is left, and none only at the end; a failed one takes nothing
pub record GivesBytes {S E : Type 0} (left_of : S → Option (List ℕ)) (old new : S) (piece : List ℕ) (result : Result ℕ E) : Type 0 where
  pub within : IfOk result (λ n. n ≤ length piece)
  pub gives : IfOk result (λ n. Consumes (left_of old) (left_of new) (take n piece))
  pub ends : IfOk result (λ n. ReadsEnd (left_of old) n)
  pub kept : OnErr result (Keeps (left_of old) (left_of new))

-- the count of failed reads rises exactly where the read failed
pub record CountsRead {S A E : Type 0} (faults_of : S → ℕ) (old new : S) (result : Result A E) : Type 0 where
  pub count : faults_of old ≤ faults_of new
  pub cause : OnErr result (CountRose (faults_of old) (faults_of new))
  pub unfailed : OnOk result (faults_of new ≡ faults_of old)

-- ---- sinks

-- a write takes bytes from the front of this piece, some where it isn't empty, and flushes none; a refused one takes nothing
pub record TakesBytes {S F E : Type 0} (taken_of : S → Option (List ℕ)) (flushed_of : S → F) (old new : S) (piece : List ℕ) (result : Result ℕ E) : Type 0 where
  pub within : IfOk result (λ n. n ≤ length piece)
  pub some : 0 < length piece → IfOk result (λ n. 0 < n)
  pub takes : IfOk result (λ n. Appends (taken_of old) (taken_of new) (take n piece))
  pub kept : OnErr result (Keeps (taken_of old) (taken_of new))
  pub flushed : flushed_of new ≡ flushed_of old

-- a flush takes nothing, and sends all bytes taken on their way; a refused one sends none
pub record FlushesBytes {S A E : Type 0} (taken_of : S → Option (List ℕ)) (flushed_of : S → Option ℕ) (old new : S) (result : Result A E) : Type 0 where
  pub taken : Keeps (taken_of old) (taken_of new)
  pub flushes : OnOk result (Flushes (taken_of old) (flushed_of old) (flushed_of new))
  pub kept : OnErr result (flushed_of new ≡ flushed_of old)

-- the count of a sink's faults rises exactly where the write or the flush failed
pub record CountsWrite {S A : Type 0} (faults_of : S → ℕ) (old new : S) (result : Result A Refused) : Type 0 where
  pub count : faults_of old ≤ faults_of new
  pub cause : IsErrOf result Failed → CountRose (faults_of old) (faults_of new)
  pub unfailed : OnOk result (faults_of new ≡ faults_of old)
  pub no_memory : IsErrOf result NoMemory → faults_of new ≡ faults_of old

-- the same, and each refused write or flush failed, and is counted once, up to the count's last value
pub record CountsRefused {S A : Type 0} (faults_of : S → ℕ) (old new : S) (result : Result A Refused) : Type 0 where
  pub counts : CountsWrite faults_of old new result
  pub only : OnErr result (IsErrOf result Failed)
  pub one_more : OnErr result (faults_of new ≡ number_after (faults_of old))

-- a call hands bytes to a sink, flushes none, and changes nothing beside it; the count of its faults rises exactly where a
-- write failed
pub record OnlyTakes {S B A : Type 0} (flushed_of : S → Option ℕ) (faults_of : S → ℕ) (beside_of : S → B) (old new : S) (result : Result A Refused) : Type 0 where
  pub flushed : flushed_of new ≡ flushed_of old
  pub beside : beside_of new ≡ beside_of old
  pub counts : CountsWrite faults_of old new result

-- ---- calls that fail by their numbers

-- the call was numbered, it failed exactly if its number is in the list, and then it is counted as failed
pub record FailsByNumber {S : Type 0} (failing_of : S → List ℕ) (calls_of faults_of : S → ℕ) (old new : S) (Fails : Type 0) : Type 0 where
  pub fails : Fails ↔ Contains (failing_of old) (number_after (calls_of old))
  pub one_more : Fails → faults_of new ≡ faults_of old + 1
  pub numbered : calls_of new ≡ number_after (calls_of old)
  pub list : failing_of new ≡ failing_of old

-- a numbered write or flush, which fails so, and the count of faults rises exactly there
pub record Numbered {S A : Type 0} (failing_of : S → List ℕ) (calls_of faults_of : S → ℕ) (old new : S) (result : Result A Refused) : Type 0 where
  pub counts : CountsWrite faults_of old new result
  pub numbers : FailsByNumber failing_of calls_of faults_of old new (IsErrOf result Failed)
