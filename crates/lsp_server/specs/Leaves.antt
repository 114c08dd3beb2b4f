-- What a call leaves of a sink and of a transport, by the error that it answers, if any.
use Rattle.std.specs.Prelude.{◌≡◌, ◌≤◌, ◌<◌, ◌+◌, ◌*◌, ℕ, List, length, Option, Some, IfSome, IfNone, Result, IfErr}
use Rattle.std.specs.Result.{result_err}
use Rattle.lsp_server.specs.declared.step.ServeError.{ServeError}
use Rattle.lsp_server.specs.declared.step.ServeError.TheVariants.{ReadFault, WriteFault, ReadsSpent}
use Rattle.lsp_server.specs.SourceSink.{CountRose, IsFlushed}
use Rattle.lsp_server.specs.Reads.{Moment, Made}
use Rattle.lsp_server.specs.Errors.{LeavesSink, IsFlushedAt, IsInStep}

-- the count of a sink's faults rises exactly where the call stops with such a fault, and nothing beside the sink changes
pub record LeavesFaults {O B : Type 0} (faults_of : O → ℕ) (beside_of : O → B) (old new : O) (error : Option ServeError) : Type 0 where
  pub beside : beside_of new ≡ beside_of old
  pub count : faults_of old ≤ faults_of new
  pub write : IfSome error (λ e. e ≡ WriteFault → CountRose (faults_of old) (faults_of new))
  pub unfailed : IfNone error (faults_of new ≡ faults_of old)
  pub left : IfSome error (λ e. LeavesSink e → faults_of new ≡ faults_of old)

-- all that was written is flushed, if all was before, unless the call stops with an error of the sink or of memory
pub record StaysFlushed (taken : Option (List ℕ)) (count : Option ℕ) (taken_after : Option (List ℕ)) (count_after : Option ℕ) (error : Option ServeError) : Type 0 where
  pub flushed : IfNone error (IsFlushed taken count → IsFlushed taken_after count_after)
  pub flushed_at : IfSome error (λ e. IsFlushedAt e → IsFlushed taken count → IsFlushed taken_after count_after)

-- each failure of a read or of a write is told, and has its cause: the counts of both before the call, and after it
pub record TellsFaults (reads reads_after writes writes_after : ℕ) (error : Option ServeError) : Type 0 where
  pub read : IfSome error (λ e. e ≡ ReadFault → CountRose reads reads_after)
  pub write : IfSome error (λ e. e ≡ WriteFault → CountRose writes writes_after)
  pub counts : (reads ≤ reads_after) × (writes ≤ writes_after)
  pub read_told : reads < reads_after → error ≡ Some ReadFault
  pub write_told : writes < writes_after → error ≡ Some WriteFault

-- at most so many reads were made that don't fail, each of at most so many bytes, and all of them where the call stops
-- for that; so where all were made, it stops neither before the end nor by a failed read
pub record WithinReads (count size : ℕ) (left left_after : Option (List ℕ)) (reads reads_after : Option (List Moment)) (error : Option ServeError) : Type 0 where
  pub few : IfSome left (λ bytes. IfSome left_after (λ rest. length bytes ≤ length rest + count * size))
  pub reads_spent : IfSome error (λ e. e ≡ ReadsSpent → IfSome left (λ bytes. IfSome left_after (λ rest. count + length rest ≤ length bytes)))
  pub few_reads : Made reads reads_after (λ made. length made ≤ count)
  pub all_reads : IfSome error (λ e. e ≡ ReadsSpent → Made reads reads_after (λ made. length made ≡ count))
  -- a read that fails is one of them too
  pub fewer_at_fault : IfSome error (λ e. e ≡ ReadFault → Made reads reads_after (λ made. length made < count))

-- a call writes to a sink, and flushes nothing
pub record OnlyWrites {O B : Type 0} (flushed_of : O → Option ℕ) (faults_of : O → ℕ) (beside_of : O → B) (old new : O) (error : Option ServeError) : Type 0 where
  pub flushed : flushed_of new ≡ flushed_of old
  pub faults : LeavesFaults faults_of beside_of old new error

-- a call writes to a sink, and flushes all that it took, if all was flushed before
pub record WritesFlushed {O B : Type 0} (taken_of : O → Option (List ℕ)) (flushed_of : O → Option ℕ) (faults_of : O → ℕ) (beside_of : O → B) (old new : O) (error : Option ServeError) : Type 0 where
  pub flushed : IfNone error (IsFlushed (taken_of old) (flushed_of old) → IsFlushed (taken_of new) (flushed_of new))
  pub faults : LeavesFaults faults_of beside_of old new error

-- a call makes steps: it writes to a sink, and flushes nothing; only errors of a step stop it
pub record OnlySteps {O B A : Type 0} (flushed_of : O → Option ℕ) (faults_of : O → ℕ) (beside_of : O → B) (old new : O) (result : Result A ServeError) : Type 0 where
  pub flushed : flushed_of new ≡ flushed_of old
  pub faults : LeavesFaults faults_of beside_of old new (result_err result)
  pub others : IfErr result IsInStep

-- a call makes steps, and flushes all that was written, also where it stops with an error that isn't of the sink or of memory
pub record StepsFlushed {O B A : Type 0} (taken_of : O → Option (List ℕ)) (flushed_of : O → Option ℕ) (faults_of : O → ℕ) (beside_of : O → B) (old new : O) (result : Result A ServeError) : Type 0 where
  pub flushed : StaysFlushed (taken_of old) (flushed_of old) (taken_of new) (flushed_of new) (result_err result)
  pub faults : LeavesFaults faults_of beside_of old new (result_err result)
  pub others : IfErr result IsInStep

-- what a call over reads leaves of its transport: all is flushed, each failure is told and has its cause, at most so many
-- reads are made, and it is the same transport
pub record LeavesTransport {T B : Type 0} (left_of taken_of : T → Option (List ℕ)) (flushed_of : T → Option ℕ) (reads_of : T → Option (List Moment)) (read_faults_of faults_of : T → ℕ) (tied_of : T → B) (count size : ℕ) (old new : T) (error : Option ServeError) : Type 0 where
  pub flushed : StaysFlushed (taken_of old) (flushed_of old) (taken_of new) (flushed_of new) error
  pub faults : TellsFaults (read_faults_of old) (read_faults_of new) (faults_of old) (faults_of new) error
  pub within : WithinReads count size (left_of old) (left_of new) (reads_of old) (reads_of new) error
  pub tied : tied_of new ≡ tied_of old
