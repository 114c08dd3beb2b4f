-- What writing to a sink comes to.
use Rattle.std.specs.Prelude.{◌≡◌, ℕ, List, Option, Result, IfErr, OnOk, OnErr}
use Rattle.std.specs.Result.{result_err}
use Rattle.std.specs.Io.KnownBytes.{Appends}
use Rattle.lsp_server.specs.declared.step.ServeError.{ServeError}
use Rattle.lsp_server.specs.Errors.{ComesOfSink}
use Rattle.lsp_server.specs.Leaves.{LeavesFaults}
use Rattle.lsp_server.specs.Written.{IsPrefixOf}

-- a call writes these bytes, or at an error of the sink or of memory what begins them, and flushes nothing
pub record SendsBytes {O B A : Type 0} (taken_of : O → Option (List ℕ)) (flushed_of : O → Option ℕ) (faults_of : O → ℕ) (beside_of : O → B) (old new : O) (bytes : List ℕ) (result : Result A ServeError) : Type 0 where
  pub ok : OnOk result (Appends (taken_of old) (taken_of new) bytes)
  pub part : OnErr result ((written : List ℕ) × IsPrefixOf written bytes × Appends (taken_of old) (taken_of new) written)
  pub flushed : flushed_of new ≡ flushed_of old
  pub sink : LeavesFaults faults_of beside_of old new (result_err result)
  pub others : IfErr result ComesOfSink
