-- What is written for the sample's replies.
use Rattle.std.specs.Prelude.{◌≡◌, false, Ok, Err}
use Rattle.serde_json.specs.Data.{Data, null}
use Rattle.serde_json.specs.Written.{has_float}
use Rattle.lsp_rpc.specs.Message.{ErrorData, may_have_float}
use Rattle.lsp_methods.specs.declared.method.Method.TheVariants as methods
use Rattle.lsp_methods.specs.declared.method.LifeMethod.TheVariants as life
use Rattle.lsp_methods.specs.declared.method.WorkMethod.TheVariants as work
use Rattle.lsp_service.specs.declared.call.Target.TheVariants as targets
use Rattle.lsp_shape.specs.Write.{write}
use Rattle.lsp_initialize.specs.Server.{initialize_result_row}
use Rattle.lsp_service.specs.Data.{answer, written, nil_row, outcome_by}
use Rattle.lsp_sample_server.specs.Execute.{command_reply, command_result}
use Rattle.lsp_sample_server.specs.Sample.{bare_result, bare_data}

pub record SampleIsWritten : Type 0 where
  pub result_of_initialize : write initialize_result_row.shape bare_result ≡ bare_data
  pub initialize : outcome_by (targets.Typed (methods.Life life.Initialize)) (written (methods.Life life.Initialize) (Ok bare_data)) ≡ Ok bare_data
  pub shutdown : outcome_by (targets.Typed (methods.Life life.Shutdown)) (answer (methods.Life life.Shutdown) (Ok (nil_row.shown tt))) ≡ Ok null
  -- the result of a command is any value, and so is its error; no float is sent
  pub result : (d : Data) → has_float d ≡ false → outcome_by (targets.Typed (methods.Work work.ExecuteCommand)) (command_result d) ≡ Ok d
  pub error : (e : ErrorData) → may_have_float e.payload ≡ false → outcome_by (targets.Typed (methods.Work work.ExecuteCommand)) (command_reply (Err e)) ≡ Err e
