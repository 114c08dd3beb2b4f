-- The calls that the servers' tasks go on with.
use Rattle.lsp_examples.specs.declared.asks.Task.{Task}
use Rattle.lsp_examples.specs.declared.asks.Task.TheVariants as tasks
use Rattle.lsp_examples.specs.declared.counts.Counting.{Counting}
use Rattle.lsp_service.specs.declared.call.Call.TheVariants as calls
use Rattle.lsp_service.specs.declared.call.LifeCall.TheVariants as life_calls
use Rattle.lsp_service.specs.declared.call.WorkCall.TheVariants as work_calls
use Rattle.lsp_service.specs.Calls.{show_call}
use Rattle.lsp_service.specs.Data.{MethodCall}

abbrev pub task_call : Task → MethodCall
task_call (tasks.Folders ticket) = show_call (calls.Life (life_calls.Initialized (record {})))
task_call (tasks.Command params) = show_call (calls.Work (work_calls.ExecuteCommand params))

abbrev pub counting_call : Counting → MethodCall
counting_call task = show_call (calls.Work (work_calls.ExecuteCommand task.params))
