-- The plain data that the code's tasks and outcomes stand for.
use Rattle.lsp_shape.specs.Row.{any, maybe}
use Rattle.lsp_work.specs.Workspace.{execute_command_params_row}
use Rattle.lsp_service.specs.Data.{result_shown}
use Rattle.lsp_service.specs.Server.{Start, Now, Later}
use Rattle.lsp_sample_server.specs.declared.task.SampleTask.{SampleTask}
use Rattle.lsp_sample_server.specs.declared.execute.Outcome.{Outcome}
use Rattle.lsp_sample_server.specs.declared.execute.Outcome.TheVariants as outcomes
use Rattle.lsp_sample_server.specs.Execute.{TaskData, command_reply}
use Rattle.lsp_sample_server.specs.Left.{show_left}

abbrev pub show_task : SampleTask → TaskData
show_task t = record { params = execute_command_params_row.shown t.params; left = show_left t.left }

abbrev pub show_outcome : Outcome → Start TaskData
show_outcome (outcomes.Ended r) = Now (command_reply (result_shown (maybe any).shown r))
show_outcome (outcomes.Going t) = Later (show_task t)
