-- What the code's plan of a call shows.
use Rattle.lsp_work.specs.Workspace.{execute_command_params_row}
use Rattle.lsp_service.specs.Replies.{show_reply}
use Rattle.lsp_sample_server.specs.declared.plan.Plan.{Plan}
use Rattle.lsp_sample_server.specs.declared.plan.Plan.TheVariants as plans
use Rattle.lsp_sample_server.specs.Sample.{SampleTurn, replies, greets, executes}

abbrev pub show_plan : Plan → SampleTurn
show_plan (plans.Reply r) = replies (show_reply r)
show_plan plans.Greet = greets
show_plan (plans.Execute params) = executes (execute_command_params_row.shown params)
