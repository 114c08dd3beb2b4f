use Rattle.std.proofs.Common.{refl, ap}
use Rattle.std.specs.Prelude.{Err}
use Rattle.lsp_shape.proofs.Refusals.{passed}
use Rattle.lsp_work.specs.Workspace.{did_change_workspace_folders_params_row}
use Rattle.lsp_work.proofs.workspace.DidChangeWorkspaceFoldersParamsWire.from_value.Goals as goal

pub returns-in_err-event-clause-unfit : goal.returns-in_err-event-clause-unfit
unfolding did_change_workspace_folders_params_row
returns-in_err-event-clause-unfit c = passed c.from_residual.result c.in_err-event.field-0.0 _ c.from_residual.ensures.1 (λ why is. c.in_err-event.ensures.unfit why (ap Err is) did_change_workspace_folders_params_row.shape refl refl)
