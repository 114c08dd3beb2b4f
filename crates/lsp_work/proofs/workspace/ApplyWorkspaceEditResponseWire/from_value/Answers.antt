use Rattle.std.proofs.Common.{refl, ap}
use Rattle.std.specs.Prelude.{Err}
use Rattle.lsp_shape.proofs.Refusals.{passed}
use Rattle.lsp_work.specs.Workspace.{apply_workspace_edit_response_row}
use Rattle.lsp_work.proofs.workspace.ApplyWorkspaceEditResponseWire.from_value.Goals as goal

pub returns-in_err-applied-clause-unfit : goal.returns-in_err-applied-clause-unfit
unfolding apply_workspace_edit_response_row
returns-in_err-applied-clause-unfit c = passed c.from_residual.result c.in_err-applied.field-0.0 _ c.from_residual.ensures.1 (λ why is. c.in_err-applied.ensures.unfit why (ap Err is) apply_workspace_edit_response_row.shape refl (refl, refl, refl))
