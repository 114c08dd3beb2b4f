use Rattle.std.proofs.Common.{refl, ap}
use Rattle.std.specs.Prelude.{Err}
use Rattle.lsp_shape.proofs.Refusals.{passed}
use Rattle.lsp_work.specs.Workspace.{workspace_folders_change_event_row}
use Rattle.lsp_work.proofs.workspace.WorkspaceFoldersChangeEventWire.from_value.Goals as goal

pub returns-in_err-added-clause-unfit : goal.returns-in_err-added-clause-unfit
unfolding workspace_folders_change_event_row
returns-in_err-added-clause-unfit c = passed c.from_residual.result c.in_err-added.field-0.0 _ c.from_residual.ensures.1 (λ why is. c.in_err-added.ensures.unfit why (ap Err is) workspace_folders_change_event_row.shape refl (refl, refl))
