use Rattle.std.proofs.Common.{refl, ap}
use Rattle.std.specs.Prelude.{Err}
use Rattle.lsp_shape.proofs.Refusals.{passed}
use Rattle.lsp_base.specs.WorkspaceEdit.{workspace_edit_row}
use Rattle.lsp_base.proofs.workspace_edit.WorkspaceEditWire.from_value.Goals as goal

pub returns-in_err-changes-clause-unfit : goal.returns-in_err-changes-clause-unfit
unfolding workspace_edit_row
returns-in_err-changes-clause-unfit c = passed c.from_residual.result c.in_err-changes.field-0.0 _ c.from_residual.ensures.1 (λ why is. c.in_err-changes.ensures.unfit why (ap Err is) workspace_edit_row.shape refl (refl, refl, refl))
