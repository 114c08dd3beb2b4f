use Rattle.std.proofs.Common.{refl, ap}
use Rattle.std.specs.Prelude.{Err}
use Rattle.lsp_shape.proofs.Refusals.{passed}
use Rattle.lsp_report.specs.Notebook.{notebook_cell_array_change_row}
use Rattle.lsp_report.proofs.notebook.NotebookCellArrayChangeWire.from_value.Goals as goal

pub returns-in_err-start-clause-unfit : goal.returns-in_err-start-clause-unfit
unfolding notebook_cell_array_change_row
returns-in_err-start-clause-unfit c = passed c.from_residual.result c.in_err-start.field-0.0 _ c.from_residual.ensures.1 (λ why is. c.in_err-start.ensures.unfit why (ap Err is) notebook_cell_array_change_row.shape refl (refl, refl, refl))
