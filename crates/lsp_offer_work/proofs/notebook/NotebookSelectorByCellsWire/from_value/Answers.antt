use Rattle.std.proofs.Common.{refl, ap}
use Rattle.std.specs.Prelude.{Err}
use Rattle.lsp_shape.proofs.Refusals.{passed}
use Rattle.lsp_offer_work.specs.Notebook.{notebook_selector_by_cells_row}
use Rattle.lsp_offer_work.proofs.notebook.NotebookSelectorByCellsWire.from_value.Goals as goal

pub returns-in_err-notebook-clause-unfit : goal.returns-in_err-notebook-clause-unfit
unfolding notebook_selector_by_cells_row
returns-in_err-notebook-clause-unfit c = passed c.from_residual.result c.in_err-notebook.field-0.0 _ c.from_residual.ensures.1 (λ why is. c.in_err-notebook.ensures.unfit why (ap Err is) notebook_selector_by_cells_row.shape refl (refl, refl))
