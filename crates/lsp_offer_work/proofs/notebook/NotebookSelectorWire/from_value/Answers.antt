use Rattle.std.proofs.Common.{refl, ap, rules}
use Rattle.std.specs.Prelude.{Err}
use Rattle.serde_json.specs.View.{view}
use Rattle.lsp_shape.proofs.Told.{form_told}
use Rattle.lsp_offer_work.specs.Notebook.{notebook_selector_row}
use Rattle.lsp_offer_work.specs.Notebook.{notebook_selector_by_notebook_row}
use Rattle.lsp_offer_work.specs.Notebook.{notebook_selector_by_cells_row}
use Rattle.lsp_offer_work.proofs.notebook.NotebookSelectorWire.from_value.Goals as goal

pub returns-in_err-by_cells-clause-unfit : goal.returns-in_err-by_cells-clause-unfit
unfolding notebook_selector_row notebook_selector_by_notebook_row notebook_selector_by_cells_row
returns-in_err-by_cells-clause-unfit c =
    form_told c.from_residual-in_err-by_cells.result c.in_err-by_cells.field-0.0 notebook_selector_row.shape (view c.args.value.now) refl c.from_residual-in_err-by_cells.ensures.1 (λ why is. c.in_err-by_cells.ensures.refuses why (ap Err is))
    (λ why is. let none = c.in_err-by_cells.ensures.unfit why (ap Err is) in search rules)
