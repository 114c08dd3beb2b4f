use Rattle.std.proofs.Common.{refl, ap, rules}
use Rattle.std.specs.Prelude.{Err}
use Rattle.serde_json.specs.View.{view}
use Rattle.lsp_shape.proofs.Told.{form_told}
use Rattle.lsp_offer_work.specs.Notebook.{notebook_document_filter_row}
use Rattle.lsp_offer_work.specs.Notebook.{notebook_document_filter_by_type_row}
use Rattle.lsp_offer_work.specs.Notebook.{notebook_document_filter_by_scheme_row}
use Rattle.lsp_offer_work.specs.Notebook.{notebook_document_filter_by_pattern_row}
use Rattle.lsp_offer_work.proofs.notebook.NotebookDocumentFilterWire.from_value.Goals as goal

pub returns-in_err-by_pattern-clause-unfit : goal.returns-in_err-by_pattern-clause-unfit
unfolding notebook_document_filter_row notebook_document_filter_by_type_row notebook_document_filter_by_scheme_row notebook_document_filter_by_pattern_row
returns-in_err-by_pattern-clause-unfit c =
    form_told c.from_residual-in_err-by_pattern.result c.in_err-by_pattern.field-0.0 notebook_document_filter_row.shape (view c.args.value.now) refl c.from_residual-in_err-by_pattern.ensures.1 (λ why is. c.in_err-by_pattern.ensures.refuses why (ap Err is))
    (λ why is. let none = c.in_err-by_pattern.ensures.unfit why (ap Err is) in search rules)
