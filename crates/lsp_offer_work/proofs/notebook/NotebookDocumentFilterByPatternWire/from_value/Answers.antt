use Rattle.std.proofs.Common.{refl, ap}
use Rattle.std.specs.Prelude.{Err}
use Rattle.lsp_shape.proofs.Refusals.{passed}
use Rattle.lsp_offer_work.specs.Notebook.{notebook_document_filter_by_pattern_row}
use Rattle.lsp_offer_work.proofs.notebook.NotebookDocumentFilterByPatternWire.from_value.Goals as goal

pub returns-in_err-notebook_type-clause-unfit : goal.returns-in_err-notebook_type-clause-unfit
unfolding notebook_document_filter_by_pattern_row
returns-in_err-notebook_type-clause-unfit c = passed c.from_residual.result c.in_err-notebook_type.field-0.0 _ c.from_residual.ensures.1 (λ why is. c.in_err-notebook_type.ensures.unfit why (ap Err is) notebook_document_filter_by_pattern_row.shape refl (refl, refl, refl))
