use Rattle.std.proofs.Common.{refl, ap}
use Rattle.std.specs.Prelude.{Err}
use Rattle.lsp_shape.proofs.Refusals.{passed}
use Rattle.lsp_work.specs.Window.{show_document_result_row}
use Rattle.lsp_work.proofs.window.ShowDocumentResultWire.from_value.Goals as goal

pub returns-in_err-success-clause-unfit : goal.returns-in_err-success-clause-unfit
unfolding show_document_result_row
returns-in_err-success-clause-unfit c = passed c.from_residual.result c.in_err-success.field-0.0 _ c.from_residual.ensures.1 (λ why is. c.in_err-success.ensures.unfit why (ap Err is) show_document_result_row.shape refl refl)
