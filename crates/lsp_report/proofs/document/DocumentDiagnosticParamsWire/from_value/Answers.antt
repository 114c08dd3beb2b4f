use Rattle.std.proofs.Common.{refl, ap, inl, inr}
use Rattle.std.specs.Prelude.{Err}
use Rattle.lsp_shape.proofs.Refusals.{passed}
use Rattle.lsp_report.specs.Document.{document_diagnostic_params_row}
use Rattle.lsp_base.specs.Progress.{work_done_progress_params_row}
use Rattle.lsp_base.specs.Progress.{partial_result_params_row}
use Rattle.lsp_report.proofs.document.DocumentDiagnosticParamsWire.from_value.Goals as goal

pub returns-in_err-text_document-clause-unfit : goal.returns-in_err-text_document-clause-unfit
unfolding document_diagnostic_params_row work_done_progress_params_row partial_result_params_row
returns-in_err-text_document-clause-unfit c = passed c.from_residual.result c.in_err-text_document.field-0.0 _ c.from_residual.ensures.1 (λ why is. c.in_err-text_document.ensures.unfit why (ap Err is) document_diagnostic_params_row.shape refl (refl, refl, refl, inl refl, inr (inl refl)))
