use Rattle.std.proofs.Common.{refl, ap, inl, inr}
use Rattle.std.specs.Prelude.{Err}
use Rattle.lsp_shape.proofs.Refusals.{passed, passed_in}
use Rattle.lsp_lang_goto.specs.References.{document_highlight_params_row}
use Rattle.lsp_base.specs.Document.{text_document_position_params_row}
use Rattle.lsp_base.specs.Progress.{work_done_progress_params_row}
use Rattle.lsp_base.specs.Progress.{partial_result_params_row}
use Rattle.lsp_lang_goto.proofs.references.DocumentHighlightParamsWire.from_value.Goals as goal

pub returns-in_err-flat-clause-unfit : goal.returns-in_err-flat-clause-unfit
unfolding document_highlight_params_row text_document_position_params_row work_done_progress_params_row partial_result_params_row
returns-in_err-flat-clause-unfit c = passed c.from_residual.result c.in_err-flat.field-0.0 _ c.from_residual.ensures.1 (λ why is. c.in_err-flat.ensures.unfit why (ap Err is) document_highlight_params_row.shape (inl refl))

pub returns-in_err-flat-2-clause-unfit : goal.returns-in_err-flat-2-clause-unfit
unfolding document_highlight_params_row text_document_position_params_row work_done_progress_params_row partial_result_params_row
returns-in_err-flat-2-clause-unfit c = passed c.from_residual-in_err-flat-2.result c.in_err-flat-2.field-0.0 _ c.from_residual-in_err-flat-2.ensures.1 (λ why is. c.in_err-flat-2.ensures.unfit why (ap Err is) document_highlight_params_row.shape (inr (inl refl)))

pub returns-in_err-flat-3-clause-unfit : goal.returns-in_err-flat-3-clause-unfit
unfolding document_highlight_params_row text_document_position_params_row work_done_progress_params_row partial_result_params_row
returns-in_err-flat-3-clause-unfit c = passed c.from_residual-in_err-flat-3.result c.in_err-flat-3.field-0.0 _ c.from_residual-in_err-flat-3.ensures.1 (λ why is. c.in_err-flat-3.ensures.unfit why (ap Err is) document_highlight_params_row.shape (inr (inr (inl refl))))
