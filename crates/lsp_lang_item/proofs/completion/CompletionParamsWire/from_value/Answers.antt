use Rattle.std.proofs.Common.{refl, ap, inl, inr}
use Rattle.std.specs.Prelude.{Err}
use Rattle.lsp_shape.proofs.Refusals.{passed}
use Rattle.lsp_lang_item.specs.Completion.{completion_params_row}
use Rattle.lsp_base.specs.Document.{text_document_position_params_row}
use Rattle.lsp_base.specs.Progress.{work_done_progress_params_row}
use Rattle.lsp_base.specs.Progress.{partial_result_params_row}
use Rattle.lsp_lang_item.proofs.completion.CompletionParamsWire.from_value.Goals as goal

pub returns-in_err-text_document_position-clause-unfit : goal.returns-in_err-text_document_position-clause-unfit
unfolding completion_params_row text_document_position_params_row work_done_progress_params_row partial_result_params_row
returns-in_err-text_document_position-clause-unfit c = passed c.from_residual.result c.in_err-text_document_position.field-0.0 _ c.from_residual.ensures.1 (λ why is. c.in_err-text_document_position.ensures.unfit why (ap Err is) completion_params_row.shape refl (inl refl, inr (inl refl), inr (inr (inl refl)), refl))
