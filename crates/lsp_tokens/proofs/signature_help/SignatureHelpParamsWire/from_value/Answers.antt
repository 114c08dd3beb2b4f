use Rattle.std.proofs.Common.{refl, ap, inl, inr}
use Rattle.std.specs.Prelude.{Err}
use Rattle.lsp_shape.proofs.Refusals.{passed}
use Rattle.lsp_tokens.specs.SignatureHelp.{signature_help_params_row}
use Rattle.lsp_base.specs.Document.{text_document_position_params_row}
use Rattle.lsp_base.specs.Progress.{work_done_progress_params_row}
use Rattle.lsp_tokens.proofs.signature_help.SignatureHelpParamsWire.from_value.Goals as goal

pub returns-in_err-context-clause-unfit : goal.returns-in_err-context-clause-unfit
unfolding signature_help_params_row text_document_position_params_row work_done_progress_params_row
returns-in_err-context-clause-unfit c = passed c.from_residual.result c.in_err-context.field-0.0 _ c.from_residual.ensures.1 (λ why is. c.in_err-context.ensures.unfit why (ap Err is) signature_help_params_row.shape refl (refl, inl refl, inr (inl refl)))
