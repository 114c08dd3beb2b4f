use Rattle.std.proofs.Common.{refl, ap, inl}
use Rattle.std.specs.Prelude.{Err}
use Rattle.lsp_shape.proofs.Refusals.{passed}
use Rattle.lsp_offer_text.specs.CodeAction.{code_action_options_row}
use Rattle.lsp_names.specs.Progress.{work_done_progress_options_row}
use Rattle.lsp_offer_text.proofs.code_action.CodeActionOptionsWire.from_value.Goals as goal

pub returns-in_err-code_action_kinds-clause-unfit : goal.returns-in_err-code_action_kinds-clause-unfit
unfolding code_action_options_row work_done_progress_options_row
returns-in_err-code_action_kinds-clause-unfit c = passed c.from_residual.result c.in_err-code_action_kinds.field-0.0 _ c.from_residual.ensures.1 (λ why is. c.in_err-code_action_kinds.ensures.unfit why (ap Err is) code_action_options_row.shape refl (refl, inl refl, refl))
