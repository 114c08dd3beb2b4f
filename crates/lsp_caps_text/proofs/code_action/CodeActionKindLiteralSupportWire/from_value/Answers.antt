use Rattle.std.proofs.Common.{refl, ap}
use Rattle.std.specs.Prelude.{Err}
use Rattle.lsp_shape.proofs.Refusals.{passed}
use Rattle.lsp_caps_text.specs.CodeAction.{code_action_kind_literal_support_row}
use Rattle.lsp_caps_text.proofs.code_action.CodeActionKindLiteralSupportWire.from_value.Goals as goal

pub returns-in_err-value_set-clause-unfit : goal.returns-in_err-value_set-clause-unfit
unfolding code_action_kind_literal_support_row
returns-in_err-value_set-clause-unfit c = passed c.from_residual.result c.in_err-value_set.field-0.0 _ c.from_residual.ensures.1 (λ why is. c.in_err-value_set.ensures.unfit why (ap Err is) code_action_kind_literal_support_row.shape refl refl)
