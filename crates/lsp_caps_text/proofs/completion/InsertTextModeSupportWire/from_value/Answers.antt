use Rattle.std.proofs.Common.{refl, ap}
use Rattle.std.specs.Prelude.{Err}
use Rattle.lsp_shape.proofs.Refusals.{passed}
use Rattle.lsp_caps_text.specs.Completion.{insert_text_mode_support_row}
use Rattle.lsp_caps_text.proofs.completion.InsertTextModeSupportWire.from_value.Goals as goal

pub returns-in_err-value_set-clause-unfit : goal.returns-in_err-value_set-clause-unfit
unfolding insert_text_mode_support_row
returns-in_err-value_set-clause-unfit c = passed c.from_residual.result c.in_err-value_set.field-0.0 _ c.from_residual.ensures.1 (λ why is. c.in_err-value_set.ensures.unfit why (ap Err is) insert_text_mode_support_row.shape refl refl)
