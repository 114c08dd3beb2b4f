use Rattle.std.proofs.Common.{refl, ap}
use Rattle.std.specs.Prelude.{Err}
use Rattle.lsp_shape.proofs.Refusals.{passed}
use Rattle.lsp_work.specs.Window.{show_message_request_params_row}
use Rattle.lsp_work.proofs.window.ShowMessageRequestParamsWire.from_value.Goals as goal

pub returns-in_err-typ-clause-unfit : goal.returns-in_err-typ-clause-unfit
unfolding show_message_request_params_row
returns-in_err-typ-clause-unfit c = passed c.from_residual.result c.in_err-typ.field-0.0 _ c.from_residual.ensures.1 (λ why is. c.in_err-typ.ensures.unfit why (ap Err is) show_message_request_params_row.shape refl (refl, refl, refl))
