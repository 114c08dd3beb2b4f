use Rattle.std.proofs.Common.{refl, ap}
use Rattle.std.specs.Prelude.{Err}
use Rattle.lsp_shape.proofs.Refusals.{passed}
use Rattle.lsp_work.specs.Window.{set_trace_params_row}
use Rattle.lsp_work.proofs.window.SetTraceParamsWire.from_value.Goals as goal

pub returns-in_err-value-clause-unfit : goal.returns-in_err-value-clause-unfit
unfolding set_trace_params_row
returns-in_err-value-clause-unfit c = passed c.from_residual.result c.in_err-value.field-0.0 _ c.from_residual.ensures.1 (λ why is. c.in_err-value.ensures.unfit why (ap Err is) set_trace_params_row.shape refl refl)
