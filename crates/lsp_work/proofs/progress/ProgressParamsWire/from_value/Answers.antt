use Rattle.std.proofs.Common.{refl, ap}
use Rattle.std.specs.Prelude.{Err}
use Rattle.lsp_shape.proofs.Refusals.{passed}
use Rattle.lsp_work.specs.Progress.{progress_params_row}
use Rattle.lsp_work.proofs.progress.ProgressParamsWire.from_value.Goals as goal

pub returns-in_err-token-clause-unfit : goal.returns-in_err-token-clause-unfit
unfolding progress_params_row
returns-in_err-token-clause-unfit c = passed c.from_residual.result c.in_err-token.field-0.0 _ c.from_residual.ensures.1 (λ why is. c.in_err-token.ensures.unfit why (ap Err is) progress_params_row.shape refl (refl, refl))
