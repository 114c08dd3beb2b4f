use Rattle.std.proofs.Common.{refl, ap}
use Rattle.std.specs.Prelude.{Err}
use Rattle.lsp_shape.proofs.Refusals.{passed}
use Rattle.lsp_base.specs.Progress.{work_done_progress_params_row}
use Rattle.lsp_base.proofs.progress.WorkDoneProgressParamsWire.from_value.Goals as goal

pub returns-in_err-work_done_token-clause-unfit : goal.returns-in_err-work_done_token-clause-unfit
unfolding work_done_progress_params_row
returns-in_err-work_done_token-clause-unfit c = passed c.from_residual.result c.in_err-work_done_token.field-0.0 _ c.from_residual.ensures.1 (λ why is. c.in_err-work_done_token.ensures.unfit why (ap Err is) work_done_progress_params_row.shape refl refl)
