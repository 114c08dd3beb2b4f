use Rattle.std.proofs.Common.{refl, ap}
use Rattle.std.specs.Prelude.{Err}
use Rattle.lsp_shape.proofs.Refusals.{passed}
use Rattle.lsp_names.specs.Progress.{work_done_progress_options_row}
use Rattle.lsp_names.proofs.progress.WorkDoneProgressOptionsWire.from_value.Goals as goal

pub returns-in_err-work_done_progress-clause-unfit : goal.returns-in_err-work_done_progress-clause-unfit
unfolding work_done_progress_options_row
returns-in_err-work_done_progress-clause-unfit c = passed c.from_residual.result c.in_err-work_done_progress.field-0.0 _ c.from_residual.ensures.1 (λ why is. c.in_err-work_done_progress.ensures.unfit why (ap Err is) work_done_progress_options_row.shape refl refl)
