use Rattle.std.proofs.Common.{refl, ap}
use Rattle.std.specs.Prelude.{Err}
use Rattle.lsp_shape.proofs.Refusals.{passed}
use Rattle.lsp_work.specs.Progress.{work_done_progress_begin_row}
use Rattle.lsp_work.proofs.progress.WorkDoneProgressBeginWire.from_value.Goals as goal

pub returns-in_err-title-clause-unfit : goal.returns-in_err-title-clause-unfit
unfolding work_done_progress_begin_row
returns-in_err-title-clause-unfit c = passed c.from_residual.result c.in_err-title.field-0.0 _ c.from_residual.ensures.1 (λ why is. c.in_err-title.ensures.unfit why (ap Err is) work_done_progress_begin_row.shape refl (refl, refl, refl, refl))
