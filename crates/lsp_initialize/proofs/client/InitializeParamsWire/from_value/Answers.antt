use Rattle.std.proofs.Common.{refl, ap, inl}
use Rattle.std.specs.Prelude.{Err}
use Rattle.lsp_shape.proofs.Refusals.{passed}
use Rattle.lsp_initialize.specs.Client.{initialize_params_row}
use Rattle.lsp_base.specs.Progress.{work_done_progress_params_row}
use Rattle.lsp_initialize.proofs.client.InitializeParamsWire.from_value.Goals as goal

pub returns-in_err-process_id-clause-unfit : goal.returns-in_err-process_id-clause-unfit
unfolding initialize_params_row work_done_progress_params_row
returns-in_err-process_id-clause-unfit c = passed c.from_residual.result c.in_err-process_id.field-0.0 _ c.from_residual.ensures.1 (λ why is. c.in_err-process_id.ensures.unfit why (ap Err is) initialize_params_row.shape refl ((refl, refl, refl, refl, refl), (refl, refl, inl refl, refl, refl)))
