use Rattle.std.proofs.Common.{refl, ap, inl}
use Rattle.std.specs.Prelude.{Err}
use Rattle.lsp_shape.proofs.Refusals.{passed}
use Rattle.lsp_lang_item.specs.InlayHint.{inlay_hint_params_row}
use Rattle.lsp_base.specs.Progress.{work_done_progress_params_row}
use Rattle.lsp_lang_item.proofs.inlay_hint.InlayHintParamsWire.from_value.Goals as goal

pub returns-in_err-work_done_progress_params-clause-unfit : goal.returns-in_err-work_done_progress_params-clause-unfit
unfolding inlay_hint_params_row work_done_progress_params_row
returns-in_err-work_done_progress_params-clause-unfit c = passed c.from_residual.result c.in_err-work_done_progress_params.field-0.0 _ c.from_residual.ensures.1 (λ why is. c.in_err-work_done_progress_params.ensures.unfit why (ap Err is) inlay_hint_params_row.shape refl (inl refl, refl, refl))
