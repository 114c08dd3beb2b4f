use Rattle.std.proofs.Common.{refl, ap, inl}
use Rattle.std.specs.Prelude.{Err}
use Rattle.lsp_shape.proofs.Refusals.{passed}
use Rattle.lsp_offer_lang.specs.Inline.{inlay_hint_options_row}
use Rattle.lsp_names.specs.Progress.{work_done_progress_options_row}
use Rattle.lsp_offer_lang.proofs.inline.InlayHintOptionsWire.from_value.Goals as goal

pub returns-in_err-work_done_progress_options-clause-unfit : goal.returns-in_err-work_done_progress_options-clause-unfit
unfolding inlay_hint_options_row work_done_progress_options_row
returns-in_err-work_done_progress_options-clause-unfit c = passed c.from_residual.result c.in_err-work_done_progress_options.field-0.0 _ c.from_residual.ensures.1 (λ why is. c.in_err-work_done_progress_options.ensures.unfit why (ap Err is) inlay_hint_options_row.shape refl (inl refl, refl))
