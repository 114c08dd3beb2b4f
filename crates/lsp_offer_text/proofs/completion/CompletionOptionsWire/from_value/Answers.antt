use Rattle.std.proofs.Common.{refl, ap, inl}
use Rattle.std.specs.Prelude.{Err}
use Rattle.lsp_shape.proofs.Refusals.{passed}
use Rattle.lsp_offer_text.specs.Completion.{completion_options_row}
use Rattle.lsp_names.specs.Progress.{work_done_progress_options_row}
use Rattle.lsp_offer_text.proofs.completion.CompletionOptionsWire.from_value.Goals as goal

pub returns-in_err-resolve_provider-clause-unfit : goal.returns-in_err-resolve_provider-clause-unfit
unfolding completion_options_row work_done_progress_options_row
returns-in_err-resolve_provider-clause-unfit c = passed c.from_residual.result c.in_err-resolve_provider.field-0.0 _ c.from_residual.ensures.1 (λ why is. c.in_err-resolve_provider.ensures.unfit why (ap Err is) completion_options_row.shape refl (refl, refl, refl, inl refl, refl))
