use Rattle.std.proofs.Common.{refl, ap, inl, inr}
use Rattle.std.specs.Prelude.{Err}
use Rattle.lsp_shape.proofs.Refusals.{passed, passed_in}
use Rattle.lsp_offer_text.specs.Hover.{hover_options_row}
use Rattle.lsp_names.specs.Progress.{work_done_progress_options_row}
use Rattle.lsp_offer_text.proofs.hover.HoverOptionsWire.from_value.Goals as goal

pub returns-in_err-flat-clause-unfit : goal.returns-in_err-flat-clause-unfit
unfolding hover_options_row work_done_progress_options_row
returns-in_err-flat-clause-unfit c = passed c.from_residual.result c.in_err-flat.field-0.0 _ c.from_residual.ensures.1 (λ why is. c.in_err-flat.ensures.unfit why (ap Err is) hover_options_row.shape (inl refl))
