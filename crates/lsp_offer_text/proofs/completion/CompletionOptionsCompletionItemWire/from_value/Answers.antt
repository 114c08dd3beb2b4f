use Rattle.std.proofs.Common.{refl, ap}
use Rattle.std.specs.Prelude.{Err}
use Rattle.lsp_shape.proofs.Refusals.{passed}
use Rattle.lsp_offer_text.specs.Completion.{completion_options_completion_item_row}
use Rattle.lsp_offer_text.proofs.completion.CompletionOptionsCompletionItemWire.from_value.Goals as goal

pub returns-in_err-label_details_support-clause-unfit : goal.returns-in_err-label_details_support-clause-unfit
unfolding completion_options_completion_item_row
returns-in_err-label_details_support-clause-unfit c = passed c.from_residual.result c.in_err-label_details_support.field-0.0 _ c.from_residual.ensures.1 (λ why is. c.in_err-label_details_support.ensures.unfit why (ap Err is) completion_options_completion_item_row.shape refl refl)
