use Rattle.std.proofs.Common.{refl, ap}
use Rattle.std.specs.Prelude.{Err}
use Rattle.lsp_shape.proofs.Refusals.{passed}
use Rattle.lsp_lang_item.specs.Completion.{completion_item_label_details_row}
use Rattle.lsp_lang_item.proofs.completion.CompletionItemLabelDetailsWire.from_value.Goals as goal

pub returns-in_err-detail-clause-unfit : goal.returns-in_err-detail-clause-unfit
unfolding completion_item_label_details_row
returns-in_err-detail-clause-unfit c = passed c.from_residual.result c.in_err-detail.field-0.0 _ c.from_residual.ensures.1 (λ why is. c.in_err-detail.ensures.unfit why (ap Err is) completion_item_label_details_row.shape refl (refl, refl))
