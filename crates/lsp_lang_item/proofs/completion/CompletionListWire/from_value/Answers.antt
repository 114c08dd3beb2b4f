use Rattle.std.proofs.Common.{refl, ap}
use Rattle.std.specs.Prelude.{Err}
use Rattle.lsp_shape.proofs.Refusals.{passed}
use Rattle.lsp_lang_item.specs.Completion.{completion_list_row}
use Rattle.lsp_lang_item.proofs.completion.CompletionListWire.from_value.Goals as goal

pub returns-in_err-is_incomplete-clause-unfit : goal.returns-in_err-is_incomplete-clause-unfit
unfolding completion_list_row
returns-in_err-is_incomplete-clause-unfit c = passed c.from_residual.result c.in_err-is_incomplete.field-0.0 _ c.from_residual.ensures.1 (λ why is. c.in_err-is_incomplete.ensures.unfit why (ap Err is) completion_list_row.shape refl (refl, refl))
