use Rattle.std.proofs.Common.{refl, ap}
use Rattle.std.specs.Prelude.{Err}
use Rattle.lsp_shape.proofs.Refusals.{passed}
use Rattle.lsp_lang_item.specs.Completion.{insert_replace_edit_row}
use Rattle.lsp_lang_item.proofs.completion.InsertReplaceEditWire.from_value.Goals as goal

pub returns-in_err-new_text-clause-unfit : goal.returns-in_err-new_text-clause-unfit
unfolding insert_replace_edit_row
returns-in_err-new_text-clause-unfit c = passed c.from_residual.result c.in_err-new_text.field-0.0 _ c.from_residual.ensures.1 (λ why is. c.in_err-new_text.ensures.unfit why (ap Err is) insert_replace_edit_row.shape refl (refl, refl, refl))
