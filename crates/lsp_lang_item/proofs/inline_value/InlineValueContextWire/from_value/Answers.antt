use Rattle.std.proofs.Common.{refl, ap}
use Rattle.std.specs.Prelude.{Err}
use Rattle.lsp_shape.proofs.Refusals.{passed}
use Rattle.lsp_lang_item.specs.InlineValue.{inline_value_context_row}
use Rattle.lsp_lang_item.proofs.inline_value.InlineValueContextWire.from_value.Goals as goal

pub returns-in_err-frame_id-clause-unfit : goal.returns-in_err-frame_id-clause-unfit
unfolding inline_value_context_row
returns-in_err-frame_id-clause-unfit c = passed c.from_residual.result c.in_err-frame_id.field-0.0 _ c.from_residual.ensures.1 (λ why is. c.in_err-frame_id.ensures.unfit why (ap Err is) inline_value_context_row.shape refl (refl, refl))
