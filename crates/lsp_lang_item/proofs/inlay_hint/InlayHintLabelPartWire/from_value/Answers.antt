use Rattle.std.proofs.Common.{refl, ap}
use Rattle.std.specs.Prelude.{Err}
use Rattle.lsp_shape.proofs.Refusals.{passed}
use Rattle.lsp_lang_item.specs.InlayHint.{inlay_hint_label_part_row}
use Rattle.lsp_lang_item.proofs.inlay_hint.InlayHintLabelPartWire.from_value.Goals as goal

pub returns-in_err-value-clause-unfit : goal.returns-in_err-value-clause-unfit
unfolding inlay_hint_label_part_row
returns-in_err-value-clause-unfit c = passed c.from_residual.result c.in_err-value.field-0.0 _ c.from_residual.ensures.1 (λ why is. c.in_err-value.ensures.unfit why (ap Err is) inlay_hint_label_part_row.shape refl (refl, refl, refl, refl))
