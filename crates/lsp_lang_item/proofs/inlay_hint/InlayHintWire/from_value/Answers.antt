use Rattle.std.proofs.Common.{refl, ap}
use Rattle.std.specs.Prelude.{Err}
use Rattle.lsp_shape.proofs.Refusals.{passed}
use Rattle.lsp_lang_item.specs.InlayHint.{inlay_hint_row}
use Rattle.lsp_lang_item.proofs.inlay_hint.InlayHintWire.from_value.Goals as goal

pub returns-in_err-position-clause-unfit : goal.returns-in_err-position-clause-unfit
unfolding inlay_hint_row
returns-in_err-position-clause-unfit c = passed c.from_residual.result c.in_err-position.field-0.0 _ c.from_residual.ensures.1 (λ why is. c.in_err-position.ensures.unfit why (ap Err is) inlay_hint_row.shape refl ((refl, refl, refl, refl), (refl, refl, refl, refl)))
