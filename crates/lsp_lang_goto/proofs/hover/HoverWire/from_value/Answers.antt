use Rattle.std.proofs.Common.{refl, ap}
use Rattle.std.specs.Prelude.{Err}
use Rattle.lsp_shape.proofs.Refusals.{passed}
use Rattle.lsp_lang_goto.specs.Hover.{hover_row}
use Rattle.lsp_lang_goto.proofs.hover.HoverWire.from_value.Goals as goal

pub returns-in_err-contents-clause-unfit : goal.returns-in_err-contents-clause-unfit
unfolding hover_row
returns-in_err-contents-clause-unfit c = passed c.from_residual.result c.in_err-contents.field-0.0 _ c.from_residual.ensures.1 (λ why is. c.in_err-contents.ensures.unfit why (ap Err is) hover_row.shape refl (refl, refl))
