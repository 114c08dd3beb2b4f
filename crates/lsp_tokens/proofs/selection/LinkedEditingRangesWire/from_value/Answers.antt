use Rattle.std.proofs.Common.{refl, ap}
use Rattle.std.specs.Prelude.{Err}
use Rattle.lsp_shape.proofs.Refusals.{passed}
use Rattle.lsp_tokens.specs.Selection.{linked_editing_ranges_row}
use Rattle.lsp_tokens.proofs.selection.LinkedEditingRangesWire.from_value.Goals as goal

pub returns-in_err-ranges-clause-unfit : goal.returns-in_err-ranges-clause-unfit
unfolding linked_editing_ranges_row
returns-in_err-ranges-clause-unfit c = passed c.from_residual.result c.in_err-ranges.field-0.0 _ c.from_residual.ensures.1 (λ why is. c.in_err-ranges.ensures.unfit why (ap Err is) linked_editing_ranges_row.shape refl (refl, refl))
