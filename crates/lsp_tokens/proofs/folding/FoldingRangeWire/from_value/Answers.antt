use Rattle.std.proofs.Common.{refl, ap}
use Rattle.std.specs.Prelude.{Err}
use Rattle.lsp_shape.proofs.Refusals.{passed}
use Rattle.lsp_tokens.specs.Folding.{folding_range_row}
use Rattle.lsp_tokens.proofs.folding.FoldingRangeWire.from_value.Goals as goal

pub returns-in_err-start_line-clause-unfit : goal.returns-in_err-start_line-clause-unfit
unfolding folding_range_row
returns-in_err-start_line-clause-unfit c = passed c.from_residual.result c.in_err-start_line.field-0.0 _ c.from_residual.ensures.1 (λ why is. c.in_err-start_line.ensures.unfit why (ap Err is) folding_range_row.shape refl (refl, refl, refl, refl, refl, refl))
