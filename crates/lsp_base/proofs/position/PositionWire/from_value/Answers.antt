use Rattle.std.proofs.Common.{refl, ap}
use Rattle.std.specs.Prelude.{Err}
use Rattle.lsp_shape.proofs.Refusals.{passed}
use Rattle.lsp_base.specs.Position.{position_row}
use Rattle.lsp_base.proofs.position.PositionWire.from_value.Goals as goal

pub returns-in_err-line-clause-unfit : goal.returns-in_err-line-clause-unfit
unfolding position_row
returns-in_err-line-clause-unfit c = passed c.from_residual.result c.in_err-line.field-0.0 _ c.from_residual.ensures.1 (λ why is. c.in_err-line.ensures.unfit why (ap Err is) position_row.shape refl (refl, refl))
