use Rattle.std.proofs.Common.{refl, ap}
use Rattle.std.specs.Prelude.{Err}
use Rattle.lsp_shape.proofs.Refusals.{passed}
use Rattle.lsp_shape.specs.Row.{row_of}
use Rattle.lsp_base.specs.Registration.{tag_support_row}
use Rattle.lsp_base.proofs.registration.TagSupportWire.from_value.Goals as goal

pub returns-in_err-value_set-clause-unfit : goal.returns-in_err-value_set-clause-unfit
returns-in_err-value_set-clause-unfit g c = passed c.from_residual.result c.in_err-value_set.field-0.0 _ c.from_residual.ensures.1 (λ why is. c.in_err-value_set.ensures.unfit why (ap Err is) (tag_support_row (row_of g.T.Wire.shape g.T.Wire.shown)).shape refl refl)
