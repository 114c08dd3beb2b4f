use Rattle.std.proofs.Common.{refl, ap}
use Rattle.std.specs.Prelude.{Err}
use Rattle.lsp_shape.proofs.Refusals.{passed}
use Rattle.lsp_base.specs.Diagnostic.{code_description_row}
use Rattle.lsp_base.proofs.diagnostic.CodeDescriptionWire.from_value.Goals as goal

pub returns-in_err-href-clause-unfit : goal.returns-in_err-href-clause-unfit
unfolding code_description_row
returns-in_err-href-clause-unfit c = passed c.from_residual.result c.in_err-href.field-0.0 _ c.from_residual.ensures.1 (λ why is. c.in_err-href.ensures.unfit why (ap Err is) code_description_row.shape refl refl)
