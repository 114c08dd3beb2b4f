use Rattle.std.proofs.Common.{ap}
use Rattle.std.specs.Prelude.{Err}
use Rattle.lsp_shape.proofs.Refusals.{passed}
use Rattle.lsp_shape.proofs.object.WideReader.new.Goals as goal

pub returns-in_err-new-clause-unfit : goal.returns-in_err-new-clause-unfit
returns-in_err-new-clause-unfit c = passed c.from_residual.result c.in_err-new.field-0.0 _ c.from_residual.ensures.1 (λ why is. c.in_err-new.ensures.unfit why (ap Err is))
