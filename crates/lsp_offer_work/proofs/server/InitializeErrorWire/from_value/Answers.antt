use Rattle.std.proofs.Common.{refl, ap}
use Rattle.std.specs.Prelude.{Err}
use Rattle.lsp_shape.proofs.Refusals.{passed}
use Rattle.lsp_offer_work.specs.Server.{initialize_error_row}
use Rattle.lsp_offer_work.proofs.server.InitializeErrorWire.from_value.Goals as goal

pub returns-in_err-retry-clause-unfit : goal.returns-in_err-retry-clause-unfit
unfolding initialize_error_row
returns-in_err-retry-clause-unfit c = passed c.from_residual.result c.in_err-retry.field-0.0 _ c.from_residual.ensures.1 (λ why is. c.in_err-retry.ensures.unfit why (ap Err is) initialize_error_row.shape refl refl)
