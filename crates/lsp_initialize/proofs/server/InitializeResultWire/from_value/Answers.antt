use Rattle.std.proofs.Common.{refl, ap}
use Rattle.std.specs.Prelude.{Err}
use Rattle.lsp_shape.proofs.Refusals.{passed}
use Rattle.lsp_initialize.specs.Server.{initialize_result_row}
use Rattle.lsp_initialize.proofs.server.InitializeResultWire.from_value.Goals as goal

pub returns-in_err-server_info-clause-unfit : goal.returns-in_err-server_info-clause-unfit
unfolding initialize_result_row
returns-in_err-server_info-clause-unfit c = passed c.from_residual.result c.in_err-server_info.field-0.0 _ c.from_residual.ensures.1 (λ why is. c.in_err-server_info.ensures.unfit why (ap Err is) initialize_result_row.shape refl (refl, refl))
