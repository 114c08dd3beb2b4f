use Rattle.std.proofs.Common.{refl, ap}
use Rattle.std.specs.Prelude.{Err}
use Rattle.lsp_shape.proofs.Refusals.{passed}
use Rattle.lsp_work.specs.Workspace.{configuration_params_row}
use Rattle.lsp_work.proofs.workspace.ConfigurationParamsWire.from_value.Goals as goal

pub returns-in_err-items-clause-unfit : goal.returns-in_err-items-clause-unfit
unfolding configuration_params_row
returns-in_err-items-clause-unfit c = passed c.from_residual.result c.in_err-items.field-0.0 _ c.from_residual.ensures.1 (λ why is. c.in_err-items.ensures.unfit why (ap Err is) configuration_params_row.shape refl refl)
