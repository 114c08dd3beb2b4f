use Rattle.std.proofs.Common.{refl, ap}
use Rattle.std.specs.Prelude.{Err}
use Rattle.lsp_shape.proofs.Refusals.{passed}
use Rattle.lsp_work.specs.Workspace.{configuration_item_row}
use Rattle.lsp_work.proofs.workspace.ConfigurationItemWire.from_value.Goals as goal

pub returns-in_err-scope_uri-clause-unfit : goal.returns-in_err-scope_uri-clause-unfit
unfolding configuration_item_row
returns-in_err-scope_uri-clause-unfit c = passed c.from_residual.result c.in_err-scope_uri.field-0.0 _ c.from_residual.ensures.1 (λ why is. c.in_err-scope_uri.ensures.unfit why (ap Err is) configuration_item_row.shape refl (refl, refl))
