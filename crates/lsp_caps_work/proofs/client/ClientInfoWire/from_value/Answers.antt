use Rattle.std.proofs.Common.{refl, ap}
use Rattle.std.specs.Prelude.{Err}
use Rattle.lsp_shape.proofs.Refusals.{passed}
use Rattle.lsp_caps_work.specs.Client.{client_info_row}
use Rattle.lsp_caps_work.proofs.client.ClientInfoWire.from_value.Goals as goal

pub returns-in_err-name-clause-unfit : goal.returns-in_err-name-clause-unfit
unfolding client_info_row
returns-in_err-name-clause-unfit c = passed c.from_residual.result c.in_err-name.field-0.0 _ c.from_residual.ensures.1 (λ why is. c.in_err-name.ensures.unfit why (ap Err is) client_info_row.shape refl (refl, refl))
