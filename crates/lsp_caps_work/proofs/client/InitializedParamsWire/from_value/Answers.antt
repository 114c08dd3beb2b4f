use Rattle.std.proofs.Common.{refl, ap, inl, inr}
use Rattle.std.specs.Prelude.{Err}
use Rattle.lsp_shape.proofs.Refusals.{passed, passed_in}
use Rattle.lsp_caps_work.specs.Client.{initialized_params_row}
use Rattle.lsp_caps_work.proofs.client.InitializedParamsWire.from_value.Goals as goal

pub returns-in_err-new-clause-unfit : goal.returns-in_err-new-clause-unfit
unfolding initialized_params_row
returns-in_err-new-clause-unfit c = passed c.from_residual.result c.in_err-new.field-0.0 _ c.from_residual.ensures.1 (λ why is. c.in_err-new.ensures.unfit why (ap Err is) initialized_params_row.shape refl)
