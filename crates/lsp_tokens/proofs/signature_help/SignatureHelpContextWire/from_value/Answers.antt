use Rattle.std.proofs.Common.{refl, ap}
use Rattle.std.specs.Prelude.{Err}
use Rattle.lsp_shape.proofs.Refusals.{passed}
use Rattle.lsp_tokens.specs.SignatureHelp.{signature_help_context_row}
use Rattle.lsp_tokens.proofs.signature_help.SignatureHelpContextWire.from_value.Goals as goal

pub returns-in_err-trigger_kind-clause-unfit : goal.returns-in_err-trigger_kind-clause-unfit
unfolding signature_help_context_row
returns-in_err-trigger_kind-clause-unfit c = passed c.from_residual.result c.in_err-trigger_kind.field-0.0 _ c.from_residual.ensures.1 (λ why is. c.in_err-trigger_kind.ensures.unfit why (ap Err is) signature_help_context_row.shape refl (refl, refl, refl, refl))
