use Rattle.std.proofs.Common.{refl, ap, rules}
use Rattle.std.specs.Prelude.{Err}
use Rattle.serde_json.specs.View.{view}
use Rattle.lsp_shape.proofs.Told.{form_told}
use Rattle.lsp_offer_text.specs.CodeAction.{code_action_provider_capability_row}
use Rattle.lsp_offer_text.proofs.code_action.CodeActionProviderCapabilityWire.from_value.Goals as goal

pub returns-in_err-form-clause-unfit : goal.returns-in_err-form-clause-unfit
unfolding code_action_provider_capability_row
returns-in_err-form-clause-unfit c =
    form_told c.from_residual-in_err-form.result c.in_err-form.field-0.0 code_action_provider_capability_row.shape (view c.args.value.now) refl c.from_residual-in_err-form.ensures.1 (λ why is. c.in_err-form.ensures.refuses why (ap Err is))
    (λ why is. let none = c.in_err-form.ensures.unfit why (ap Err is) in search rules)
