use Rattle.std.proofs.Common.{refl, ap, rules}
use Rattle.std.specs.Prelude.{Err}
use Rattle.serde_json.specs.View.{view}
use Rattle.lsp_shape.proofs.Told.{form_told}
use Rattle.lsp_offer_lang.specs.LinkedEditing.{linked_editing_range_server_capabilities_row}
use Rattle.lsp_offer_lang.proofs.linked_editing.LinkedEditingRangeServerCapabilitiesWire.from_value.Goals as goal

pub returns-in_err-form-clause-unfit : goal.returns-in_err-form-clause-unfit
unfolding linked_editing_range_server_capabilities_row
returns-in_err-form-clause-unfit c =
    form_told c.from_residual-in_err-form.result c.in_err-form.field-0.0 linked_editing_range_server_capabilities_row.shape (view c.args.value.now) refl c.from_residual-in_err-form.ensures.1 (λ why is. c.in_err-form.ensures.refuses why (ap Err is))
    (λ why is. let none = c.in_err-form.ensures.unfit why (ap Err is) in search rules)
