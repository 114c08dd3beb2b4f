use Rattle.std.proofs.Common.{refl, ap, rules}
use Rattle.std.specs.Prelude.{Err}
use Rattle.serde_json.specs.View.{view}
use Rattle.lsp_shape.proofs.Told.{form_told}
use Rattle.lsp_lang_item.specs.Rename.{prepare_rename_response_row}
use Rattle.lsp_lang_item.specs.Rename.{prepare_rename_response_range_with_placeholder_row}
use Rattle.lsp_lang_item.specs.Rename.{prepare_rename_response_default_behavior_row}
use Rattle.lsp_lang_item.proofs.rename.PrepareRenameResponseWire.from_value.Goals as goal

pub returns-in_err-behavior-clause-unfit : goal.returns-in_err-behavior-clause-unfit
unfolding prepare_rename_response_row prepare_rename_response_range_with_placeholder_row prepare_rename_response_default_behavior_row
returns-in_err-behavior-clause-unfit c =
    form_told c.from_residual-in_err-behavior.result c.in_err-behavior.field-0.0 prepare_rename_response_row.shape (view c.args.value.now) refl c.from_residual-in_err-behavior.ensures.1 (λ why is. c.in_err-behavior.ensures.refuses why (ap Err is))
    (λ why is. let none = c.in_err-behavior.ensures.unfit why (ap Err is) in search rules)
