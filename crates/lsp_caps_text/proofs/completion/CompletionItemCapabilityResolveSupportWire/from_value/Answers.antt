use Rattle.std.proofs.Common.{refl, ap}
use Rattle.std.specs.Prelude.{Err}
use Rattle.lsp_shape.proofs.Refusals.{passed}
use Rattle.lsp_caps_text.specs.Completion.{completion_item_capability_resolve_support_row}
use Rattle.lsp_caps_text.proofs.completion.CompletionItemCapabilityResolveSupportWire.from_value.Goals as goal

pub returns-in_err-properties-clause-unfit : goal.returns-in_err-properties-clause-unfit
unfolding completion_item_capability_resolve_support_row
returns-in_err-properties-clause-unfit c = passed c.from_residual.result c.in_err-properties.field-0.0 _ c.from_residual.ensures.1 (λ why is. c.in_err-properties.ensures.unfit why (ap Err is) completion_item_capability_resolve_support_row.shape refl refl)
