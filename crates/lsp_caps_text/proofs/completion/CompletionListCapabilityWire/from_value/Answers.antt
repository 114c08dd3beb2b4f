use Rattle.std.proofs.Common.{refl, ap}
use Rattle.std.specs.Prelude.{Err}
use Rattle.lsp_shape.proofs.Refusals.{passed}
use Rattle.lsp_caps_text.specs.Completion.{completion_list_capability_row}
use Rattle.lsp_caps_text.proofs.completion.CompletionListCapabilityWire.from_value.Goals as goal

pub returns-in_err-item_defaults-clause-unfit : goal.returns-in_err-item_defaults-clause-unfit
unfolding completion_list_capability_row
returns-in_err-item_defaults-clause-unfit c = passed c.from_residual.result c.in_err-item_defaults.field-0.0 _ c.from_residual.ensures.1 (λ why is. c.in_err-item_defaults.ensures.unfit why (ap Err is) completion_list_capability_row.shape refl refl)
