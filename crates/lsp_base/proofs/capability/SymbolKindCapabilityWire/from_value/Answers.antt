use Rattle.std.proofs.Common.{refl, ap}
use Rattle.std.specs.Prelude.{Err}
use Rattle.lsp_shape.proofs.Refusals.{passed}
use Rattle.lsp_base.specs.Capability.{symbol_kind_capability_row}
use Rattle.lsp_base.proofs.capability.SymbolKindCapabilityWire.from_value.Goals as goal

pub returns-in_err-value_set-clause-unfit : goal.returns-in_err-value_set-clause-unfit
unfolding symbol_kind_capability_row
returns-in_err-value_set-clause-unfit c = passed c.from_residual.result c.in_err-value_set.field-0.0 _ c.from_residual.ensures.1 (λ why is. c.in_err-value_set.ensures.unfit why (ap Err is) symbol_kind_capability_row.shape refl refl)
