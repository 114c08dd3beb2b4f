use Rattle.std.proofs.Common.{refl, ap}
use Rattle.std.specs.Prelude.{Err}
use Rattle.lsp_shape.proofs.Refusals.{passed}
use Rattle.lsp_lang_goto.specs.References.{reference_context_row}
use Rattle.lsp_lang_goto.proofs.references.ReferenceContextWire.from_value.Goals as goal

pub returns-in_err-include_declaration-clause-unfit : goal.returns-in_err-include_declaration-clause-unfit
unfolding reference_context_row
returns-in_err-include_declaration-clause-unfit c = passed c.from_residual.result c.in_err-include_declaration.field-0.0 _ c.from_residual.ensures.1 (λ why is. c.in_err-include_declaration.ensures.unfit why (ap Err is) reference_context_row.shape refl refl)
