use Rattle.std.proofs.Common.{refl, ap}
use Rattle.std.specs.Prelude.{Err}
use Rattle.lsp_shape.proofs.Refusals.{passed}
use Rattle.lsp_lang_goto.specs.Symbols.{workspace_symbol_row}
use Rattle.lsp_lang_goto.proofs.symbols.WorkspaceSymbolWire.from_value.Goals as goal

pub returns-in_err-name-clause-unfit : goal.returns-in_err-name-clause-unfit
unfolding workspace_symbol_row
returns-in_err-name-clause-unfit c = passed c.from_residual.result c.in_err-name.field-0.0 _ c.from_residual.ensures.1 (λ why is. c.in_err-name.ensures.unfit why (ap Err is) workspace_symbol_row.shape refl (refl, refl, refl, refl, refl, refl))
