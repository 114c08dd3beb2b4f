use Rattle.std.proofs.Common.{refl, ap, inl}
use Rattle.std.specs.Prelude.{Err}
use Rattle.lsp_shape.proofs.Refusals.{passed}
use Rattle.lsp_offer_text.specs.Symbols.{document_symbol_options_row}
use Rattle.lsp_names.specs.Progress.{work_done_progress_options_row}
use Rattle.lsp_offer_text.proofs.symbols.DocumentSymbolOptionsWire.from_value.Goals as goal

pub returns-in_err-label-clause-unfit : goal.returns-in_err-label-clause-unfit
unfolding document_symbol_options_row work_done_progress_options_row
returns-in_err-label-clause-unfit c = passed c.from_residual.result c.in_err-label.field-0.0 _ c.from_residual.ensures.1 (λ why is. c.in_err-label.ensures.unfit why (ap Err is) document_symbol_options_row.shape refl (refl, inl refl))
