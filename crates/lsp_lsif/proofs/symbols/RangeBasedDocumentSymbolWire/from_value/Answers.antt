use Rattle.std.proofs.Common.{◌∙◌}
use Rattle.serde_json.specs.View.{view}
use Rattle.lsp_shape.proofs.Refusals.{refuses_leads}
use Rattle.lsp_lsif.specs.Symbols.{range_based_document_symbol_shape, range_based_document_symbol_level}
use Rattle.lsp_lsif.proofs.Unrolled.{read-level}
use Rattle.lsp_lsif.proofs.symbols.RangeBasedDocumentSymbolWire.from_value.Goals as goal

pub returns-clause-read : goal.returns-clause-read
returns-clause-read c = rw (read-level (view c.args.value.now)) c.read_symbol.ensures.read

pub returns-clause-unfit : goal.returns-clause-unfit
returns-clause-unfit c = λ why is. refuses_leads {s = range_based_document_symbol_level.shape} {t = range_based_document_symbol_shape} (λ e none. read-level e ∙ none) (c.read_symbol.ensures.unfit why is)
