use Rattle.lsp_lsif.specs.Symbols.{show_range_based_document_symbol}
use Rattle.lsp_lsif.proofs.Unrolled.{write-level, is_of-level}
use Rattle.lsp_lsif.proofs.symbols.RangeBasedDocumentSymbolWire.to_value.Goals as goal

pub returns-clause-written : goal.returns-clause-written
returns-clause-written c = rw (write-level (show_range_based_document_symbol c.args.self.now)) c.write_symbol.ensures.written

pub returns-clause-of_shape : goal.returns-clause-of_shape
returns-clause-of_shape c = rw (is_of-level (show_range_based_document_symbol c.args.self.now)) c.write_symbol.ensures.of_shape
