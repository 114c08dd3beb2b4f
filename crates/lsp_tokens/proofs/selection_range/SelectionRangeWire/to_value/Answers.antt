use Rattle.lsp_tokens.specs.SelectionRange.{show_selection_range}
use Rattle.lsp_tokens.proofs.Unrolled.{write-level, is_of-level}
use Rattle.lsp_tokens.proofs.selection_range.SelectionRangeWire.to_value.Goals as goal

pub returns-clause-written : goal.returns-clause-written
returns-clause-written c = rw (write-level (show_selection_range c.args.self.now)) c.write_selection.ensures.written

pub returns-clause-of_shape : goal.returns-clause-of_shape
returns-clause-of_shape c = rw (is_of-level (show_selection_range c.args.self.now)) c.write_selection.ensures.of_shape
