-- An empty line.
use Rattle.std.proofs.Common.{◌∙◌, sym}
use Rattle.lsp_index.proofs.LineLemmas.{empty_end}
use Rattle.lsp_index.proofs.lines.line_end.Goals as goal

pub returns-then-bytes-eq10 : goal.returns-then-bytes-eq10
returns-then-bytes-eq10 c = empty_end c.args.bytes.now (sym c.is_empty.ensures ∙ c.if-not-is_empty.true) c.if-bytes-eq10.true
