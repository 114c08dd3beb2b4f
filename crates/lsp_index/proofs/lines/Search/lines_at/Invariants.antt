-- The lines at the positions so far.
use Rattle.std.proofs.Common.{take}
use Rattle.lsp_index.specs.Graph.{Graph}
use Rattle.lsp_index.specs.Kept.{IsKept}
use Rattle.lsp_index.specs.Shown.{show_query}
use Rattle.lsp_index.specs.Answered.{AreLines, IsLine, query_at}
use Rattle.lsp_index.proofs.lines.Search.lines_at.Given as goal

abbrev pub invariant-loop-position : goal.invariant-loop-position
invariant-loop-position l = (g : Graph) → IsKept g l.self.index → AreLines (λ p line. IsLine (query_at (show_query l.self.query) p) g line) (take l.position-index l.positions) l.lines.items
