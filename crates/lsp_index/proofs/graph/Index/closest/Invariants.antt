-- The closest of the vertices so far.
use Rattle.std.proofs.Common.{◌≡◌, map, take, fold}
use Rattle.std.specs.Prelude.{None, option_map}
use Rattle.lsp_index.specs.Shown.{show_ids, show_named, show_vertex_of}
use Rattle.lsp_index.specs.Queries.{with_candidate}
use Rattle.lsp_index.proofs.graph.Index.closest.Given as goal

abbrev pub invariant-loop-i : goal.invariant-loop-i
invariant-loop-i l = option_map show_named l.closest ≡ fold (with_candidate (show_ids l.named.keys) l.position) None (map show_vertex_of (take l.i l.self.vertices.entries))
