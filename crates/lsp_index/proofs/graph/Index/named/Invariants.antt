-- The ids of the edges so far were put in.
use Rattle.std.proofs.Common.{◌≡◌, map, take, fold, []}
use Rattle.lsp_rpc.specs.Shown.{show_id}
use Rattle.lsp_uri.specs.Uri.{uri_text}
use Rattle.lsp_index.specs.Graph.{Graph}
use Rattle.lsp_index.specs.Kept.{IsKept}
use Rattle.lsp_index.specs.Shown.{show_outgoing}
use Rattle.lsp_index.specs.Queries.{with_contained}
use Rattle.lsp_index.proofs.graph.Index.named.Given as goal

abbrev pub invariant-loop-outgoing : goal.invariant-loop-outgoing
invariant-loop-outgoing l = (g : Graph) → IsKept g l.self → map show_id l.named.keys ≡ fold (with_contained g (uri_text l.uri)) [] (map show_outgoing (take l.outgoing-index l.outgoing-items))
