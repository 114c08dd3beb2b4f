-- The ranges so far were put in.
use Rattle.std.proofs.Common.{◌≡◌, map, take, fold}
use Rattle.lsp_base.specs.Position.{id_of}
use Rattle.lsp_uri.specs.Uri.{uri_text}
use Rattle.lsp_index.specs.Graph.{Graph}
use Rattle.lsp_index.specs.Kept.{IsKept}
use Rattle.lsp_index.specs.Shown.{show_location}
use Rattle.lsp_index.specs.Queries.{with_range, range_at}
use Rattle.lsp_index.proofs.graph.Index.add_ranges.Given as goal

abbrev pub invariant-loop-id : goal.invariant-loop-id
invariant-loop-id l = (g : Graph) → IsKept g l.self
    → map show_location l.found.keys ≡ fold (λ ls id. with_range (uri_text l.uri) ls (range_at g id)) (map show_location l.initial.found.keys) (map id_of (take l.id-index l.id-items))
