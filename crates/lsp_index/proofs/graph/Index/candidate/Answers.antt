-- What stands at the place.
use Rattle.std.proofs.Common.{◌∙◌, ap, cond}
use Rattle.std.specs.Prelude.{None, option_and_then}
use Rattle.std.specs.List.{list_any}
use Rattle.lsp_rpc.specs.Ids.{same_id}
use Rattle.lsp_rpc.specs.Shown.{show_id}
use Rattle.lsp_index.specs.Shown.{show_ids, show_vertex_of}
use Rattle.lsp_index.specs.Queries.{range_holding, candidate_in}
use Rattle.lsp_index.proofs.graph.Index.candidate.Goals as goal

pub returns-in-Some : goal.returns-in-Some
returns-in-Some c =
    let id = show_id c.in-Some.id.now in
    let named = show_ids c.args.named.now.keys in
    c.named_range.ensures ∙ ap (λ r. cond (list_any (same_id id) named) (range_holding id c.args.position r) None) c.range.ensures
    ∙ ap (option_and_then (λ e. candidate_in named c.args.position (show_vertex_of e))) c.in-Some.ensures.entry
