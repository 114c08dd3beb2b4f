-- From the closest of the ranges that the graph names, or from none.
use Rattle.std.proofs.Common.{◌∙◌}
use Rattle.lsp_uri.specs.Uri.{uri_text}
use Rattle.lsp_index.specs.Queries.{chosen_at}
use Rattle.lsp_index.proofs.SetLemmas.{chosen_is}
use Rattle.lsp_index.proofs.graph.Index.reached_at.Goals as goal

pub returns : goal.returns
returns c = λ g kept.
    c.walk.ensures g kept (chosen_at g (uri_text c.args.uri.now) c.args.position)
    (c.closest.ensures ∙ chosen_is g c.args.self.now kept (uri_text c.args.uri.now) c.args.position _ (c.in_ok-named.ensures g kept))
