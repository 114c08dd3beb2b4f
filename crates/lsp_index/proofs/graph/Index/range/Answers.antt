-- What stands under the id.
use Rattle.std.proofs.Common.{◌∙◌}
use Rattle.std.specs.Prelude.{Some, None}
use Rattle.lsp_index.specs.Queries.{range_in}
use Rattle.lsp_index.proofs.KeptLemmas.{found_in}
use Rattle.lsp_index.proofs.graph.Index.range.Goals as goal

pub returns-in-Some : goal.returns-in-Some
returns-in-Some c = λ g kept. c.range.ensures ∙ found_in range_in g c.args.self.now kept c.args.id.now (Some c.in-Some.node.now) c.in-Some.ensures.value

pub returns-in-None : goal.returns-in-None
returns-in-None c = λ g kept. found_in range_in g c.args.self.now kept c.args.id.now None c.in-None.ensures.value
