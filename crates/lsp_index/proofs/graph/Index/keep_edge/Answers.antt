-- An edge `item`.
use Rattle.lsp_index.proofs.graph.Index.keep_edge.Goals as goal

pub returns-in-Definition-request-clause-kept : goal.returns-in-Definition-request-clause-kept
returns-in-Definition-request-clause-kept c = rw c.in-Item.is (rw c.in-Definition-request.is c.keep_item.ensures)

pub returns-in-References-request-clause-kept : goal.returns-in-References-request-clause-kept
returns-in-References-request-clause-kept c = rw c.in-Item.is (rw c.in-References-request.is c.keep_item-in-References-request.ensures)
