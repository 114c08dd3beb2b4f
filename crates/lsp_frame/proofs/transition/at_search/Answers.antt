use Rattle.std.proofs.Common.{ap, codes, arith, Some, None}
use Rattle.lsp_frame.specs.Transitions.{at_place}
use Rattle.lsp_frame.proofs.FirstPlace.{first_of_find}
use Rattle.lsp_frame.proofs.transition.at_search.Goals as goal

pub returns-in-Some-clause-value : goal.returns-in-Some-clause-value
returns-in-Some-clause-value c = ap at_place (first_of_find (codes "Content-Length") (omega arith) c.args.bytes.now (Some c.in-Some.place) c.in-Some.ensures)

pub returns-in-None-clause-value : goal.returns-in-None-clause-value
returns-in-None-clause-value c = ap at_place (first_of_find (codes "Content-Length") (omega arith) c.args.bytes.now None c.in-None.ensures)
