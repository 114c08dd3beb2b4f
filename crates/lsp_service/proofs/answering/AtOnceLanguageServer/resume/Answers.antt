-- No call is made on the desk.
use Rattle.std.proofs.Common.{refl, []}
use Rattle.lsp_desk.proofs.TraceLemmas.{grows_none}
use Rattle.lsp_service.proofs.answering.AtOnceLanguageServer.resume.Goals as goal

pub returns-clause-resumed : goal.returns-clause-resumed
returns-clause-resumed g c = record { trace = []; grows = grows_none g.D.Caller.meaning _; holds = record { asks = refl; same = refl; is = refl } }
