-- What taking the bytes comes to.
use Rattle.std.proofs.Common.{rules, ◌≡◌}
use Rattle.lsp_server.specs.declared.step.ServeError.TheVariants.{NoMemory}
use Rattle.lsp_server.specs.Consuming.{stops, consumer_outcome}
use Rattle.lsp_index.proofs.AnsweredLemmas.{did_piece, did_nothing}
use Rattle.lsp_index.proofs.lines.LinesConsumerSearch.take.Goals as goal

pub returns-in_err-take_bytes-clause-did : goal.returns-in_err-take_bytes-clause-did
returns-in_err-take_bytes-clause-did g c =
    let is : consumer_outcome c.from_residual.result ≡ stops NoMemory = search rules in
    rw is (did_nothing _ _ c.args.piece.now (g.O.Sink.taken c.args._sink.now) NoMemory tt)

pub returns-clause-did : goal.returns-clause-did
returns-clause-did g c = did_piece _ _ c.args.piece.now (g.O.Sink.taken c.args._sink.now) _ c.in_ok-take_bytes.ensures
