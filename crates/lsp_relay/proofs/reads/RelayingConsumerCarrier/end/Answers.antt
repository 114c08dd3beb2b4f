-- What the end of input comes to.
use Rattle.lsp_server.proofs.TakingLemmas.{shown_did}
use Rattle.lsp_relay.specs.Shown.{show_relaying}
use Rattle.lsp_relay.proofs.RelayedLemmas.{did_end}
use Rattle.lsp_relay.proofs.reads.RelayingConsumerCarrier.end.Goals as goal

pub returns-clause-did : goal.returns-clause-did
returns-clause-did g c = shown_did show_relaying _ _ _ _ _ _ (did_end _ _ (g.O.Sink.taken c.args._sink.now) c.in_ok-take_end.ensures.took c.in_ok-take_end.ensures.silent)
