-- What taking the items told comes to, and writing what is sent.
use Rattle.std.proofs.Common.{rules, ◌≡◌}
use Rattle.lsp_server.specs.declared.step.ServeError.TheVariants.{NoMemory}
use Rattle.lsp_server.specs.Consuming.{stops, consumer_outcome}
use Rattle.lsp_server.proofs.TakingLemmas.{shown_did}
use Rattle.lsp_relay.specs.Shown.{show_carrier, show_relaying}
use Rattle.lsp_relay.proofs.RelaysLemmas.{did_told, did_some}
use Rattle.lsp_relay.proofs.RelayedLemmas.{did_nothing}
use Rattle.lsp_relay.proofs.reads.RelayingConsumerCarrier.take.Goals as goal

pub returns-in_err-feed-clause-did : goal.returns-in_err-feed-clause-did
returns-in_err-feed-clause-did g c =
    let is : consumer_outcome c.from_residual.result ≡ stops NoMemory = search rules in
    rw is (shown_did show_relaying _ _ _ _ _ _ (did_nothing _ _ c.args.piece.now (g.O.Sink.taken c.args.sink.now) NoMemory tt))

pub returns-in_err-take_told-clause-did : goal.returns-in_err-take_told-clause-did
returns-in_err-take_told-clause-did g c =
    let is : consumer_outcome c.from_residual-in_err-take_told.result ≡ stops NoMemory = search rules in
    rw is (shown_did show_relaying _ _ _ _ _ _ (did_nothing _ _ c.args.piece.now (g.O.Sink.taken c.args.sink.now) NoMemory tt))

pub returns-in_err-send-clause-did : goal.returns-in_err-send-clause-did
returns-in_err-send-clause-did g c =
    let is : consumer_outcome c.from_residual-in_err-send.result ≡ stops c.in_err-send.field-0.0 = search rules in
    rw is (shown_did show_relaying _ _ _ _ _ _ (did_some _ _ (show_carrier c.take_told.new.self) c.take_told.new.codec c.args.piece.now (g.O.Sink.taken c.args.sink.now) (g.O.Sink.taken c.send.new.sink) c.in_err-send.field-0.0 c.requires
    (rw c.in_ok-feed.ensures.ok at c.in_ok-take_told.ensures.took) c.in_err-send.ensures.sent.others c.in_err-send.ensures.sent.part))

pub returns-clause-did : goal.returns-clause-did
returns-clause-did g c =
    shown_did show_relaying _ _ _ _ _ _ (did_told _ _ (show_carrier c.take_told.new.self) c.args.piece.now (g.O.Sink.taken c.args.sink.now) (g.O.Sink.taken c.send.new.sink) c.requires
    (rw c.in_ok-feed.ensures.ok at c.in_ok-take_told.ensures.took) c.in_ok-take_told.ensures.all c.in_ok-send.ensures.rest c.in_ok-send.ensures.sent.ok)
