-- The message was heard, or the item was dropped.
use Rattle.std.proofs.Common.{◌++◌, ◌∙◌, refl, sym, ap}
use Rattle.lsp_rpc.specs.Shown.{show_message}
use Rattle.lsp_frame.specs.Codec.{message}
use Rattle.lsp_relay.specs.Relay.{sent_frames}
use Rattle.lsp_relay.specs.Shown.{show_carrier}
use Rattle.lsp_relay.proofs.NoteLemmas.{event_free}
use Rattle.lsp_relay.proofs.TookLemmas.{counted_none, took_heard, took_dropped}
use Rattle.lsp_relay.proofs.carrier.Carrier.take.Goals as goal

pub deliver-requires-clause-float_free : goal.deliver-requires-clause-float_free
deliver-requires-clause-float_free c =
    event_free c.args.self.now.editors (show_message c.args.message) (c.in-Some.side, show_message c.in-Some.message) (sym c.in-Some.ensures)

pub returns-in_ok-push_sent-in-Some-clause-took : goal.returns-in_ok-push_sent-in-Some-clause-took
returns-in_ok-push_sent-in-Some-clause-took c =
    let old = c.args.self.now in
    took_heard (show_carrier old) _ (message (show_message c.args.message)) (c.in-Some.side, show_message c.in-Some.message) (sym c.in-Some.ensures)
    refl c.in_ok-sent-in-Some.ensures.state c.saturating_add-self.ensures (counted_none old.relayed.dropped old.dropped_fits)
    (c.in_ok-push_sent-in-Some.ensures ∙ ap (λ l. old.waiting.items ++ sent_frames l) c.in_ok-sent-in-Some.ensures.sent)

pub returns-in-None-clause-took : goal.returns-in-None-clause-took
returns-in-None-clause-took c =
    let old = c.args.self.now in
    took_dropped (show_carrier old) _ (message (show_message c.args.message)) (sym c.in-None.ensures)
    refl refl (counted_none old.relayed.passed old.passed_fits) c.saturating_add-self-in-None.ensures refl
