-- What the reads come to for a relay.
use Rattle.std.proofs.Common.{rules, ◌≡◌}
use Rattle.std.specs.Prelude.{Err}
use Rattle.std.specs.Result.{result_err}
use Rattle.lsp_server.specs.Reads.{moment}
use Rattle.lsp_server.specs.Consuming.{done, stops, last_outcome}
use Rattle.lsp_server.proofs.KnownLemmas.{if_err, if_told}
use Rattle.lsp_server.proofs.OrderLemmas.{made_in_order}
use Rattle.lsp_server.proofs.TakingLemmas.{through_lawful, seen_took, seen_all_took, seen_last}
use Rattle.lsp_relay.specs.Relaying.{Stand}
use Rattle.lsp_relay.specs.Shown.{show_carrier, show_relaying}
use Rattle.lsp_relay.proofs.RelaysLemmas.{relays_lawful}
use Rattle.lsp_relay.proofs.RelayedLemmas.{opened, no_desk_of, between, all_passed, done_all, all_part, nothing_part}
use Rattle.lsp_relay.proofs.reads.relay_over.Goals as goal

pub over_reads-requires-clause-lawful : goal.over_reads-requires-clause-lawful
over_reads-requires-clause-lawful g c = through_lawful show_relaying relays_lawful

pub over_reads-requires-clause-opened : goal.over_reads-requires-clause-opened
over_reads-requires-clause-opened g c = opened c.args.editors _ c.in_ok-carrier.ensures c.default-codec.ensures

-- ---- nothing was read

pub returns-in_err-carrier-clause-part : goal.returns-in_err-carrier-clause-part
returns-in_err-carrier-clause-part g c =
    let start = moment (g.T.Transport.left c.args.io.now) (g.T.Sink.taken c.args.io.now) (g.T.Sink.flushed c.args.io.now) in
    if_told (g.T.Transport.left c.args.io.now) _ (λ bytes is. nothing_part c.args.editors bytes start 4096 is)

-- ---- at the end of input

pub returns-clause-headline : goal.returns-clause-headline
returns-clause-headline g c =
    let start = moment (g.T.Transport.left c.args.io.now) (g.T.Sink.taken c.args.io.now) (g.T.Sink.flushed c.args.io.now) in
    let now = moment (g.T.Transport.left c.over_reads.new.io) (g.T.Sink.taken c.over_reads.new.io) (g.T.Sink.flushed c.over_reads.new.io) in
    let a : Stand = record { place = show_carrier c.in_ok-carrier.carrier; codec = c.default-codec.result } in
    let b : Stand = record { place = show_carrier c.over_reads.new.state; codec = c.over_reads.new.consumer.codec } in
    if_told (g.T.Transport.left c.args.io.now) _ (λ bytes is. done_all c.args.editors a c.in_ok-carrier.ensures c.default-codec.ensures bytes start is b now 4096 (seen_last show_relaying _ _ start now 4096 done (c.in_ok-over_reads.ensures.last tt)))

pub returns-clause-part : goal.returns-clause-part
returns-clause-part g c =
    let start = moment (g.T.Transport.left c.args.io.now) (g.T.Sink.taken c.args.io.now) (g.T.Sink.flushed c.args.io.now) in
    let now = moment (g.T.Transport.left c.over_reads.new.io) (g.T.Sink.taken c.over_reads.new.io) (g.T.Sink.flushed c.over_reads.new.io) in
    let a : Stand = record { place = show_carrier c.in_ok-carrier.carrier; codec = c.default-codec.result } in
    let b : Stand = record { place = show_carrier c.over_reads.new.state; codec = c.over_reads.new.consumer.codec } in
    if_told (g.T.Transport.left c.args.io.now) _ (λ bytes is. all_part c.args.editors a c.in_ok-carrier.ensures c.default-codec.ensures bytes start is b now 4096 c.over_reads.result
    (λ ends. seen_last show_relaying _ _ start now 4096 (last_outcome c.over_reads.result) (c.over_reads.ensures.last ends))
    (if_err c.over_reads.result (λ e took between. seen_took show_relaying _ _ start now (took between)) c.over_reads.ensures.took))

pub returns-clause-in_order : goal.returns-clause-in_order
returns-clause-in_order g c =
    let start = moment (g.T.Transport.left c.args.io.now) (g.T.Sink.taken c.args.io.now) (g.T.Sink.flushed c.args.io.now) in
    let now = moment (g.T.Transport.left c.over_reads.new.io) (g.T.Sink.taken c.over_reads.new.io) (g.T.Sink.flushed c.over_reads.new.io) in
    let a : Stand = record { place = show_carrier c.in_ok-carrier.carrier; codec = c.default-codec.result } in
    let b : Stand = record { place = show_carrier c.over_reads.new.state; codec = c.over_reads.new.consumer.codec } in
    if_told (g.T.Transport.left c.args.io.now) _ (λ bytes is. made_in_order (g.T.Transport.reads c.args.io.now) (g.T.Transport.reads c.over_reads.new.io) _ _
    (λ n t. all_passed c.args.editors a c.in_ok-carrier.ensures c.default-codec.ensures bytes start is n (seen_all_took show_relaying _ start n t)) c.over_reads.ensures.in_order)

-- ---- at an error

pub returns-in_err-over_reads-clause-faults : goal.returns-in_err-over_reads-clause-faults
returns-in_err-over_reads-clause-faults g c =
    let is : result_err c.from_residual-in_err-over_reads.result ≡ result_err c.over_reads.result = search rules in
    rw is c.over_reads.ensures.faults

pub returns-in_err-over_reads-clause-exact : goal.returns-in_err-over_reads-clause-exact
returns-in_err-over_reads-clause-exact g c =
    let start = moment (g.T.Transport.left c.args.io.now) (g.T.Sink.taken c.args.io.now) (g.T.Sink.flushed c.args.io.now) in
    let now = moment (g.T.Transport.left c.over_reads.new.io) (g.T.Sink.taken c.over_reads.new.io) (g.T.Sink.flushed c.over_reads.new.io) in
    let a : Stand = record { place = show_carrier c.in_ok-carrier.carrier; codec = c.default-codec.result } in
    let b : Stand = record { place = show_carrier c.over_reads.new.state; codec = c.over_reads.new.consumer.codec } in
    let is : c.from_residual-in_err-over_reads.result ≡ Err c.in_err-over_reads.field-0.0 = search rules in
    rw is (λ at. if_told (g.T.Transport.left c.args.io.now) _ (λ bytes is. between c.args.editors a c.in_ok-carrier.ensures c.default-codec.ensures bytes start is b now (seen_took show_relaying _ _ start now (c.in_err-over_reads.ensures.took at))))

pub returns-in_err-over_reads-clause-no_desk : goal.returns-in_err-over_reads-clause-no_desk
returns-in_err-over_reads-clause-no_desk g c =
    let start = moment (g.T.Transport.left c.args.io.now) (g.T.Sink.taken c.args.io.now) (g.T.Sink.flushed c.args.io.now) in
    let now = moment (g.T.Transport.left c.over_reads.new.io) (g.T.Sink.taken c.over_reads.new.io) (g.T.Sink.flushed c.over_reads.new.io) in
    let a : Stand = record { place = show_carrier c.in_ok-carrier.carrier; codec = c.default-codec.result } in
    let b : Stand = record { place = show_carrier c.over_reads.new.state; codec = c.over_reads.new.consumer.codec } in
    let is : c.from_residual-in_err-over_reads.result ≡ Err c.in_err-over_reads.field-0.0 = search rules in
    rw is (no_desk_of a b start now 4096 c.in_err-over_reads.field-0.0 (λ ends. seen_last show_relaying _ _ start now 4096 (stops c.in_err-over_reads.field-0.0) (c.in_err-over_reads.ensures.last ends)))

pub returns-in_err-over_reads-clause-part : goal.returns-in_err-over_reads-clause-part
returns-in_err-over_reads-clause-part g c =
    let start = moment (g.T.Transport.left c.args.io.now) (g.T.Sink.taken c.args.io.now) (g.T.Sink.flushed c.args.io.now) in
    let now = moment (g.T.Transport.left c.over_reads.new.io) (g.T.Sink.taken c.over_reads.new.io) (g.T.Sink.flushed c.over_reads.new.io) in
    let a : Stand = record { place = show_carrier c.in_ok-carrier.carrier; codec = c.default-codec.result } in
    let b : Stand = record { place = show_carrier c.over_reads.new.state; codec = c.over_reads.new.consumer.codec } in
    if_told (g.T.Transport.left c.args.io.now) _ (λ bytes is. all_part c.args.editors a c.in_ok-carrier.ensures c.default-codec.ensures bytes start is b now 4096 c.over_reads.result
    (λ ends. seen_last show_relaying _ _ start now 4096 (last_outcome c.over_reads.result) (c.over_reads.ensures.last ends))
    (if_err c.over_reads.result (λ e took between. seen_took show_relaying _ _ start now (took between)) c.over_reads.ensures.took))

pub returns-in_err-over_reads-clause-in_order : goal.returns-in_err-over_reads-clause-in_order
returns-in_err-over_reads-clause-in_order g c =
    let start = moment (g.T.Transport.left c.args.io.now) (g.T.Sink.taken c.args.io.now) (g.T.Sink.flushed c.args.io.now) in
    let now = moment (g.T.Transport.left c.over_reads.new.io) (g.T.Sink.taken c.over_reads.new.io) (g.T.Sink.flushed c.over_reads.new.io) in
    let a : Stand = record { place = show_carrier c.in_ok-carrier.carrier; codec = c.default-codec.result } in
    let b : Stand = record { place = show_carrier c.over_reads.new.state; codec = c.over_reads.new.consumer.codec } in
    if_told (g.T.Transport.left c.args.io.now) _ (λ bytes is. made_in_order (g.T.Transport.reads c.args.io.now) (g.T.Transport.reads c.over_reads.new.io) _ _
    (λ n t. all_passed c.args.editors a c.in_ok-carrier.ensures c.default-codec.ensures bytes start is n (seen_all_took show_relaying _ start n t)) c.over_reads.ensures.in_order)
