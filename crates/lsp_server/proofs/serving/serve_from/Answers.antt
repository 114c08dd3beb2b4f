-- What the reads come to for a session that serves on.
use Rattle.std.proofs.Common.{rules}
use Rattle.lsp_session.specs.Run.{Order}
use Rattle.std.specs.Prelude.{IfSome}
use Rattle.std.specs.Result.{result_err}
use Rattle.lsp_session.specs.SessionView.{session_view}
use Rattle.lsp_server.specs.Course.{course_from, picked}
use Rattle.lsp_server.specs.Served.{call_bytes}
use Rattle.lsp_server.specs.ServesOn.{ServesOn}
use Rattle.lsp_server.specs.Consuming.{last_outcome}
use Rattle.lsp_server.specs.Reads.{moment}
use Rattle.lsp_server.specs.ServerView.{spot, see_serving}
use Rattle.lsp_server.proofs.KnownLemmas.{if_err, if_told}
use Rattle.lsp_server.proofs.TakingLemmas.{through_lawful, seen_took, seen_last}
use Rattle.lsp_server.proofs.ServesLemmas.{serves_lawful}
use Rattle.lsp_server.proofs.ServedLemmas.{all_grown, may_serve, took_open}
use Rattle.lsp_server.proofs.ServesOnLemmas.{serves_on}
use Rattle.lsp_server.proofs.serving.serve_from.Goals as goal

pub over_reads-requires-clause-lawful : goal.over_reads-requires-clause-lawful
over_reads-requires-clause-lawful g c =
    let sem = g.H.Handlers.semantics in
    let m = g.D.Caller.meaning in
    let order : Order g.P.Pick.State = record { gives = g.P.Pick.gives; later = g.P.Pick.later } in
    through_lawful (see_serving sem m g.P.Pick.state) (serves_lawful sem g.met.H.Handlers.laws m order)

pub returns-clause-serves : goal.returns-clause-serves
returns-clause-serves g c =
    let sem = g.H.Handlers.semantics in
    let m = g.D.Caller.meaning in
    let order : Order g.P.Pick.State = record { gives = g.P.Pick.gives; later = g.P.Pick.later } in
    let start = moment (g.T.Transport.left c.args.io.now) (g.T.Sink.taken c.args.io.now) (g.T.Sink.flushed c.args.io.now) in
    let now = moment (g.T.Transport.left c.over_reads.new.io) (g.T.Sink.taken c.over_reads.new.io) (g.T.Sink.flushed c.over_reads.new.io) in
    let a = spot sem m c.args.session.now (g.P.Pick.state c.args.pick.now) c.args.codec.now c.args.rounds in
    let b = spot sem m c.over_reads.new.state (g.P.Pick.state c.over_reads.new.consumer.pick.now) c.over_reads.new.consumer.codec.now c.over_reads.new.consumer.rounds in
    let view = session_view sem m c.args.session.now in
    let view_after = session_view sem m c.over_reads.new.state in
    let all : IfSome (g.T.Transport.left c.args.io.now) (λ bytes. ServesOn (course_from sem m order c.args.rounds c.args.codec.now.settings view (g.P.Pick.state c.args.pick.now)) c.args.codec.now
    (call_bytes bytes now.left start.taken now.taken) (picked view_after (g.P.Pick.state c.over_reads.new.consumer.pick.now)) view_after.desk (result_err c.over_reads.result)) =
    if_told (g.T.Transport.left c.args.io.now) _ (λ bytes is. serves_on sem g.met.H.Handlers.laws m order a c.args.codec.now.settings bytes start is b now 4096 c.over_reads.result
    (λ ends. seen_last (see_serving sem m g.P.Pick.state) _ _ start now 4096 (last_outcome c.over_reads.result) (c.over_reads.ensures.last ends))
    (if_err c.over_reads.result (λ e took between. seen_took (see_serving sem m g.P.Pick.state) _ _ start now (took between)) c.over_reads.ensures.took)) in
    search rules

pub returns-clause-session : goal.returns-clause-session
returns-clause-session g c =
    let sem = g.H.Handlers.semantics in
    let m = g.D.Caller.meaning in
    let order : Order g.P.Pick.State = record { gives = g.P.Pick.gives; later = g.P.Pick.later } in
    let start = moment (g.T.Transport.left c.args.io.now) (g.T.Sink.taken c.args.io.now) (g.T.Sink.flushed c.args.io.now) in
    let now = moment (g.T.Transport.left c.over_reads.new.io) (g.T.Sink.taken c.over_reads.new.io) (g.T.Sink.flushed c.over_reads.new.io) in
    let a = spot sem m c.args.session.now (g.P.Pick.state c.args.pick.now) c.args.codec.now c.args.rounds in
    let b = spot sem m c.over_reads.new.state (g.P.Pick.state c.over_reads.new.consumer.pick.now) c.over_reads.new.consumer.codec.now c.over_reads.new.consumer.rounds in
    record {
      ready = search rules;
      between = if_err c.over_reads.result (λ e took between. may_serve sem m order c.over_reads.new.state (g.P.Pick.state c.over_reads.new.consumer.pick.now) c.over_reads.new.consumer.codec.now c.over_reads.new.consumer.rounds
          (took_open sem m order a b start now (seen_took (see_serving sem m g.P.Pick.state) _ _ start now (took between)))) c.over_reads.ensures.took;
      grown = all_grown sem m order a b start now 4096 c.over_reads.result (λ ends. seen_last (see_serving sem m g.P.Pick.state) _ _ start now 4096 (last_outcome c.over_reads.result) (c.over_reads.ensures.last ends)) (if_err c.over_reads.result (λ e took between. seen_took (see_serving sem m g.P.Pick.state) _ _ start now (took between)) c.over_reads.ensures.took);
      desk_spent = search rules;
    }
