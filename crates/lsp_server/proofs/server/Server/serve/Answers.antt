-- What the loop over the reads comes to, and what is handed back.
use Rattle.std.proofs.Common.{rules, refl, subst}
use Rattle.std.specs.Prelude.{Some, None, Err}
use Rattle.lsp_session.specs.Run.{Order}
use Rattle.lsp_session.specs.Session.{SessionView}
use Rattle.lsp_session.specs.SessionView.{session_view}
use Rattle.lsp_server.specs.Course.{Setting, course_from, course, picked}
use Rattle.lsp_server.specs.ServerView.{setting}
use Rattle.lsp_server.specs.ServesSession.{SourceSinkTold, ServesSession}
use Rattle.lsp_server.proofs.HandedLemmas.{opened}
use Rattle.lsp_server.proofs.ServesSessionLemmas.{LoopComesTo, session_ended, session_stopped}
use Rattle.lsp_server.proofs.server.Server.serve.Goals as goal

pub returns-in-Ok : goal.returns-in-Ok
returns-in-Ok g c =
    let sem = g.H.Handlers.semantics in
    let m = g.D.Caller.meaning in
    let order : Order g.P.Pick.State = record { gives = g.P.Pick.gives; later = g.P.Pick.later } in
    let p = g.P.Pick.state c.args.pick.now in
    let set : Setting _ _ _ = setting c.args.self c.args.service p c.args.rounds in
    let first = opened set (session_view sem m c.open-session.result) c.into_desk-desk.result c.into_desk-desk.ensures c.open-session.ensures.view in
    let after = session_view sem m c.serve_over.new.session in
    let p2 = g.P.Pick.state c.serve_over.new.pick in
    let told : SourceSinkTold = record {
      left = g.I.Source.left c.args.source.now;
      left_after = g.I.Source.left c.serve_over.new.io.source.now;
      reads_failed = g.I.Source.faults c.args.source.now;
      reads_failed_after = g.I.Source.faults c.serve_over.new.io.source.now;
      taken = g.O.Sink.taken c.args.sink.now;
      taken_after = g.O.Sink.taken c.serve_over.new.io.sink.now;
      flushed = g.O.Sink.flushed c.args.sink.now;
      flushed_after = g.O.Sink.flushed c.serve_over.new.io.sink.now;
      writes_failed = g.O.Sink.faults c.args.sink.now;
      writes_failed_after = g.O.Sink.faults c.serve_over.new.io.sink.now;
    } in
    let comes : LoopComesTo (course sem m order set) told c.args.reads (picked after p2) after.desk None = subst (λ (v : SessionView _ _ sem.Call sem.Task). LoopComesTo (course_from sem m order c.args.rounds c.args.self.settings v p) told c.args.reads (picked after p2) after.desk None) first (record {
      serves = c.in-Ok.ensures.serves;
      grown = c.serve_over.ensures.session.grown;
      spent = tt;
      flushed = c.in-Ok.ensures.transport.flushed;
      faults = c.in-Ok.ensures.transport.faults;
      within = c.in-Ok.ensures.transport.within;
    }) in
    let ended : ServesSession (course sem m order set) told c.args.reads p2 c.hand_back.result =
    session_ended g.met.H.Handlers.laws m g.met.D.Caller.laws order set told c.args.reads after p2 comes refl c.hand_back.result c.hand_back.ensures.handed c.hand_back.ensures.stopped in
    search rules

pub returns-in-Err : goal.returns-in-Err
returns-in-Err g c =
    let sem = g.H.Handlers.semantics in
    let m = g.D.Caller.meaning in
    let order : Order g.P.Pick.State = record { gives = g.P.Pick.gives; later = g.P.Pick.later } in
    let p = g.P.Pick.state c.args.pick.now in
    let set : Setting _ _ _ = setting c.args.self c.args.service p c.args.rounds in
    let first = opened set (session_view sem m c.open-session.result) c.into_desk-desk.result c.into_desk-desk.ensures c.open-session.ensures.view in
    let after = session_view sem m c.serve_over.new.session in
    let p2 = g.P.Pick.state c.serve_over.new.pick in
    let told : SourceSinkTold = record {
      left = g.I.Source.left c.args.source.now;
      left_after = g.I.Source.left c.serve_over.new.io.source.now;
      reads_failed = g.I.Source.faults c.args.source.now;
      reads_failed_after = g.I.Source.faults c.serve_over.new.io.source.now;
      taken = g.O.Sink.taken c.args.sink.now;
      taken_after = g.O.Sink.taken c.serve_over.new.io.sink.now;
      flushed = g.O.Sink.flushed c.args.sink.now;
      flushed_after = g.O.Sink.flushed c.serve_over.new.io.sink.now;
      writes_failed = g.O.Sink.faults c.args.sink.now;
      writes_failed_after = g.O.Sink.faults c.serve_over.new.io.sink.now;
    } in
    let comes : LoopComesTo (course sem m order set) told c.args.reads (picked after p2) after.desk (Some c.in-Err.error) = subst (λ (v : SessionView _ _ sem.Call sem.Task). LoopComesTo (course_from sem m order c.args.rounds c.args.self.settings v p) told c.args.reads (picked after p2) after.desk (Some c.in-Err.error)) first (record {
      serves = c.in-Err.ensures.serves;
      grown = c.serve_over.ensures.session.grown;
      spent = c.in-Err.ensures.session.desk_spent;
      flushed = c.in-Err.ensures.transport.flushed;
      faults = c.in-Err.ensures.transport.faults;
      within = c.in-Err.ensures.transport.within;
    }) in
    let ended : ServesSession (course sem m order set) told c.args.reads p2 (Err c.stop.result) =
    session_stopped g.met.H.Handlers.laws m g.met.D.Caller.laws order set told c.args.reads after p2 c.in-Err.error comes refl c.stop.result c.stop.ensures.error c.stop.ensures.desk in
    search rules
