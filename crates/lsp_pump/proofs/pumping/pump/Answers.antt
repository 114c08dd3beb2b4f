-- What a pumped session comes to, and what is handed back.
use Rattle.std.proofs.Common.{rules, ◌≡◌, refl, sym, ap, subst}
use Rattle.std.specs.Prelude.{Some, None, IfOk, IfErr, Err}
use Rattle.lsp_frame.specs.Codec.{told_at}
use Rattle.lsp_session.specs.Run.{Order}
use Rattle.lsp_session.specs.SessionView.{session_view, desk_of}
use Rattle.lsp_server.specs.Course.{Setting, opening_view, course}
use Rattle.lsp_server.specs.ServerView.{setting}
use Rattle.lsp_server.specs.ServesSession.{SourceSinkTold}
use Rattle.lsp_server.specs.ServedView.{show_served}
use Rattle.lsp_server.specs.Served.{handed_back}
use Rattle.lsp_server.specs.declared.step.ServeError.TheVariants.{NoMemory}
use Rattle.lsp_pump.specs.PumpsSession.{PumpsSession}
use Rattle.lsp_pump.proofs.SessionLemmas.{opens_ready, opens_unexited}
use Rattle.lsp_pump.proofs.PumpsSessionLemmas.{comes_to, pump_ended, pump_stopped}
use Rattle.lsp_pump.proofs.pumping.pump.Goals as goal

carried : {X Y : Type 0} (F : X → Y → Type 0) (a b : X) (x y : Y) → F a x → b ≡ a → y ≡ x → F b y
carried F a b x y f is same = subst (λ k. F k y) (sym is) (subst (F a) (sym same) f)

pub pump_session-source-requires-clause-ready : goal.pump_session-source-requires-clause-ready
pump_session-source-requires-clause-ready g c κs within =
    let opened = c.open_server-codec in
    let view = opening_view (setting c.args.server c.args.service (g.P.Pick.state c.args.pick.now) c.args.rounds) in
    opens_ready g.H.Handlers.semantics g.D.Caller.meaning opened.result.1 view opened.ensures.view opened.ensures.running refl

pub pump_session-source-requires-clause-unexited : goal.pump_session-source-requires-clause-unexited
pump_session-source-requires-clause-unexited g c κs within =
    let opened = c.open_server-codec in
    let view = opening_view (setting c.args.server c.args.service (g.P.Pick.state c.args.pick.now) c.args.rounds) in
    opens_unexited g.H.Handlers.semantics g.D.Caller.meaning opened.result.1 view opened.ensures.view refl c.requires.opening

pub pump_session-source-requires-clause-told : goal.pump_session-source-requires-clause-told
pump_session-source-requires-clause-told g c κs within = ap told_at c.open_server-codec.ensures.codec

pub returns-in-Ok : goal.returns-in-Ok
returns-in-Ok g c =
    let sem = g.H.Handlers.semantics in
    let m = g.D.Caller.meaning in
    let handed : IfOk c.hand_back.result (λ served. show_served served ≡ handed_back (session_view sem m c.pump_session-source.new.seat.held.now.session)) = search rules in
    let stopped : IfErr c.hand_back.result (λ stopped. (stopped.error ≡ NoMemory) × (stopped.desk ≡ desk_of c.pump_session-source.new.seat.held.now.session)) = search rules in
    let order : Order g.P.Pick.State = record { gives = g.P.Pick.gives; later = g.P.Pick.later } in
    let set : Setting _ _ _ = setting c.args.server c.args.service (g.P.Pick.state c.args.pick.now) c.args.rounds in
    let p2 = g.P.Pick.state c.pump_session-source.new.seat.pick.now in
    let told : SourceSinkTold = record {
      left = g.I.Source.left c.args.source;
      left_after = g.I.Source.left c.pump_session-source.result.0;
      reads_failed = g.I.Source.faults c.args.source;
      reads_failed_after = g.I.Source.faults c.pump_session-source.result.0;
      taken = g.O.Sink.taken c.args.sink.now;
      taken_after = g.O.Sink.taken c.pump_session-source.new.seat.sink.now;
      flushed = g.O.Sink.flushed c.args.sink.now;
      flushed_after = g.O.Sink.flushed c.pump_session-source.new.seat.sink.now;
      writes_failed = g.O.Sink.faults c.args.sink.now;
      writes_failed_after = g.O.Sink.faults c.pump_session-source.new.seat.sink.now;
    } in
    carried (λ k q. PumpsSession (course sem m order set) (record told { taken_after = g.O.Sink.taken k; flushed_after = g.O.Sink.flushed k; writes_failed_after = g.O.Sink.faults k }) c.args.reads (g.P.Pick.state q) c.hand_back.result)
    c.pump_session-source.new.seat.sink.now _ c.pump_session-source.new.seat.pick.now _
    (let opened = c.open_server-codec in
    let after = session_view sem m c.pump_session-source.new.seat.held.now.session in
    let p = rw c.in-Ok.is at c.pump_session-source.ensures.comes in
    pump_ended g.met.H.Handlers.laws m g.met.D.Caller.laws order set told c.args.reads after p2
    (comes_to g.met.H.Handlers.laws m g.met.D.Caller.laws order set told c.args.reads after p2 (session_view sem m opened.result.1) opened.result.0 opened.ensures.view opened.ensures.codec None
    p.pumps p.grown p.spent p.flushed p.faults p.within) refl c.hand_back.result handed stopped)
    (search rules) (search rules)

pub returns : goal.returns
returns g c =
    let sem = g.H.Handlers.semantics in
    let m = g.D.Caller.meaning in
    let desk : c.stop.result.desk ≡ desk_of c.pump_session-source.new.seat.held.now.session = search rules in
    let order : Order g.P.Pick.State = record { gives = g.P.Pick.gives; later = g.P.Pick.later } in
    let set : Setting _ _ _ = setting c.args.server c.args.service (g.P.Pick.state c.args.pick.now) c.args.rounds in
    let p2 = g.P.Pick.state c.pump_session-source.new.seat.pick.now in
    let told : SourceSinkTold = record {
      left = g.I.Source.left c.args.source;
      left_after = g.I.Source.left c.pump_session-source.result.0;
      reads_failed = g.I.Source.faults c.args.source;
      reads_failed_after = g.I.Source.faults c.pump_session-source.result.0;
      taken = g.O.Sink.taken c.args.sink.now;
      taken_after = g.O.Sink.taken c.pump_session-source.new.seat.sink.now;
      flushed = g.O.Sink.flushed c.args.sink.now;
      flushed_after = g.O.Sink.flushed c.pump_session-source.new.seat.sink.now;
      writes_failed = g.O.Sink.faults c.args.sink.now;
      writes_failed_after = g.O.Sink.faults c.pump_session-source.new.seat.sink.now;
    } in
    carried (λ k q. PumpsSession (course sem m order set) (record told { taken_after = g.O.Sink.taken k; flushed_after = g.O.Sink.flushed k; writes_failed_after = g.O.Sink.faults k }) c.args.reads (g.P.Pick.state q) (Err c.stop.result))
    c.pump_session-source.new.seat.sink.now _ c.pump_session-source.new.seat.pick.now _
    (let opened = c.open_server-codec in
    let after = session_view sem m c.pump_session-source.new.seat.held.now.session in
    let p = rw c.in-Err.is at c.pump_session-source.ensures.comes in
    pump_stopped g.met.H.Handlers.laws m g.met.D.Caller.laws order set told c.args.reads after p2 c.in-Err.error
    (comes_to g.met.H.Handlers.laws m g.met.D.Caller.laws order set told c.args.reads after p2 (session_view sem m opened.result.1) opened.result.0 opened.ensures.view opened.ensures.codec (Some c.in-Err.error)
    p.pumps p.grown p.spent p.flushed p.faults p.within) refl c.stop.result c.stop.ensures.error desk)
    (search rules) (search rules)
