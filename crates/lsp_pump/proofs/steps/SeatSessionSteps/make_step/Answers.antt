-- The step of one item, by whether it was an exit.
use Rattle.std.proofs.Common.{rules, refl, ◌≡◌, ◌∷◌, []}
use Rattle.std.specs.Prelude.{is_some}
use Rattle.lsp_session.specs.Item.{show_item}
use Rattle.lsp_session.specs.Run.{Order}
use Rattle.lsp_session.specs.SessionView.{session_view}
use Rattle.lsp_server.specs.ServerView.{standing}
use Rattle.lsp_server.proofs.PointLemmas.{find_at}
use Rattle.lsp_server.proofs.RanLemmas.{ran_grown}
use Rattle.lsp_pump.specs.SeatWay.{seat_way}
use Rattle.lsp_pump.proofs.StepsLemmas.{steps_one, begun_one, stands_by}
use Rattle.lsp_pump.proofs.SessionLemmas.{table_after, noted_one, unexited_one}
use Rattle.lsp_pump.proofs.steps.SeatSessionSteps.make_step.Goals as goal

pub returns-in-Ok : goal.returns-in-Ok
returns-in-Ok g c =
    let sem = g.H.Handlers.semantics in
    let m = g.D.Caller.meaning in
    let order : Order g.P.Pick.State = record { gives = g.P.Pick.gives; later = g.P.Pick.later } in
    let seat = c.args.self.now in
    let a = standing sem m seat.held.now.session (g.P.Pick.state seat.pick.now) (g.O.Sink.taken seat.sink.now) in
    let d = standing sem m c.serve_item.new.session (g.P.Pick.state c.serve_item.new.pick) (g.O.Sink.taken c.serve_item.new.sink) in
    let x = show_item c.args.item in
    let ran = rw c.in-Ok.is at c.serve_item.ensures.ok in
    let ready = rw c.in-Ok.is at c.serve_item.ensures.ready in
    let sink = rw c.in-Ok.is at c.serve_item.ensures.sink in
    let faults = sink.faults in
    let noted : is_some (session_view sem m c.serve_item.new.session).state.exited ≡ c.is_some.result = search rules in
    let made = steps_one (find_at sem a) a d x c.is_some.result (noted_one sem g.met.H.Handlers.laws m order c.args.rounds a x d ran c.requires.going.unexited.unexited c.is_some.result noted) ran in
    record {
      answered = made;
      same = table_after sem g.met.H.Handlers.laws m order c.args.rounds a d (x ∷ []) c.is_some.result made;
      stands = stands_by (seat_way sem m order g.P.Pick.state g.O.Sink.taken g.O.Sink.flushed g.O.Sink.faults) _ ready c.is_some.result noted (unexited_one sem g.met.H.Handlers.laws m order c.args.rounds a x c.serve_item.new.session (g.P.Pick.state c.serve_item.new.pick) (g.O.Sink.taken c.serve_item.new.sink) ran c.requires.going.unexited.unexited c.requires.going.unexited.alive);
      fails = tt;
      grown = ran_grown a d (x ∷ []) ran;
      flushed = sink.flushed;
      sink = record { beside = refl; count = faults.count; write = faults.write; unfailed = faults.unfailed; left = faults.left };
    }

pub returns-in-Err : goal.returns-in-Err
returns-in-Err g c =
    let sem = g.H.Handlers.semantics in
    let m = g.D.Caller.meaning in
    let seat = c.args.self.now in
    let a = standing sem m seat.held.now.session (g.P.Pick.state seat.pick.now) (g.O.Sink.taken seat.sink.now) in
    let x = show_item c.args.item in
    let sink = rw c.in-Err.is at c.serve_item.ensures.sink in
    let faults = sink.faults in
    let part = rw c.in-Err.is at c.serve_item.ensures.part in
    record {
      answered = begun_one (find_at sem a) a x _ _ part;
      same = tt;
      stands = tt;
      fails = record { in_step = sink.others; spent = rw c.in-Err.is at c.serve_item.ensures.spent };
      grown = rw c.in-Err.is at c.serve_item.ensures.grown;
      flushed = sink.flushed;
      sink = record { beside = refl; count = faults.count; write = faults.write; unfailed = faults.unfailed; left = faults.left };
    }

pub serve_item-requires-clause-ready : goal.serve_item-requires-clause-ready
serve_item-requires-clause-ready g c = c.requires.going.ready

pub serve_item-requires-clause-alive : goal.serve_item-requires-clause-alive
serve_item-requires-clause-alive g c = c.requires.going.unexited.alive
