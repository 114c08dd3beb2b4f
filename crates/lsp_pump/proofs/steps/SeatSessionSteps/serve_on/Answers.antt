-- What serving on from source and codec comes to.
use Rattle.std.proofs.Common.{rules, refl}
use Rattle.std.specs.Result.{result_err}
use Rattle.lsp_session.specs.Run.{Order}
use Rattle.lsp_pump.specs.SeatWay.{seat_way}
use Rattle.lsp_pump.proofs.OnwardLemmas.{goes_by, kept_ok, told_err}
use Rattle.lsp_pump.proofs.steps.SeatSessionSteps.serve_on.Goals as goal

pub serve_from-requires-clause-may : goal.serve_from-requires-clause-may
serve_from-requires-clause-may g c = record { ready = c.requires.going.ready; alive = c.requires.going.unexited.alive; unexited = c.requires.going.unexited.unexited }

pub returns : goal.returns
returns g c =
    let order : Order g.P.Pick.State = record { gives = g.P.Pick.gives; later = g.P.Pick.later } in
    let way = seat_way g.H.Handlers.semantics g.D.Caller.meaning order g.P.Pick.state g.O.Sink.taken g.O.Sink.flushed g.O.Sink.faults in
    let f = c.serve_from.ensures in
    goes_by way g.I.Source.left g.I.Source.faults c.args.rounds c.args.reads c.args.codec.now c.args.source.now c.serve_from.new.io.source.now _ c.args.self.now (result_err c.serve_from.result) _ (search rules) (record {
      serves = f.serves;
      ready = kept_ok c.serve_from.result f.session.ready;
      grown = f.session.grown;
      spent = told_err c.serve_from.result _ f.session.desk_spent;
      flushed = f.transport.flushed;
      faults = f.transport.faults;
      within = f.transport.within;
      beside = refl;
    })
