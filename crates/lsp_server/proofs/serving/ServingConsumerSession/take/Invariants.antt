-- The items given so far were served, and no exit is among them.
use Rattle.std.proofs.Common.{◌≡◌, length}
use Rattle.lsp_frame.specs.Codec.{told_at}
use Rattle.lsp_session.specs.Run.{Order}
use Rattle.lsp_server.specs.ServerView.{standing, IsReady}
use Rattle.lsp_server.proofs.GoingLemmas.{Going}
use Rattle.lsp_server.proofs.serving.ServingConsumerSession.take.Given as goal

abbrev pub invariant-items : goal.invariant-items
invariant-items g l =
    let sem = g.H.Handlers.semantics in
    let m = g.D.Caller.meaning in
    let order : Order g.P.Pick.State = record { gives = g.P.Pick.gives; later = g.P.Pick.later } in
    record {
      going : Going sem m order l.initial.self.rounds (standing sem m l.initial.session (g.P.Pick.state l.initial.self.pick.now) (g.O.Sink.taken l.initial.sink)) l.initial.self.codec.now
          (standing sem m l.session (g.P.Pick.state l.self.pick.now) (g.O.Sink.taken l.sink)) l.self.codec.now;
      ready : IsReady sem m l.session;
      rounds : l.self.rounds ≡ l.initial.self.rounds;
      codec : l.self.codec.ghost_name ≡ l.initial.self.codec.ghost_name;
      pick : l.self.pick.ghost_name ≡ l.initial.self.pick.ghost_name;
      flushed : g.O.Sink.flushed l.sink ≡ g.O.Sink.flushed l.initial.sink;
      beside : g.O.Sink.beside l.sink ≡ g.O.Sink.beside l.initial.sink;
      count : g.O.Sink.faults l.sink ≡ g.O.Sink.faults l.initial.sink;
    }

abbrev pub decreases-items : goal.decreases-items
decreases-items g l = length (told_at l.self.codec.now)
