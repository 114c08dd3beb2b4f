use Rattle.std.proofs.Common.{◌≡◌, ◌++◌, true, take, drop, map}
use Rattle.lsp_session.specs.State.{FitsLife}
use Rattle.lsp_session.specs.Works.{mark}
use Rattle.lsp_session.specs.View.{running_view, Keeps}
use Rattle.lsp_session.proofs.RoundLemmas.{Rounding, left}
use Rattle.lsp_session.proofs.session.Session.round.Given as goal

abbrev pub invariant-loop-work : goal.invariant-loop-work
invariant-loop-work g l = l.work-items ≡ map mark (take l.work-index l.fn.self.running.works.slots.items) ++ drop l.work-index l.fn.self.running.works.slots.items

abbrev pub invariant-loop-self : goal.invariant-loop-self
invariant-loop-self g l = record {
  so_far : Rounding g.H.Handlers.semantics g.D.Caller.meaning (record { gives = g.P.Pick.gives; later = g.P.Pick.later }) (running_view g.H.Handlers.semantics g.D.Caller.meaning l.fn.self.running) (g.P.Pick.state l.fn.pick)
      (running_view g.H.Handlers.semantics g.D.Caller.meaning l.self.running) (g.P.Pick.state l.pick);
  keeps : Keeps g.H.Handlers.semantics g.D.Caller.meaning l.self.running;
  fits : FitsLife (running_view g.H.Handlers.semantics g.D.Caller.meaning l.self.running).state;
  stopped : l.self.stopped ≡ true;
}

abbrev pub decreases-loop-self : goal.decreases-loop-self
decreases-loop-self g l = left (running_view g.H.Handlers.semantics g.D.Caller.meaning l.self.running).state
