-- No fact speaks of the waiting limit.
use Rattle.std.proofs.Common.{sym, subst}
use Rattle.lsp_session.specs.State.{FitsLife}
use Rattle.lsp_session.specs.PendingView.{live_ids}
use Rattle.lsp_session.specs.WorksView.{WorksView}
use Rattle.lsp_session.specs.View.{running_view, Facts}
use Rattle.lsp_session.proofs.SlotLemmas.{with_view}
use Rattle.lsp_session.proofs.RunningLemmas.{facts_wait}
use Rattle.lsp_session.proofs.FactLemmas.{fits_wait}
use Rattle.lsp_session.proofs.session.Session.waiting_limit.Goals as goal

pub invariant_of-result : goal.invariant_of-result
invariant_of-result g c =
    let semantics = g.H.Handlers.semantics in
    let old = c.args.self.running in
    let s = (running_view semantics g.D.Caller.meaning old).state in
    let keeps = c.args.self.keeps c.requires.running in
    record {
      life = c.args.self.life;
      keeps = λ running. subst (λ (w : WorksView _ _). Facts semantics (with_view semantics s w) old.life (live_ids old.live) × FitsLife (with_view semantics s w)) (sym c.waiting_limit.ensures)
          (facts_wait semantics s c.args.wait old.life (live_ids old.live) keeps.0, fits_wait s c.args.wait keeps.1);
    }
