-- No fact speaks of empty params.
use Rattle.std.proofs.Common.{true}
use Rattle.lsp_session.specs.PendingView.{live_ids}
use Rattle.lsp_session.specs.View.{running_view}
use Rattle.lsp_session.proofs.RunningLemmas.{facts_empty}
use Rattle.lsp_session.proofs.FactLemmas.{fits_empty}
use Rattle.lsp_session.proofs.session.Session.allow_empty_params.Goals as goal

pub invariant_of-result : goal.invariant_of-result
invariant_of-result g c =
    let semantics = g.H.Handlers.semantics in
    let old = c.args.self.running in
    let s = (running_view semantics g.D.Caller.meaning old).state in
    let keeps = c.args.self.keeps c.requires.running in
    record {
      life = c.args.self.life;
      keeps = λ running. (facts_empty semantics s true old.life (live_ids old.live) keeps.0, fits_empty s true keeps.1);
    }
