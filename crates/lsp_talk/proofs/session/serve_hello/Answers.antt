-- The session is that of the sample over the frame, and the seat stays.
use Rattle.std.proofs.Common.{ap, ◌∙◌, arith}
use Rattle.lsp_server.specs.ServedView.{show_served}
use Rattle.lsp_callers.specs.Tallies.{tallied_view}
use Rattle.lsp_talk.proofs.ServedLemmas.{some_same, hello_served, keeps_grown}
use Rattle.lsp_talk.proofs.session.serve_hello.Goals as goal

pub returns-in-Ok : goal.returns-in-Ok
returns-in-Ok g c =
    let server = c.new.result in
    let told = c.new.ensures in
    let served = c.in-Ok.ensures in
    record {
      done =
          hello_served (λ held. held.task) (λ held. held.kind) c.args.service server.socket.desk server.max server.wait 8 server.settings.limits server.settings.floats server.empty_params _ (show_served c.in-Ok.served) tt served.headline
          c.requires.sample (some_same _ _ c.new-source.ensures.left ∙ c.requires.hello) (let four = told.concurrency in omega (arith, four)) (omega arith) told.limits told.floats
          (ap (λ t. (tallied_view t).seen) told.desk ∙ c.requires.unseen.seen) (ap (λ t. (tallied_view t).made) told.desk ∙ c.requires.unseen.made);
      failed = λ n is. absurd (cc);
      keeps = keeps_grown c.args.socket.desk server.socket.desk c.in-Ok.served.desk told.desk served.grown;
    }
