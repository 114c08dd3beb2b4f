-- What was taken stays taken where the flush fails.
use Rattle.std.proofs.Common.{rules, ◌∷◌, []}
use Rattle.lsp_session.specs.Item.{show_item}
use Rattle.lsp_server.specs.ServerView.{standing}
use Rattle.lsp_server.proofs.KnownLemmas.{err_of}
use Rattle.lsp_server.proofs.RanLemmas.{part_kept, part_whole}
use Rattle.lsp_server.proofs.server.Server.step.Goals as goal

pub returns-in_err-flush-clause-steps : goal.returns-in_err-flush-clause-steps
returns-in_err-flush-clause-steps g c =
    let sem = g.H.Handlers.semantics in
    let m = g.D.Caller.meaning in
    let a = standing sem m c.args.session.now (g.P.Pick.state c.args.pick.now) (g.O.Sink.taken c.args.sink.now) in
    let b = standing sem m c.write_step.new.session (g.P.Pick.state c.write_step.new.pick) (g.O.Sink.taken c.write_step.new.sink) in
    record {
      ok = search rules;
      part = err_of c.from_residual-in_err-flush.result (part_kept (part_whole a b (show_item c.args.item ∷ []) c.in_ok-write_step.ensures.steps.ok) c.flush.ensures.flushes.taken);
      grown = search rules;
      session = search rules;
    }
