-- The fault of an input that ends inside a frame, and the tick after it.
use Rattle.std.proofs.Common.{rules, ◌≡◌, [], ◌∷◌, List, sym, ◌∙◌, ap, subst}
use Rattle.lsp_frame.specs.Codec.{items_at}
use Rattle.lsp_session.specs.Item.{ItemData, fault, tick}
use Rattle.lsp_session.specs.Run.{Order, Step, served}
use Rattle.lsp_session.specs.SessionView.{session_view, desk_of}
use Rattle.lsp_server.proofs.KnownLemmas.{on_ok}
use Rattle.lsp_server.proofs.KnownLemmas.{on_err}
use Rattle.lsp_server.specs.Items.{all_admitted}
use Rattle.lsp_server.specs.Written.{Ran, RanPart}
use Rattle.lsp_server.specs.ServerView.{standing}
use Rattle.lsp_server.proofs.KnownLemmas.{err_of}
use Rattle.lsp_server.proofs.RanLemmas.{part_none, part_more, part_after, ran_more, grown_after, grown_none}
use Rattle.lsp_server.proofs.serving.serve_end.Goals as goal

pub returns-in_err-fault-clause-steps : goal.returns-in_err-fault-clause-steps
returns-in_err-fault-clause-steps g c =
    record {
      ok = search rules;
      part = err_of _ (part_none _ _ _ (grown_none g.D.Caller.meaning _));
      grown = err_of _ (grown_none g.D.Caller.meaning _);
      session = search rules;
    }

pub returns-in_err-write_step-in-Some-clause-steps : goal.returns-in_err-write_step-in-Some-clause-steps
returns-in_err-write_step-in-Some-clause-steps g c =
    let sem = g.H.Handlers.semantics in
    let m = g.D.Caller.meaning in
    let order : Order g.P.Pick.State = record { gives = g.P.Pick.gives; later = g.P.Pick.later } in
    let a = standing sem m c.args.session.now (g.P.Pick.state c.args.pick.now) (g.O.Sink.taken c.args.sink.now) in
    let only : all_admitted (items_at c.args.codec.now) ≡ fault c.code.result ∷ [] =
    ap all_admitted (rw c.in-Some.is at c.in_ok-fault.ensures.items) ∙ ap (λ code. fault code ∷ []) (sym c.code.ensures) in
    record {
      ok = search rules;
      part = err_of _ (subst (λ (l : List ItemData). RanPart (Step sem order c.args.rounds) m a (served (sem.find (session_view sem m c.args.session.now).state.service) l) (desk_of c.write_step.new.session) (g.O.Sink.taken c.write_step.new.sink)) (sym only) (part_more (fault c.code.result ∷ []) (tick ∷ []) c.in_err-write_step-in-Some.ensures.steps.part));
      grown = search rules;
      session = search rules;
    }

pub returns-in_ok-write_step-in-Some-clause-steps : goal.returns-in_ok-write_step-in-Some-clause-steps
returns-in_ok-write_step-in-Some-clause-steps g c =
    let sem = g.H.Handlers.semantics in
    let m = g.D.Caller.meaning in
    let order : Order g.P.Pick.State = record { gives = g.P.Pick.gives; later = g.P.Pick.later } in
    let a = standing sem m c.args.session.now (g.P.Pick.state c.args.pick.now) (g.O.Sink.taken c.args.sink.now) in
    let b = standing sem m c.write_step.new.session (g.P.Pick.state c.write_step.new.pick) (g.O.Sink.taken c.write_step.new.sink) in
    let d = standing sem m c.write_step-in-Some.new.session (g.P.Pick.state c.write_step-in-Some.new.pick) (g.O.Sink.taken c.write_step-in-Some.new.sink) in
    let only : all_admitted (items_at c.args.codec.now) ≡ fault c.code.result ∷ [] =
    ap all_admitted (rw c.in-Some.is at c.in_ok-fault.ensures.items) ∙ ap (λ code. fault code ∷ []) (sym c.code.ensures) in
    record {
      ok = on_ok c.write_step-in-Some.result (λ ran. subst (λ (l : List ItemData). Ran (Step sem order c.args.rounds) m a (served (sem.find (session_view sem m c.args.session.now).state.service) l) d) (sym only) (ran_more a b d (fault c.code.result ∷ []) (tick ∷ []) c.in_ok-write_step-in-Some.ensures.steps.ok ran)) c.write_step-in-Some.ensures.steps.ok;
      part = on_err c.write_step-in-Some.result (λ part. subst (λ (l : List ItemData). RanPart (Step sem order c.args.rounds) m a (served (sem.find (session_view sem m c.args.session.now).state.service) l) (desk_of c.write_step-in-Some.new.session) (g.O.Sink.taken c.write_step-in-Some.new.sink)) (sym only) (part_after a b (desk_of c.write_step-in-Some.new.session) (g.O.Sink.taken c.write_step-in-Some.new.sink) (fault c.code.result ∷ []) (tick ∷ []) c.in_ok-write_step-in-Some.ensures.steps.ok part)) c.write_step-in-Some.ensures.steps.part;
      grown = on_err c.write_step-in-Some.result (λ grown. grown_after _ _ _ _ c.in_ok-write_step-in-Some.ensures.steps.ok grown) c.write_step-in-Some.ensures.steps.grown;
      session = search rules;
    }
