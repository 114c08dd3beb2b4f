-- What the desk holds was put out, and the life stays; a last look that broke stops the session.
use Rattle.std.proofs.Common.{refl, sym, ◌∙◌, map, ◌∷◌, []}
use Rattle.lsp_rpc.specs.Message.{request}
use Rattle.lsp_desk.specs.Call as calls
use Rattle.lsp_desk.specs.Shown.{show_server_reply}
use Rattle.lsp_desk.proofs.TraceLemmas.{makes_of, makes_life}
use Rattle.lsp_session.specs.Run.{took, Drains}
use Rattle.lsp_session.specs.Taken.{messages_from}
use Rattle.lsp_session.specs.PendingView.{live_ids}
use Rattle.lsp_session.specs.View.{running_view}
use Rattle.lsp_session.proofs.RunningLemmas.{facts_desk}
use Rattle.lsp_session.proofs.FactLemmas.{fits_desk}
use Rattle.lsp_session.proofs.CutLemmas.{cut_at}
use Rattle.lsp_session.proofs.DeskLemmas.{take_made, takes_out}
use Rattle.lsp_session.proofs.FailLemmas.{call_failed}
use Rattle.lsp_session.proofs.EndsLemmas.{breaks_short}
use Rattle.lsp_session.proofs.HaltLemmas.{halts_at}
use Rattle.lsp_session.proofs.session.Session.drain.Goals as goal

pub invariant_of-self : goal.invariant_of-self
invariant_of-self g c =
    let old = c.args.self.now.running.desk in
    let broken = call_failed g.D.Caller.meaning show_server_reply old c.server.new.self calls.Take _ (g.met.D.Desk.is_chief old) c.in_err-messages.ensures.calls c.in_err-messages.ensures.spent in
    record { life = c.args.self.now.life ∙ sym broken.kept; keeps = λ running. cc }

pub invariant_of-self-in-Break-branch-2 : goal.invariant_of-self-in-Break-branch-2
invariant_of-self-in-Break-branch-2 g c =
    let m = g.D.Caller.meaning in
    let old = c.args.self.now.running.desk in
    let taken = take_made m c.args.self.now.running.desk c.server.new.self c.in_ok-messages.messages c.in_ok-messages.ensures.calls in
    let makes = makes_of m old c.server.new.self taken.trace _ (g.met.D.Desk.is_chief old) taken.grows taken.holds in
    record { life = c.args.self.now.life ∙ sym (makes_life (m.now old) (m.now c.server.new.self) _ taken.trace makes); keeps = λ running. cc }

pub append-requires : goal.append-requires
append-requires g c = takes_out g.D.Caller.meaning c.args.self.now.running.desk c.server.new.self c.in_ok-messages.messages c.in_ok-messages.ensures.calls c.in_ok-messages.ensures.float_free

pub returns-in_err-append-clause-ends : goal.returns-in_err-append-clause-ends
returns-in_err-append-clause-ends g c =
    let m = g.D.Caller.meaning in
    let old = running_view g.H.Handlers.semantics m c.args.self.now.running in
    let taken = take_made m c.args.self.now.running.desk c.server.new.self c.in_ok-messages.messages c.in_ok-messages.ensures.calls in
    let messages = messages_from c.in_ok-messages.messages in
    let desk = m.now c.server.new.self in
    let makes = makes_of m old.desk c.server.new.self taken.trace (took messages ∷ []) (g.met.D.Desk.is_chief old.desk) taken.grows taken.holds in
    let cut = cut_at m Drains old _ (record { trace = taken.trace; out = map request messages }) (record old.state { desk = desk })
    (record { messages = messages; trace = taken.trace; desk = desk; takes = makes; leaves = refl; adds = refl }) taken.grows c.in_err-append.ensures.part refl in
    halts_at c.args.self.now _ Drains c.from_residual-in_err-append.result _ c.from_residual-in_err-append.ensures.1 refl
    (breaks_short g.H.Handlers.semantics m c.args.self.now.running _ _ cut refl (c.args.self.now.life ∙ sym (makes_life old.state.desk desk (took messages ∷ []) taken.trace makes)))

pub invariant_of-self-2 : goal.invariant_of-self-2
invariant_of-self-2 g c =
    let semantics = g.H.Handlers.semantics in
    let m = g.D.Caller.meaning in
    let old = c.args.self.now.running in
    let kept = c.args.self.now.keeps c.requires in
    let s = (running_view semantics m old).state in
    let taken = take_made m c.args.self.now.running.desk c.server.new.self c.in_ok-messages.messages c.in_ok-messages.ensures.calls in
    let desk = m.now c.server.new.self in
    let makes = makes_of m old.desk c.server.new.self taken.trace _ (g.met.D.Desk.is_chief old.desk) taken.grows taken.holds in
    let life = makes_life s.desk desk _ taken.trace makes in
    record {
      life = c.args.self.now.life ∙ sym life;
      keeps = λ running. (facts_desk semantics s old.life old.life (live_ids old.live) old.handlers desk old.exited (kept.0.life_is ∙ sym life) kept.0, fits_desk s desk life kept.1);
    }

pub returns-clause-ends : goal.returns-clause-ends
returns-clause-ends g c =
    let m = g.D.Caller.meaning in
    let old = c.args.self.now.running in
    let taken = take_made m c.args.self.now.running.desk c.server.new.self c.in_ok-messages.messages c.in_ok-messages.ensures.calls in
    let messages = messages_from c.in_ok-messages.messages in
    let makes = makes_of m old.desk c.server.new.self taken.trace (took messages ∷ []) (g.met.D.Desk.is_chief old.desk) taken.grows taken.holds in
    record {
      ok = record {
        effect = record { trace = taken.trace; out = map request messages };
        does = record { messages = messages; trace = taken.trace; desk = m.now c.server.new.self; takes = makes; leaves = refl; adds = refl };
        grows = taken.grows;
        out = c.in_ok-append.ensures.ok;
      };
      running = refl;
    }
