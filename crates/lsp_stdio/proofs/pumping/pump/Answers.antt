-- What was written by the end, at each status, which failures are told, and what each status says.
use Rattle.std.proofs.Common.{arith, ◌≡◌, ◌≤◌, ◌⊎◌, inl, inr, ℕ, sym, ◌∙◌, ap, subst}
use Rattle.lsp_server.specs.Course.{Course, course}
use Rattle.lsp_server.specs.ServerView.{setting}
use Rattle.lsp_server.specs.ServedView.{show_served}
use Rattle.lsp_program.specs.Status.{status_of}
use Rattle.lsp_program.proofs.StatusLemmas.{status_three, status_four}
use Rattle.lsp_stdio.specs.Stdio.{in_order}
use Rattle.lsp_stdio.specs.Pumping.{EndsUnread}
use Rattle.lsp_stdio.proofs.StdioLemmas.{status_at_low}
use Rattle.lsp_stdio.proofs.PumpingLemmas.{unread_status, error_status, flushed_status, shared_status, complete_low, complete_at, whole_told, stopped_told}
use Rattle.lsp_stdio.proofs.pumping.pump.Goals as goal

pub returns-in-Ok : goal.returns-in-Ok
returns-in-Ok g c =
    let source = g.I.Source in
    let whole : Course _ _ = course g.H.Handlers.semantics g.D.Caller.meaning in_order (setting c.args.server c.args.handlers tt c.args.rounds) in
    let p = rw c.in-Ok.is at c.pump-source.ensures in
    let low : c.status_at.result ≤ 1 = omega (arith, c.status_at.ensures, status_at_low c.in-Ok.served.exited) in
    record {
      known = (omega (arith, low), λ two. omega (arith, low, two));
      session = whole_told whole (source.left c.args.source) (source.left c.pump-source.result.0) (g.O.Sink.taken c.args.sink.now) (g.O.Sink.taken c.pump-source.new.sink)
          (source.faults c.args.source) (source.faults c.pump-source.result.0) c.status_at.result (show_served c.in-Ok.served) c.status_at.ensures p.unread p.headline p.enough;
      flushed = λ four six. p.flushed;
      read = λ three. absurd (omega (arith, low, three));
      write = λ four. absurd (omega (arith, low, four));
      counts = p.counts;
      read_told = λ less. inr (inl low);
      write_told = λ less. absurd (p.write_told less);
      desk_spent = λ seven. absurd (omega (arith, low, seven));
      complete = complete_low (source.left c.args.source) _ _ c.status_at.result low;
    }

pub returns-in-Err : goal.returns-in-Err
returns-in-Err g c =
    let source = g.I.Source in
    let whole : Course _ _ = course g.H.Handlers.semantics g.D.Caller.meaning in_order (setting c.args.server c.args.handlers tt c.args.rounds) in
    let p = rw c.in-Err.is at c.pump-source.ensures in
    let n = c.status_of.result in
    let e = c.in-Err.stopped.error in
    let is = c.status_of.ensures in
    record {
      known = error_status n e is;
      session = stopped_told whole (source.left c.args.source) (source.left c.pump-source.result.0) (g.O.Sink.taken c.args.sink.now) (g.O.Sink.taken c.pump-source.new.sink)
          (source.faults c.args.source) (source.faults c.pump-source.result.0) n e c.in-Err.stopped.desk is p.exact p.reads_spent p.desk_spent p.grown_stopped p.part;
      flushed = λ four six. p.flushed_at (flushed_status n e is four six);
      read = λ three. p.read (status_three e (sym is ∙ three));
      write = λ four. p.write (status_four e (sym is ∙ four));
      counts = p.counts;
      read_told = λ less. subst (λ (k : ℕ). (k ≡ 3) ⊎ EndsUnread k) (sym is) (unread_status e (p.read_told less));
      write_told = λ less. is ∙ ap status_of (p.write_told less);
      desk_spent = shared_status (whole.meaning.alone whole.desk) n e is p.never_alone;
      complete = complete_at (source.left c.args.source) (whole.meaning.alone whole.desk) _ _ n e is p.complete;
    }
