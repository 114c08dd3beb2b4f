-- Without memory for a service the desk comes back as it was.
use Rattle.std.proofs.Common.{ap}
use Rattle.lsp_talk.proofs.ServedLemmas.{keeps_same}
use Rattle.lsp_talk.proofs.session.session.Goals as goal

pub returns-in-Err : goal.returns-in-Err
returns-in-Err g c = record {
  done = tt;
  failed = λ n is. absurd (cc);
  keeps = keeps_same c.args.desk c.in-Err.unmade.desk (ap (λ u. u.desk) c.in-Err.ensures.back);
}
