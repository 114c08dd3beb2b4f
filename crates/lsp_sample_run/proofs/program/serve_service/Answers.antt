-- Such a desk is never spent.
use Rattle.std.proofs.Common.{inl}
use Rattle.lsp_stdio.proofs.StdioLemmas.{on_some}
use Rattle.lsp_sample_run.proofs.RunLemmas.{but_seven}
use Rattle.lsp_sample_run.proofs.program.serve_service.Goals as goal

pub returns-clause-told : goal.returns-clause-told
returns-clause-told g c =
    let e = c.serve.ensures in
    record {
      flushed = e.flushed;
      read = e.read;
      write = e.write;
      read_told = λ rose. inl (e.read_told rose);
      write_told = e.write_told;
      complete = on_some (g.I.Source.left c.args.source.now) _ _ (λ bytes may few read wrote. but_seven _ e.desk_spent (may few read wrote)) e.complete;
    }
