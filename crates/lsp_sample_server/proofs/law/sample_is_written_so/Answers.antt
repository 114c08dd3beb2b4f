use Rattle.lsp_sample_server.proofs.WrittenLemmas.{written_so}
use Rattle.lsp_sample_server.proofs.law.sample_is_written_so.Goals as goal

pub returns : goal.returns
returns c = written_so
