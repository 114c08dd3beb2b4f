use Rattle.lsp_relay.proofs.ValueLemmas.{values_read}
use Rattle.lsp_relay.proofs.law.values_read.Goals as goal

pub returns : goal.returns
returns c = values_read
