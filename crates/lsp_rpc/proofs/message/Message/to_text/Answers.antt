use Rattle.lsp_rpc.proofs.message.Message.to_text.Goals as goal

pub returns-in-Response-clause-reads_back : goal.returns-in-Response-clause-reads_back
returns-in-Response-clause-reads_back c = rw c.in-Response.is c.to_text.ensures.reads_back
