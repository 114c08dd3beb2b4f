-- A write leaves what stood at the reads.
use Rattle.std.proofs.Common.{rules, length}
use Rattle.lsp_server.proofs.MemoryTransportLemmas.{earlier_more, made_kept}
use Rattle.lsp_server.proofs.memory_transport.MemoryTransportSink.write.Goals as goal

pub invariant_of-self-clause-earlier : goal.invariant_of-self-clause-earlier
invariant_of-self-clause-earlier c =
    earlier_more (length c.args.self.now.taken.items) (length c.extend_from_slice.new.self.items) c.args.self.now.reads.items (search rules) c.args.self.now.earlier

pub returns-in-Ok-clause-reads : goal.returns-in-Ok-clause-reads
returns-in-Ok-clause-reads c =
    let kept = made_kept c.args.self.now.bytes.items c.args.self.now.taken.items c.args.piece.now c.args.self.now.reads.items c.args.self.now.earlier in
    search rules
