-- A read gives what stands at its place, and notes it.
use Rattle.std.proofs.Common.{rules, arith, ◌≤◌, length}
use Rattle.std.proofs.lemmas.Grind.{common_steps}
use Rattle.std.proofs.lemmas.List.Elements.{All-push}
use Rattle.lsp_server.specs.declared.memory_transport.ReadAt.{ReadAt}
use Rattle.lsp_server.proofs.MemoryLemmas.{gives_at}
use Rattle.lsp_server.proofs.MemoryTransportLemmas.{earlier_push}
use Rattle.lsp_server.proofs.memory_transport.MemoryTransportTransport.read.Goals as goal

pub invariant_of-self-2-clause-read : goal.invariant_of-self-2-clause-read
invariant_of-self-2-clause-read c =
    rw c.in-Ok.ensures.items (All-push (λ (r : ReadAt). r.read ≤ length c.args.self.now.bytes.items) c.args.self.now.reads.items _ c.args.self.now.read c.args.self.now.within)

pub invariant_of-self-2-clause-earlier : goal.invariant_of-self-2-clause-earlier
invariant_of-self-2-clause-earlier c =
    rw c.in-Ok.ensures.items (earlier_push (length c.args.self.now.taken.items) c.args.self.now.reads.items (record { read = _; taken = c.len.result; flushed = _ }) (omega (arith, c.len.ensures)) c.args.self.now.earlier)

pub returns-clause-gives : goal.returns-clause-gives
returns-clause-gives c = record {
  within = search rules;
  gives = gives_at c.args.self.now.bytes.items c.fill.new.piece c.args.self.now.at c.min-n.result (search rules) (search rules);
  ends = grind (arith, common_steps);
  kept = tt;
}
