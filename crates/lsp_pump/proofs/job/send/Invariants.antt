-- Nothing was put onto the ring yet.
use Rattle.std.proofs.Common.{◌≡◌}
use Rattle.rtrb.specs.Ring.{sent, SameProducer}
use Rattle.lsp_pump.proofs.job.send.Given as goal

abbrev pub invariant-loop : goal.invariant-loop
invariant-loop l = (sent l.sender ≡ sent l.initial.sender) × (l.piece ≡ l.initial.piece) × SameProducer l.initial.sender l.sender
