-- A call of a server delivers nothing.
use Rattle.lsp_shared.specs.Seats.{seat_view}
use Rattle.lsp_callers.proofs.CountLemmas.{counted_client}
use Rattle.lsp_callers.proofs.tallied.TalliedCaller.client.Goals as goal

pub invariant_of-self : goal.invariant_of-self
invariant_of-self g c = record {
  counted = counted_client (seat_view c.args.self.now.owner) (seat_view c.client.new.self) c.args.call c.client.result c.args.self.now.delivered c.args.self.now.owner.role_is c.client.ensures.turned c.args.self.now.counted;
}
