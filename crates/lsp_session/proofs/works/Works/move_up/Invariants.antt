use Rattle.std.proofs.Common.{◌≡◌, [], length}
use Rattle.lsp_session.proofs.SlotLemmas.{up_slots, up_queue}
use Rattle.lsp_session.proofs.works.Works.move_up.Given as goal

abbrev pub invariant-loop-self : goal.invariant-loop-self
invariant-loop-self g l = record {
  slots : up_slots l.self.max l.self.slots.items l.self.queue.items ≡ up_slots l.fn.self.max l.fn.self.slots.items l.fn.self.queue.items;
  limits : (l.self.max ≡ l.fn.self.max) × (l.self.wait ≡ l.fn.self.wait);
  queue : up_queue l.self.max l.self.slots.items l.self.queue.items ≡ up_queue l.fn.self.max l.fn.self.slots.items l.fn.self.queue.items;
  none : l.fn.self.queue.items ≡ [] → l.self.queue.items ≡ [];
}

abbrev pub decreases-loop-self : goal.decreases-loop-self
decreases-loop-self g l = length l.self.queue.items
