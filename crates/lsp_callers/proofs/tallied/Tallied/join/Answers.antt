-- What another seat brings delivers nothing.
use Rattle.std.proofs.Common.{◌^◌, ◌%◌, ℕ, refl, sym, ap, ◌∙◌}
use Rattle.lsp_shared.specs.Seats.{seat_view}
use Rattle.lsp_callers.proofs.CountLemmas.{delivered_clients}
use Rattle.lsp_callers.proofs.tallied.Tallied.join.Goals as goal

pub invariant_of-self : goal.invariant_of-self
invariant_of-self g c = record {
  counted = c.args.self.now.counted ∙ ap (λ (n : ℕ). n % 2 ^ 64) (sym (delivered_clients (seat_view c.args.self.now.owner) (seat_view c.join.new.self) (c.join.ensures.clients refl)));
}
