-- What a `Take` delivers is counted, and no other call delivers anything.
use Rattle.std.proofs.Common.{sym, ◌∙◌, ap, ◌+◌, ◌%◌, ◌^◌, ℕ}
use Rattle.lsp_shared.specs.Seats.{seat_view}
use Rattle.lsp_callers.proofs.CountLemmas.{counted_take, counted_server}
use Rattle.lsp_callers.proofs.tallied.TalliedDesk.server.Goals as goal

pub invariant_of-self : goal.invariant_of-self
invariant_of-self g c = record {
  counted = ap (λ (n : ℕ). (c.args.self.now.delivered + n) % 2 ^ 64) c.given.ensures
      ∙ counted_take (seat_view c.args.self.now.owner) (seat_view c.server-reply.new.self) c.args.call c.server-reply.result c.args.self.now.delivered c.args.self.now.owner.role_is
      (sym c.is_take-is_take.ensures ∙ c.if-is_take.true) c.server-reply.ensures.turned c.args.self.now.counted;
}

pub invariant_of-self-else-is_take : goal.invariant_of-self-else-is_take
invariant_of-self-else-is_take g c = record {
  counted = counted_server (seat_view c.args.self.now.owner) (seat_view c.server-reply.new.self) c.args.call c.server-reply.result c.args.self.now.delivered c.args.self.now.owner.role_is
      (sym c.is_take-is_take.ensures ∙ c.if-is_take.false) c.server-reply.ensures.turned c.args.self.now.counted;
}
