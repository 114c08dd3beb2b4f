use Rattle.std.proofs.Common.{◌≡◌, ◌≤◌, ◌-◌, ◌+◌, ◌^◌, length, vec_len, vec_capacity}
use Rattle.lsp_shared.specs.Seats.{seat_view, seat_desk, seat_meaning}
use Rattle.lsp_callers.specs.Callers.{AreIdleFrom, idle_shares, share_left, KeepsHistory}
use Rattle.lsp_callers.proofs.threads.idle_callers.Given as goal

abbrev pub invariant-loop-number : goal.invariant-loop-number
invariant-loop-number g l = record {
  idle : AreIdleFrom (seat_desk l.fn.owner) 0 l.callers.items;
  len : vec_len l.callers ≡ l.number;
  many : length l.callers.items ≡ l.number;
  shares : (seat_view l.owner).share + idle_shares l.callers.items ≡ 2 ^ 63;
  left : (seat_view l.owner).share ≡ share_left l.number;
  kept : KeepsHistory (seat_view l.fn.owner) (seat_view l.owner);
  here : seat_desk l.owner ≡ seat_desk l.fn.owner;
  spent : seat_meaning.spent l.owner ≡ seat_meaning.spent l.fn.owner;
  within : l.number ≤ l.count;
  room : vec_capacity l.callers ≡ l.count;
}

abbrev pub decreases-loop-number : goal.decreases-loop-number
decreases-loop-number g l = l.count - l.number
