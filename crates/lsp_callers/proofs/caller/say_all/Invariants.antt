use Rattle.std.proofs.Common.{◌≡◌, ◌≤◌, ◌-◌}
use Rattle.lsp_shared.specs.Seats.{seat_view, seat_desk, seat_meaning}
use Rattle.lsp_callers.specs.Said.{said_by}
use Rattle.lsp_callers.specs.Made.{entries_made, KeepsSeat}
use Rattle.lsp_callers.proofs.caller.say_all.Given as goal

abbrev pub invariant-loop-sent : goal.invariant-loop-sent
invariant-loop-sent g l = record {
  said : entries_made (seat_view l.client) ≡ said_by l.fn.number l.sent;
  stays : KeepsSeat (seat_desk l.fn.client) (seat_view l.fn.client) (seat_desk l.client) (seat_view l.client);
  spent_stays : seat_meaning.spent l.client ≡ seat_meaning.spent l.fn.client;
  within : l.sent ≤ l.plan.messages;
}

abbrev pub decreases-loop-sent : goal.decreases-loop-sent
decreases-loop-sent g l = l.plan.messages - l.sent
