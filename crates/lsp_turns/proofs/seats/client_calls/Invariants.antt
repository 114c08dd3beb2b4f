use Rattle.std.proofs.Common.{◌≡◌}
use Rattle.lsp_shared.specs.Seats.{seat_desk}
use Rattle.lsp_turns.proofs.seats.client_calls.Given as goal

abbrev pub invariant-loop-number : goal.invariant-loop-number
invariant-loop-number g l = seat_desk l.client ≡ seat_desk l.initial.client
