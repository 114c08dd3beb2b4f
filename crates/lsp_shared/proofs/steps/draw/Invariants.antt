use Rattle.std.proofs.Common.{◌≡◌, ◌≤◌}
use Rattle.lsp_shared.specs.Steps.{reading}
use Rattle.lsp_shared.proofs.steps.draw.Given as goal

abbrev pub invariant-loop : goal.invariant-loop
invariant-loop g l =
    (l.seat.table_id ≡ l.initial.seat.table_id) × (l.initial.seat.me.0.read ≤ l.seat.me.0.read)
    × (l.seat.me ≡ (reading l.initial.seat.me.0 l.seat.me.0.read, l.initial.seat.me.1))
