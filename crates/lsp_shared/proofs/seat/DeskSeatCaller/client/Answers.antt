-- A call through a seat is one of the desk's.
use Rattle.std.proofs.Common.{refl}
use Rattle.lsp_desk.specs.Shown.{show_client_reply}
use Rattle.lsp_shared.specs.declared.view.Asked.TheVariants.{Client}
use Rattle.lsp_shared.specs.Steps.{by_client}
use Rattle.lsp_shared.specs.Seats.{at_rest}
use Rattle.lsp_shared.proofs.Calling.{seat_calls, spent_stays, turn_tickets}
use Rattle.lsp_shared.proofs.seat.DeskSeatCaller.client.Goals as goal

pub returns-clause-calls : goal.returns-clause-calls
returns-clause-calls g c =
    let did = c.turn.ensures in
    seat_calls at_rest show_client_reply by_client (λ _. refl) _ _ (Client c.args.call) _ did.answered did.here (spent_stays _ _ _ did.spent_stays (λ n is. (did.spent n is).1))

pub returns-clause-tickets : goal.returns-clause-tickets
returns-clause-tickets g c = turn_tickets by_client (Client c.args.call) _ _ _ c.turn.ensures.answered
