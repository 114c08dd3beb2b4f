-- A call that has no turn makes no entry.
use Rattle.lsp_desk.specs.Shown.{show_client_call, show_client_reply}
use Rattle.tests_session.specs.declared.spending.Spending.{Spending}
use Rattle.tests_session.proofs.SpendingLemmas.{unturned}
use Rattle.tests_session.proofs.spending.SpendingCaller.client.Goals as goal

pub returns-in_err-turn-clause-calls : goal.returns-in_err-turn-clause-calls
returns-in_err-turn-clause-calls c =
    unturned (λ (s : Spending). s.desk) (λ (s : Spending). s.is_spent) show_client_reply c.args.self.now c.turn.new.self (show_client_call c.args.call) c.from_residual.result _ c.from_residual.ensures.1 c.in_err-turn.ensures.spent c.turn.ensures.desk c.in_err-turn.ensures.err
