use Rattle.std.proofs.Common.{◌≡◌, ◌+◌, ◌++◌, ℕ, true, length, Err}
use Rattle.std.specs.Prelude.{OnOk, IfOk}
use Rattle.std.specs.Option.{option_or}
use Rattle.std.specs.Result.{result_err}
use Rattle.lsp_desk.specs.declared.call.DeskFault.TheVariants as faults
use Rattle.lsp_shared.specs.Desks.{desk_id}
use Rattle.lsp_shared.specs.Steps.{AddsClients}
use Rattle.lsp_callers.specs.Made.{entries_made}
use Rattle.lsp_callers.specs.Callers.{AreHeardOn, heard_shares, all_said_of, messages_of, first_fault}
use Rattle.lsp_callers.specs.Tallies.{tallied_view, tallied_desk, tallied_spent}
use Rattle.lsp_callers.proofs.threads.gather.Given as goal

abbrev pub invariant-loop-heard : goal.invariant-loop-heard
invariant-loop-heard g l = record {
  heard : AreHeardOn (desk_id l.desk) l.rest.items;
  said : OnOk l.all (entries_made (tallied_view l.tallied) ++ all_said_of l.rest.items ≡ entries_made (tallied_view l.fn.tallied) ++ all_said_of l.fn.heard.items);
  sent : IfOk l.all (λ sent. sent + messages_of l.rest.items ≡ messages_of l.fn.heard.items);
  fault : option_or (result_err l.all) (first_fault l.rest.items) ≡ first_fault l.fn.heard.items;
  spent : (n : ℕ) → l.all ≡ Err (faults.Spent n) → tallied_spent l.tallied ≡ true;
  stays : tallied_spent l.fn.tallied ≡ true → tallied_spent l.tallied ≡ true;
  shares : (tallied_view l.tallied).share + heard_shares l.rest.items ≡ (tallied_view l.fn.tallied).share + heard_shares l.fn.heard.items;
  clients : AddsClients (tallied_view l.fn.tallied).seen (tallied_view l.tallied).seen;
  here : tallied_desk l.tallied ≡ tallied_desk l.fn.tallied;
}

abbrev pub decreases-loop-heard : goal.decreases-loop-heard
decreases-loop-heard g l = length l.rest.items
