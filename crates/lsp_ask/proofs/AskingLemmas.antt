-- Polls in a row.
use Rattle.std.proofs.Common.{◌≡◌, List, [], ◌∷◌, ◌++◌, true, refl, sym, subst}
use Rattle.std.specs.Prelude.{Result, Ok, Err}
use Rattle.lsp_desk.specs.declared.call.ClientCall.{ClientCall}
use Rattle.lsp_desk.specs.declared.call.ClientCall.TheVariants as calls
use Rattle.lsp_desk.specs.declared.call.ClientReply.{ClientReply}
use Rattle.lsp_desk.specs.declared.call.DeskFault.{DeskFault}
use Rattle.lsp_desk.specs.declared.call.DeskFault.TheVariants as faults
use Rattle.lsp_desk.specs.Call.{Call, is_client}
use Rattle.lsp_desk.specs.Reply.{Reply}
use Rattle.lsp_desk.specs.Meaning.{Meaning, PollsOn, Adds, Calls}
use Rattle.lsp_desk.specs.Shown.{show_client_call, show_client_reply}
use Rattle.lsp_desk.proofs.TraceLemmas.{grows_on, owns-append}
use Rattle.lsp_desk.specs.Trace.{DeskEntry, owns}
use Rattle.lsp_session.specs.Semantics.{AreClient}

-- ---- polls in a row

are_client_on : (a b : List DeskEntry) → AreClient a → AreClient b → AreClient (a ++ b)
are_client_on [] b p q = q
are_client_on (e ∷ a) b p q = (p.0, are_client_on a b p.1 q)

-- one call after another
polls_on : {D : Type 0} (m : Meaning D) (old mid new : D) → PollsOn m old mid AreClient → PollsOn m mid new AreClient → PollsOn m old new AreClient
polls_on m old mid new p q = record {
  trace = p.trace ++ q.trace;
  grows = grows_on m old mid new p.trace q.trace p.grows q.grows;
  holds = subst AreClient (sym (owns-append p.trace q.trace)) (are_client_on _ _ p.holds q.holds);
}

-- ---- one call on the desk

adds_client : {R : Type 0} (show : R → Reply) (c : Call) (result : Result R DeskFault) (own : List DeskEntry) → is_client c ≡ true → Adds show c result own → AreClient own
adds_client show c (Ok reply) own h is = subst AreClient (sym is) (h, tt)
adds_client show c (Err faults.NoMemory) own h is = subst AreClient (sym is) (h, tt)
adds_client show c (Err (faults.Spent n)) own h is = subst AreClient (sym is) tt

by_a_server : (call : ClientCall) → is_client (show_client_call call) ≡ true
by_a_server (calls.Ask method params gated) = refl
by_a_server (calls.Tell method params gated) = refl
by_a_server (calls.Raw request) = refl
by_a_server (calls.Poll ticket) = refl
by_a_server calls.NextId = refl

-- a call of a server goes on from what was asked before it
pub calls_on : {D : Type 0} (m : Meaning D) (old new : D) (call : ClientCall) (result : Result ClientReply DeskFault) → Calls m show_client_reply old (show_client_call call) result new
    → (first : D) → PollsOn m first old AreClient → PollsOn m first new AreClient
calls_on m old new call result p first before = polls_on m first old new before (record { trace = p.trace; grows = p.grows; holds = adds_client show_client_reply (show_client_call call) result (owns p.trace) (by_a_server call) p.adds })
