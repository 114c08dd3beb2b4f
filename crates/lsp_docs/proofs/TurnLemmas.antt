-- What a poll of a typed call comes to is what the call that it shows comes to.
use Rattle.std.proofs.Common.{◌≡◌, ℕ, [], Option, refl, sym, ◌∙◌, subst}
use Rattle.std.specs.Prelude.{Box}
use Rattle.std.specs.declared.alloc.Global.{Global}
use Rattle.serde_json.specs.declared.value.Value.{Value}
use Rattle.lsp_desk.specs.Meaning.{Meaning, PollsOn}
use Rattle.lsp_desk.specs.Trace.{owns}
use Rattle.lsp_desk.proofs.TraceLemmas.{grows_none}
use Rattle.lsp_work.specs.declared.document.DidChangeTextDocumentParams.{DidChangeTextDocumentParams}
use Rattle.lsp_work.specs.declared.document.DidCloseTextDocumentParams.{DidCloseTextDocumentParams}
use Rattle.lsp_work.specs.declared.document.DidOpenTextDocumentParams.{DidOpenTextDocumentParams}
use Rattle.lsp_documents.specs.Documents.{DocumentMap, Notification}
use Rattle.lsp_service.specs.declared.call.Call.{Call}
use Rattle.lsp_service.specs.declared.call.Call.TheVariants as calls
use Rattle.lsp_service.specs.declared.call.LifeCall.{LifeCall}
use Rattle.lsp_service.specs.declared.call.SyncCall.{SyncCall}
use Rattle.lsp_service.specs.declared.call.SyncCall.TheVariants as sync_calls
use Rattle.lsp_service.specs.Calls.{show_call}
use Rattle.lsp_service.specs.Data.{MethodReply, noted}
use Rattle.lsp_service.specs.Server.{Now}
use Rattle.lsp_docs.specs.declared.docs.DocsServer.{DocsServer}
use Rattle.lsp_docs.specs.Docs.{DocsTurn, DocsPoll, LogsRefusal, Heeded, TakesTurn, TurnsTo, is_refused, replies, tells}
use Rattle.lsp_docs.specs.Typed.{call_turn, sync_turn, unknown_turn}
use Rattle.lsp_docs.proofs.ShownLemmas.{shown_turn}

-- a reply asks nothing
pub takes_reply : {D : Type 0} (m : Meaning D) (d : D) (turn : DocsTurn) (ds ds2 : DocumentMap) (r : MethodReply) → turn ≡ replies r → ds2 ≡ ds → PollsOn m d d (TakesTurn turn ds ds2 r)
takes_reply m d turn ds ds2 r e same = record {
  trace = [];
  grows = grows_none m d;
  holds = subst (λ t. TakesTurn t ds ds2 r []) (sym e) ((same, refl), refl);
}

-- a notification of a document
pub takes_note : {D : Type 0} (m : Meaning D) (old new : D) (turn : DocsTurn) (n : Notification) (ds ds2 : DocumentMap) → turn ≡ tells n → PollsOn m old new (Heeded n ds ds2) → PollsOn m old new (TakesTurn turn ds ds2 noted)
takes_note m old new turn n ds ds2 e p = subst (λ t. PollsOn m old new (TakesTurn t ds ds2 noted)) (sym e) p

-- a poll of a call takes the turn of the call that it shows
pub polls_turn : {D : Type 0} (m : Meaning D) (old new : D) (s s2 : DocsServer) (c : Call) (turn : DocsTurn) (r : MethodReply) → call_turn s.documents c ≡ turn → PollsOn m old new (TakesTurn turn s.documents s2.documents r)
    → PollsOn m old new (λ asked. DocsPoll s (show_call c) asked s2 (Now r))
polls_turn m old new s s2 c turn r e p =
    let shown = shown_turn s.documents c ∙ e in
    record {
      trace = p.trace;
      grows = p.grows;
      holds = record {
        reply = r;
        is = refl;
        turns = subst (λ t. TurnsTo t s.documents s2.documents r) (sym shown) p.holds.0;
        logs = subst (λ t. LogsRefusal (is_refused t s.documents) (owns p.trace)) (sym shown) p.holds.1;
      };
    }

-- a call of another group isn't known
pub unknown_group : (ds : DocumentMap) (c : Call) → ((l : LifeCall) → c ≡ calls.Life l → ⊥) → ((s : SyncCall) → c ≡ calls.Sync s → ⊥) → ((n : ℕ) (p : Option Value) → c ≡ calls.Custom n p → ⊥) → call_turn ds c ≡ unknown_turn
unknown_group ds (calls.Life l) life sync custom = absurd (life l refl)
unknown_group ds (calls.Sync s) life sync custom = absurd (sync s refl)
unknown_group ds (calls.Custom n p) life sync custom = absurd (custom n p refl)
unknown_group ds c life sync custom = refl

-- a call of the group isn't known that isn't a notification of a document
pub unknown_sync : (c : SyncCall) → ((p : Box DidOpenTextDocumentParams Global) → c ≡ sync_calls.DidOpen p → ⊥) → ((p : Box DidChangeTextDocumentParams Global) → c ≡ sync_calls.DidChange p → ⊥) → ((p : Box DidCloseTextDocumentParams Global) → c ≡ sync_calls.DidClose p → ⊥) → sync_turn c ≡ unknown_turn
unknown_sync (sync_calls.DidOpen p) opened changed closed = absurd (opened p refl)
unknown_sync (sync_calls.DidChange p) opened changed closed = absurd (changed p refl)
unknown_sync (sync_calls.DidClose p) opened changed closed = absurd (closed p refl)
unknown_sync c opened changed closed = refl
