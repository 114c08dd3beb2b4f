-- What holds of each language server holds of the document server.
use Rattle.std.specs.Prelude.{◌≡◌, List, Bool, true, false}
use Rattle.std.proofs.Common.{refl, sym, ap, subst}
use Rattle.lsp_desk.specs.Trace.{DeskEntry}
use Rattle.lsp_session.specs.Semantics.{Phase, Fresh, Held, AreClient}
use Rattle.lsp_ask.specs.declared.answers.Told.{Told}
use Rattle.lsp_ask.specs.Client.{IsTold}
use Rattle.lsp_service.specs.declared.server.NoTask.{NoTask}
use Rattle.lsp_service.specs.Data.{MethodCall, MethodReply}
use Rattle.lsp_service.specs.Open.{no_call}
use Rattle.lsp_service.specs.Server.{Start, Now, Later, ServerPolls, polled_call, IsLawfulServer}
use Rattle.lsp_docs.specs.declared.docs.DocsServer.{DocsServer}
use Rattle.lsp_docs.specs.Docs.{LogsRefusal, DocsAnswers, docs_semantics, refused_call}

told_client : (told : Told) (asked : List DeskEntry) → IsTold refused_call told asked → AreClient asked
told_client told asked e = subst AreClient (sym e) (refl, tt)

logs_client : (refused : Bool) (asked : List DeskEntry) → LogsRefusal refused asked → AreClient asked
logs_client true asked logs = told_client logs.0 asked logs.1
logs_client false asked logs = subst AreClient (sym logs) tt

asks : (s : DocsServer) (phase : Phase MethodCall NoTask) (asked : List DeskEntry) (s2 : DocsServer) (start : Start NoTask) → ServerPolls docs_semantics s phase asked s2 start → AreClient asked
asks s (Fresh c) asked s2 start p = logs_client _ asked p.logs
asks s (Held t) asked s2 start p = subst AreClient (sym p.asks) tt

not_now : (t : NoTask) (r : MethodReply) → Now r ≡ Later t → ⊥
not_now t r e = cc

not_later : (t : NoTask) (r : MethodReply) → Later t ≡ Now r → ⊥
not_later t r e = cc

same_task : (t u : NoTask) → (let x : Start NoTask = Later t in x) ≡ Later u → t ≡ u
same_task t u e = cc

keeps : (s : DocsServer) (phase : Phase MethodCall NoTask) (asked : List DeskEntry) (s2 : DocsServer) (t : NoTask) → ServerPolls docs_semantics s phase asked s2 (Later t)
    → no_call t ≡ polled_call docs_semantics phase
keeps s (Fresh c) asked s2 t p = absurd (not_later t p.reply p.is)
keeps s (Held u) asked s2 t p = ap no_call (same_task t u p.is)

answers : (s : DocsServer) (phase : Phase MethodCall NoTask) (asked : List DeskEntry) (s2 : DocsServer) (r : MethodReply) → ServerPolls docs_semantics s phase asked s2 (Now r)
    → DocsAnswers (polled_call docs_semantics phase) r
answers s (Fresh c) asked s2 r p = record { before = s; asked = asked; after = s2; polled = p }
answers s (Held u) asked s2 r p = absurd (not_now u r p.is)

pub docs_laws : IsLawfulServer docs_semantics
docs_laws = record { asks_client = asks; keeps_call = keeps; keeps_answers = answers }
