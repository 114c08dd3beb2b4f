-- What a poll comes to, and what a session writes, is determined.
use Rattle.std.specs.Prelude.{◌≡◌, ℕ, List, true, map, Some}
use Rattle.lsp_desk.specs.Meaning.{Meaning}
use Rattle.lsp_desk.specs.Trace.{DeskEntry}
use Rattle.lsp_server.specs.Course.{Setting, course}
use Rattle.lsp_server.specs.Served.{CallBytes, ServedView, IsServed}
use Rattle.lsp_session.specs.Run.{Order}
use Rattle.lsp_session.specs.Semantics.{Semantics}
use Rattle.lsp_service.specs.declared.incoming.Incoming.{Incoming}
use Rattle.lsp_service.specs.declared.server.NoTask.{NoTask}
use Rattle.lsp_service.specs.declared.service.LspService.{LspService}
use Rattle.lsp_service.specs.Data.{MethodCall}
use Rattle.lsp_service.specs.Server.{Start}
use Rattle.lsp_docs.specs.declared.docs.DocsServer.{DocsServer}
use Rattle.lsp_docs.specs.Docs.{DocsPoll}

-- two polls of one call, from the same documents on, come to the same reply, leave the same documents, and make the same
-- calls on the desk, whatever it replies
abbrev pub PollsAreAFunction : Type 0
PollsAreAFunction =
    (s : DocsServer) (c : MethodCall) (asked asked2 : List DeskEntry) (s2 t2 : DocsServer) (start start2 : Start NoTask) → DocsPoll s c asked s2 start → DocsPoll s c asked2 t2 start2
    → (start2 ≡ start) × (t2 ≡ s2) × (map (λ (e : DeskEntry). e.call) asked2 ≡ map (λ (e : DeskEntry). e.call) asked)

-- two sessions with the same settings, of the same bytes, have written the same, and hold the same documents, where others
-- make no calls on the desk
abbrev pub SessionsAreAFunction : {D T P : Type 0} → Semantics (LspService DocsServer) Incoming T → Meaning D → Order P → Type 0
SessionsAreAFunction {D} {P = P} semantics m order =
    (setting : Setting (LspService DocsServer) D P) → m.alone setting.desk ≡ true
    → (call call2 : CallBytes) (served served2 : ServedView (LspService DocsServer) D) (pick pick2 : P) (before : List ℕ) → call2.bytes ≡ call.bytes → call.taken ≡ Some before → call2.taken ≡ Some before
    → IsServed (course semantics m order setting) call served pick → IsServed (course semantics m order setting) call2 served2 pick2
    → (call2.taken_after ≡ call.taken_after) × (served2.service.server ≡ served.service.server)
