-- A server that answers each call at once, and asks its client for nothing.
use Rattle.std.specs.Prelude.{◌≡◌, List, []}
use Rattle.std.proofs.Common.{sym, ap, subst}
use Rattle.lsp_desk.specs.Trace.{DeskEntry}
use Rattle.lsp_session.specs.Semantics.{Phase, Fresh, Held, AreClient}
use Rattle.lsp_service.specs.declared.server.NoTask.{NoTask}
use Rattle.lsp_service.specs.Data.{MethodCall, MethodReply}
use Rattle.lsp_service.specs.Open.{no_call}
use Rattle.lsp_service.specs.Server.{Start, Now, Later, ServerSemantics, ServerPolls, polled_call, IsLawfulServer}

-- the reply is one that the server gives
pub record Gives {S : Type 0} (gives : S → MethodCall → S → MethodReply → Type 0) (s : S) (c : MethodCall) (asked : List DeskEntry) (s2 : S) (start : Start NoTask) : Type 0 where
  pub asks : asked ≡ []
  pub reply : MethodReply
  pub is : start ≡ Now reply
  pub given : gives s c s2 reply

-- nothing was asked, and the task and the value are as they were
pub record Idles {S : Type 0} (s : S) (t : NoTask) (asked : List DeskEntry) (s2 : S) (start : Start NoTask) : Type 0 where
  pub asks : asked ≡ []
  pub same : s2 ≡ s
  pub is : start ≡ Later t

pub record MayAnswer {S : Type 0} (gives : S → MethodCall → S → MethodReply → Type 0) (c : MethodCall) (r : MethodReply) : Type 0 where
  pub before : S
  pub after : S
  pub given : gives before c after r

abbrev pub answering_semantics : {S : Type 0} → (S → MethodCall → S → MethodReply → Type 0) → ServerSemantics S NoTask
answering_semantics gives = record {
  Task = NoTask;
  show_task = λ t. t;
  call_of = no_call;
  begins = Gives gives;
  resumes = Idles;
  answers = MayAnswer gives;
}

module _ {S : Type 0} (gives : S → MethodCall → S → MethodReply → Type 0) where
  asks : (s : S) (phase : Phase MethodCall NoTask) (asked : List DeskEntry) (s2 : S) (start : Start NoTask)
      → ServerPolls (answering_semantics gives) s phase asked s2 start → AreClient asked
  asks s (Fresh c) asked s2 start p = subst AreClient (sym p.asks) tt
  asks s (Held t) asked s2 start p = subst AreClient (sym p.asks) tt

  not_now : (t : NoTask) (r : MethodReply) → Now r ≡ Later t → ⊥
  not_now t r e = cc

  not_later : (t : NoTask) (r : MethodReply) → Later t ≡ Now r → ⊥
  not_later t r e = cc

  same_task : (t u : NoTask) → (let x : Start NoTask = Later t in x) ≡ Later u → t ≡ u
  same_task t u e = cc

  keeps : (s : S) (phase : Phase MethodCall NoTask) (asked : List DeskEntry) (s2 : S) (t : NoTask)
      → ServerPolls (answering_semantics gives) s phase asked s2 (Later t) → no_call t ≡ polled_call (answering_semantics gives) phase
  keeps s (Fresh c) asked s2 t p = absurd (not_later t p.reply p.is)
  keeps s (Held u) asked s2 t p = ap no_call (same_task t u p.is)

  same_reply : (r q : MethodReply) → (let x : Start NoTask = Now r in x) ≡ Now q → r ≡ q
  same_reply r q e = cc

  answers : (s : S) (phase : Phase MethodCall NoTask) (asked : List DeskEntry) (s2 : S) (r : MethodReply)
      → ServerPolls (answering_semantics gives) s phase asked s2 (Now r) → MayAnswer gives (polled_call (answering_semantics gives) phase) r
  answers s (Fresh c) asked s2 r p = record { before = s; after = s2; given = subst (λ q. gives s c s2 q) (sym (same_reply r p.reply p.is)) p.given }
  answers s (Held u) asked s2 r p = absurd (not_now u r p.is)

  pub answering_laws : IsLawfulServer (answering_semantics gives)
  answering_laws = record { asks_client = asks; keeps_call = keeps; keeps_answers = answers }
