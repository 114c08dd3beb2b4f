-- The server's own messages: what calls on the desk put in comes out once and in order.
use Rattle.std.specs.Prelude.{◌≡◌, ◌++◌, ℕ, List, [], ◌∷◌, Bool, true, false, if◌then◌else◌, Option, Some, None}
use Rattle.lsp_rpc.specs.Message.{RequestData, MessageData, request, response}
use Rattle.lsp_desk.specs.Call.{Call}
use Rattle.lsp_desk.specs.Call as calls
use Rattle.lsp_desk.specs.Reply.{Reply}
use Rattle.lsp_desk.specs.Flow.{all_put}
use Rattle.lsp_desk.specs.Trace.{DeskEntry, entries_of, AllOwn}
use Rattle.lsp_session.specs.Item.{ItemData}
use Rattle.lsp_session.specs.Semantics.{Semantics}
use Rattle.lsp_session.specs.State.{State, Effect}
use Rattle.lsp_session.specs.Run.{Order}
use Rattle.lsp_session.specs.Laws.{OpenedRun}

-- the requests and notifications among messages
abbrev pub requests_of : List MessageData → List RequestData
requests_of [] = []
requests_of (request r ∷ ms) = r ∷ requests_of ms
requests_of (response r ∷ ms) = requests_of ms

abbrev pub is_close : Call → Bool
is_close (calls.Ask method params gated) = false
is_close (calls.Tell method params gated) = false
is_close (calls.Raw r) = false
is_close (calls.Poll ticket) = false
is_close calls.NextId = false
is_close calls.Look = false
is_close (calls.Rise life) = false
is_close calls.Fall = false
is_close (calls.Answer r) = false
is_close calls.Next = false
is_close calls.Take = false
is_close calls.Close = true

-- an exit was admitted: the desk was closed
abbrev pub closes : Call → Option Reply → Bool
closes c None = false
closes c (Some reply) = is_close c

-- the entries before any exit
abbrev pub before_exit : List DeskEntry → List DeskEntry
before_exit [] = []
before_exit (entry ∷ entries) = if closes entry.call entry.reply then [] else entry ∷ before_exit entries

-- the server's own messages are those that calls put in the desk before any exit, once each and in order, less those that
-- the desk still holds; a desk that others don't use holds none
pub record OwnMessagesPass {H C T P : Type 0} (semantics : Semantics H C T) (order : Order P) : Type 0 where
  pub pass : (rounds : ℕ) (service : H) (items : List ItemData) (e : Effect) (last : State H semantics.Call semantics.Task)
      → OpenedRun semantics order rounds service items e last → requests_of e.out ++ last.desk.outbox ≡ all_put (before_exit (entries_of e.trace))
  pub alone : (rounds : ℕ) (service : H) (items : List ItemData) (e : Effect) (last : State H semantics.Call semantics.Task)
      → OpenedRun semantics order rounds service items e last → AllOwn e.trace → last.desk.outbox ≡ []
