-- What the calls of a socket make of a desk.
use Rattle.std.specs.Prelude.{◌≡◌, Bool, false, List, [], ◌∷◌, Option, Some, None, MatchOption}
use Rattle.lsp_rpc.specs.declared.request.Request.{Request}
use Rattle.lsp_rpc.specs.Message.{RequestData, may_have_float}
use Rattle.lsp_rpc.specs.Shown.{show_request}
use Rattle.lsp_desk.specs.declared.call.DeskFault.{DeskFault}
use Rattle.lsp_desk.specs.declared.call.DeskFault.TheVariants as faults
use Rattle.lsp_desk.specs.declared.life.Life.{Life}
use Rattle.lsp_desk.specs.declared.life.Life.TheVariants.{Exited}
use Rattle.lsp_desk.specs.declared.socket.SocketFault.{SocketFault}
use Rattle.lsp_desk.specs.declared.socket.SocketFault.TheVariants as socket_faults
use Rattle.lsp_desk.specs.declared.ready.Poll.{Poll}
use Rattle.lsp_desk.specs.declared.ready.Poll.TheVariants.{Ready, Pending}
use Rattle.lsp_desk.specs.Call.{Call, Look, Next}
use Rattle.lsp_desk.specs.Reply.{LifeIs, First}
use Rattle.lsp_desk.specs.Lives.{is_exited}
use Rattle.lsp_desk.specs.Trace.{DeskEntry, TraceEntry, owns}
use Rattle.lsp_desk.specs.Meaning.{Meaning, Grows, Spends, PollsOn}

-- the life was asked for
abbrev pub looked : Life → DeskEntry
looked life = record { call = Look; reply = Some (LifeIs life) }

-- the first message was taken, if there was one
abbrev pub took_first : Option RequestData → DeskEntry
took_first first = record { call = Next; reply = Some (First first) }

-- a message, the end of all messages, or none yet
abbrev pub show_next : Poll (Option Request) → Poll (Option RequestData)
show_next (Ready None) = Ready None
show_next (Ready (Some r)) = Ready (Some (show_request r))
show_next Pending = Pending

-- the end comes where the session has exited, and then no message is taken; otherwise the first one is, if there is one
abbrev pub IsNextOf : Poll (Option RequestData) → List DeskEntry → Type 0
IsNextOf (Ready None) own = own ≡ looked Exited ∷ []
IsNextOf (Ready (Some r)) own = (life : Life) × (is_exited life ≡ false) × (own ≡ looked life ∷ took_first (Some r) ∷ [])
IsNextOf Pending own = (life : Life) × (is_exited life ≡ false) × (own ≡ looked life ∷ took_first None ∷ [])

abbrev pub next_has_float : Poll (Option RequestData) → Bool
next_has_float (Ready None) = false
next_has_float (Ready (Some r)) = may_have_float r.params
next_has_float Pending = false

-- the life was asked for, and the session has not exited
abbrev pub HasNotExited : List DeskEntry → Type 0
HasNotExited own = (life : Life) × (is_exited life ≡ false) × (own ≡ looked life ∷ [])

-- a call that comes to this fault is not made
abbrev pub IsUnmade : DeskFault → Type 0
IsUnmade faults.NoMemory = ⊥
IsUnmade (faults.Spent n) = Unit {0}

-- the first of these calls were made and replied to; the next one was out of memory, or, where the desk is spent, not made
abbrev pub AreCut : DeskFault → List Call → List DeskEntry → Type 0
AreCut fault [] own = ⊥
AreCut fault (c ∷ cs) [] = IsUnmade fault
AreCut fault (c ∷ cs) (e ∷ own) = (e.call ≡ c) × MatchOption e.reply ((fault ≡ faults.NoMemory) × (own ≡ [])) (λ reply. AreCut fault cs own)

-- these calls were begun, and then this fault came in place of a reply
pub record CutShort {D : Type 0} (m : Meaning D) (old new : D) (calls : List Call) (fault : DeskFault) : Type 0 where
  pub trace : List TraceEntry
  pub grows : Grows m old trace new
  pub cut : AreCut fault calls (owns trace)
  pub spends : Spends m new fault

-- why no answer is taken: the session has exited, or the desk did not say
abbrev pub NotReady : {D : Type 0} → Meaning D → D → D → SocketFault → Type 0
NotReady m old new (socket_faults.Exited e) = PollsOn m old new (λ own. own ≡ looked Exited ∷ [])
NotReady m old new (socket_faults.Desk fault) = CutShort m old new (Look ∷ []) fault
