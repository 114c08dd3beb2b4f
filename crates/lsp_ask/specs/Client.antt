-- What a call of a client does on its desk.
use Rattle.std.specs.Prelude.{◌≡◌, ℕ, pos, Bool, true, false, List, [], ◌∷◌, Option, Some, None}
use Rattle.lsp_rpc.specs.declared.code.ErrorCode.TheVariants as error_codes
use Rattle.lsp_rpc.specs.Message.{IdData, error_with_code, number_id}
use Rattle.lsp_desk.specs.declared.call.DeskFault.{DeskFault}
use Rattle.lsp_desk.specs.declared.call.DeskFault.TheVariants as faults
use Rattle.lsp_desk.specs.Call.{Call, Poll, NextId, call_has_float}
use Rattle.lsp_desk.specs.Reply.{Reply}
use Rattle.lsp_desk.specs.Reply as replies
use Rattle.lsp_desk.specs.Flow.{is_sent}
use Rattle.lsp_desk.specs.Trace.{DeskEntry}
use Rattle.lsp_desk.specs.Meaning.{Meaning, PollsOn}
use Rattle.lsp_session.specs.Run.{replied}
use Rattle.lsp_session.specs.Semantics.{AreClient}
use Rattle.lsp_shape.specs.Shape.{Shape}
use Rattle.lsp_ask.specs.declared.answers.Told.{Told}
use Rattle.lsp_ask.specs.declared.answers.Told.TheVariants as tolds
use Rattle.lsp_ask.specs.Answers.{told_reply, AskedData, refused, asked_of, AnsweredData, answered_of, may_lack}

-- this call was made, and the desk's reply is told
abbrev pub TellsClean : Call → Told → List DeskEntry → Type 0
TellsClean call told own = own ≡ replied call (told_reply told) ∷ []

-- this call was made, and the desk's reply came to this
abbrev pub AsksClean : Call → AskedData → List DeskEntry → Type 0
AsksClean call asked own = (reply : Reply) × (own ≡ replied call reply ∷ []) × (asked_of reply ≡ Some asked)

-- the first, or the second where there is a float
abbrev pub UnlessFloat : Bool → Type 0 → Type 0 → Type 0
UnlessFloat false P Q = P
UnlessFloat true P Q = Q

-- this call was made, and the desk's reply is told; but one that holds a float wasn't made
abbrev pub IsTold : Call → Told → List DeskEntry → Type 0
IsTold call told own = UnlessFloat (call_has_float call) (TellsClean call told own) ((told ≡ tolds.Suppressed) × (own ≡ []))

-- this call was made, and the desk's reply came to this; but one that holds a float wasn't made, and was refused
abbrev pub IsAsked : Call → AskedData → List DeskEntry → Type 0
IsAsked call asked own = UnlessFloat (call_has_float call) (AsksClean call asked own) ((asked ≡ refused (error_with_code error_codes.InternalError)) × (own ≡ []))

-- the answer of this ticket was asked for, and the desk's reply came to this
abbrev pub IsPolled : Shape → ℕ → AnsweredData → List DeskEntry → Type 0
IsPolled s ticket answered own = (reply : Reply) × (own ≡ replied (Poll ticket) reply ∷ []) × (answered_of s ticket reply ≡ Some answered)

-- this id was drawn
abbrev pub IsDrawn : IdData → List DeskEntry → Type 0
IsDrawn id own = (n : ℕ) × (id ≡ number_id (pos n)) × (own ≡ replied NextId (replies.Number n) ∷ [])

-- ---- after a fault

-- the reply, where there was one, says that the message was sent
abbrev pub says_sent : Option Reply → Bool
says_sent None = false
says_sent (Some reply) = is_sent reply

-- at most this call was made, and it sent nothing
abbrev pub SendsNone : Call → List DeskEntry → Type 0
SendsNone c [] = Unit {0}
SendsNone c (e ∷ own) = (e.call ≡ c) × (says_sent e.reply ≡ false) × (own ≡ [])

-- at most this call was made, and there was no reply: telling any takes no memory
abbrev pub IsUnreplied : Call → List DeskEntry → Type 0
IsUnreplied c [] = Unit {0}
IsUnreplied c (e ∷ own) = (e.call ≡ c) × (e.reply ≡ None) × (own ≡ [])

abbrev pub may_lack_after : Option Reply → Bool
may_lack_after None = true
may_lack_after (Some reply) = may_lack reply

-- out of memory: this ticket's answer was asked for, and the reply, where there was one, is one that takes memory to tell;
-- with no turn left, no call was made
abbrev pub IsPollCut : ℕ → DeskFault → List DeskEntry → Type 0
IsPollCut ticket faults.NoMemory own = (reply : Option Reply) × (own ≡ record { call = Poll ticket; reply = reply } ∷ []) × (may_lack_after reply ≡ true)
IsPollCut ticket (faults.Spent n) own = own ≡ []

-- ---- calls in a row

-- a call goes on from what a server asked before it, so a poll may make any number of them
abbrev pub Continues : {D : Type 0} → Meaning D → D → D → Type 0
Continues {D = D} m old new = (first : D) → PollsOn m first old AreClient → PollsOn m first new AreClient
