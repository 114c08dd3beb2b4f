-- The messages and the tickets that entries put in a desk and take out of it.
use Rattle.std.specs.Prelude.{◌++◌, ℕ, Bool, true, false, if◌then◌else◌, List, [], ◌∷◌, map, Option, Some, None}
use Rattle.lsp_rpc.specs.Message.{IdData, RequestData}
use Rattle.lsp_desk.specs.Call.{Call}
use Rattle.lsp_desk.specs.Call as calls
use Rattle.lsp_desk.specs.Reply.{Reply}
use Rattle.lsp_desk.specs.Reply as replies
use Rattle.lsp_desk.specs.Desk.{DeskState}
use Rattle.lsp_desk.specs.Trace.{DeskEntry}

-- ---- messages

-- a message was put in where the reply is a ticket or says that it was sent
abbrev pub is_sent : Reply → Bool
is_sent (replies.Ticket n i) = true
is_sent replies.Sent = true
is_sent replies.Suppressed = false
is_sent replies.NotInitialized = false
is_sent replies.Exited = false
is_sent (replies.Answered r) = false
is_sent replies.Awaited = false
is_sent replies.Gone = false
is_sent (replies.Number n) = false
is_sent (replies.LifeIs life) = false
is_sent replies.Done = false
is_sent replies.Given = false
is_sent replies.Ignored = false
is_sent (replies.First o) = false
is_sent (replies.Messages rs) = false

-- the id that a request was given
abbrev pub id_given : Reply → Option IdData
id_given (replies.Ticket n i) = Some i
id_given replies.Sent = None
id_given replies.Suppressed = None
id_given replies.NotInitialized = None
id_given replies.Exited = None
id_given (replies.Answered r) = None
id_given replies.Awaited = None
id_given replies.Gone = None
id_given (replies.Number n) = None
id_given (replies.LifeIs life) = None
id_given replies.Done = None
id_given replies.Given = None
id_given replies.Ignored = None
id_given (replies.First o) = None
id_given (replies.Messages rs) = None

-- the message that a call puts in, if it is sent: a request under the id that it was given, a notification, or the message as it is
abbrev pub message_of : Call → Reply → List RequestData
message_of (calls.Ask method params gated) reply = record { method = method; params = Some params; id = id_given reply } ∷ []
message_of (calls.Tell method params gated) reply = record { method = method; params = Some params; id = None } ∷ []
message_of (calls.Raw r) reply = r ∷ []
message_of (calls.Poll ticket) reply = []
message_of calls.NextId reply = []
message_of calls.Look reply = []
message_of (calls.Rise life) reply = []
message_of calls.Fall reply = []
message_of (calls.Answer r) reply = []
message_of calls.Next reply = []
message_of calls.Take reply = []
message_of calls.Close reply = []

abbrev pub put_in : Call → Reply → List RequestData
put_in call reply = if is_sent reply then message_of call reply else []

-- the messages that a reply hands out
abbrev pub taken_out : Reply → List RequestData
taken_out (replies.Ticket n i) = []
taken_out replies.Sent = []
taken_out replies.Suppressed = []
taken_out replies.NotInitialized = []
taken_out replies.Exited = []
taken_out (replies.Answered r) = []
taken_out replies.Awaited = []
taken_out replies.Gone = []
taken_out (replies.Number n) = []
taken_out (replies.LifeIs life) = []
taken_out replies.Done = []
taken_out replies.Given = []
taken_out replies.Ignored = []
taken_out (replies.First None) = []
taken_out (replies.First (Some r)) = r ∷ []
taken_out (replies.Messages rs) = rs

-- a call that was out of memory neither puts in nor takes out
abbrev pub put_by : Call → Option Reply → List RequestData
put_by c None = []
put_by c (Some reply) = put_in c reply

abbrev pub taken_by : Option Reply → List RequestData
taken_by None = []
taken_by (Some reply) = taken_out reply

-- the messages that entries put in, and those that they take out
abbrev pub all_put : List DeskEntry → List RequestData
all_put [] = []
all_put (entry ∷ entries) = put_by entry.call entry.reply ++ all_put entries

abbrev pub all_taken : List DeskEntry → List RequestData
all_taken [] = []
all_taken (entry ∷ entries) = taken_by entry.reply ++ all_taken entries

-- ---- tickets

-- the ticket that a reply gives
abbrev pub ticket_given : Reply → List ℕ
ticket_given (replies.Ticket n i) = n ∷ []
ticket_given replies.Sent = []
ticket_given replies.Suppressed = []
ticket_given replies.NotInitialized = []
ticket_given replies.Exited = []
ticket_given (replies.Answered r) = []
ticket_given replies.Awaited = []
ticket_given replies.Gone = []
ticket_given (replies.Number n) = []
ticket_given (replies.LifeIs life) = []
ticket_given replies.Done = []
ticket_given replies.Given = []
ticket_given replies.Ignored = []
ticket_given (replies.First o) = []
ticket_given (replies.Messages rs) = []

abbrev pub is_answer : Reply → Bool
is_answer (replies.Ticket n i) = false
is_answer replies.Sent = false
is_answer replies.Suppressed = false
is_answer replies.NotInitialized = false
is_answer replies.Exited = false
is_answer (replies.Answered r) = true
is_answer replies.Awaited = false
is_answer replies.Gone = false
is_answer (replies.Number n) = false
is_answer (replies.LifeIs life) = false
is_answer replies.Done = false
is_answer replies.Given = false
is_answer replies.Ignored = false
is_answer (replies.First o) = false
is_answer (replies.Messages rs) = false

-- the ticket whose answer a call takes
abbrev pub ticket_taken : Call → Reply → List ℕ
ticket_taken (calls.Ask method params gated) reply = []
ticket_taken (calls.Tell method params gated) reply = []
ticket_taken (calls.Raw r) reply = []
ticket_taken (calls.Poll ticket) reply = if is_answer reply then ticket ∷ [] else []
ticket_taken calls.NextId reply = []
ticket_taken calls.Look reply = []
ticket_taken (calls.Rise life) reply = []
ticket_taken calls.Fall reply = []
ticket_taken (calls.Answer r) reply = []
ticket_taken calls.Next reply = []
ticket_taken calls.Take reply = []
ticket_taken calls.Close reply = []

abbrev pub given_by : Option Reply → List ℕ
given_by None = []
given_by (Some reply) = ticket_given reply

abbrev pub answered_by : Call → Option Reply → List ℕ
answered_by c None = []
answered_by c (Some reply) = ticket_taken c reply

-- the tickets that entries give, and those whose answers they take
abbrev pub all_given : List DeskEntry → List ℕ
all_given [] = []
all_given (entry ∷ entries) = given_by entry.reply ++ all_given entries

abbrev pub all_answered : List DeskEntry → List ℕ
all_answered [] = []
all_answered (entry ∷ entries) = answered_by entry.call entry.reply ++ all_answered entries

-- the tickets whose answers are awaited, and those whose answers are kept
abbrev pub open_tickets : DeskState → List ℕ
open_tickets d = map (λ a. a.ticket) d.awaited ++ map (λ k. k.ticket) d.kept
