-- What the callers say: each has a number, and numbers its messages. Both count from 1.
use Rattle.std.specs.Prelude.{◌≡◌, ◌≢◌, ◌<◌, ℕ, zero, suc, ◌++◌, List, [], ◌∷◌, codes, decimal, Option, Some, IfSome, option_to_list, false}
use Rattle.serde_json.specs.Data.{Data, number, unsigned, string, object, no_members, member}
use Rattle.lsp_desk.specs.Call.{Call, Tell}
use Rattle.lsp_desk.specs.Reply.{Sent}
use Rattle.lsp_desk.specs.Trace.{DeskEntry}

-- a caller's text
abbrev pub text_said : ℕ → ℕ → List ℕ
text_said caller n = codes "clone " ++ decimal caller ++ codes " message " ++ decimal n

-- the `LogMessageParams` of that text: type 4 is that of a log
abbrev pub params_said : ℕ → ℕ → Data
params_said caller n = object (member (codes "message") (string (text_said caller n)) (member (codes "type") (number (unsigned 4)) no_members))

abbrev pub call_said : ℕ → ℕ → Call
call_said caller n = Tell (codes "window/logMessage") (params_said caller n) false

-- it was sent
abbrev pub entry_said : ℕ → ℕ → DeskEntry
entry_said caller n = record { call = call_said caller n; reply = Some Sent }

-- the first so many messages of a caller
abbrev pub said_by : ℕ → ℕ → List DeskEntry
said_by caller zero = []
said_by caller (suc n) = said_by caller n ++ entry_said caller (suc n) ∷ []

-- after these entries at most one call of a caller's message was made, and it was not sent
pub record EndsUnsent (caller n : ℕ) (before after : List DeskEntry) : Type 0 where
  pub last : Option DeskEntry
  pub made : after ≡ before ++ option_to_list last
  pub unsent : IfSome last (λ e. (e.call ≡ call_said caller n) × (e.reply ≢ Some Sent))

-- a caller's first messages were sent, fewer than all, and of the next at most a call was made that did not send it
pub record StopsShort (caller messages : ℕ) (entries : List DeskEntry) : Type 0 where
  pub sent : ℕ
  pub fewer : sent < messages
  pub ends : EndsUnsent caller (suc sent) (said_by caller sent) entries

-- those of the first so many callers
abbrev pub said_by_all : ℕ → ℕ → List DeskEntry
said_by_all zero messages = []
said_by_all (suc caller) messages = said_by_all caller messages ++ said_by (suc caller) messages
