-- What is counted of a desk's entries.
use Rattle.std.specs.Prelude.{ℕ, List, length, sum_by, Option, Some, None}
use Rattle.lsp_desk.specs.Call.{Call}
use Rattle.lsp_desk.specs.Call as calls
use Rattle.lsp_desk.specs.Reply.{Reply}
use Rattle.lsp_desk.specs.Reply as replies
use Rattle.lsp_desk.specs.Trace.{DeskEntry}

-- 1 for the reply that a message was sent
abbrev pub one_sent : Option Reply → ℕ
one_sent (Some replies.Sent) = 1
one_sent other = 0

-- how many of these were replied that a message was sent
abbrev pub sent_in : List DeskEntry → ℕ
sent_in entries = sum_by (λ e. one_sent e.reply) entries

-- how many messages a reply hands out
abbrev pub messages_in : Option Reply → ℕ
messages_in (Some (replies.Messages rs)) = length rs
messages_in other = 0

-- how many messages a `Take` hands out
abbrev pub handed_out : Call → Option Reply → ℕ
handed_out calls.Take reply = messages_in reply
handed_out other reply = 0

-- how many messages the replies to `Take` among these hand out
abbrev pub delivered_in : List DeskEntry → ℕ
delivered_in entries = sum_by (λ e. handed_out e.call e.reply) entries
