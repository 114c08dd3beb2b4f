-- What the owner's calls are given.
use Rattle.std.specs.Prelude.{ℕ, Bool, true, false, Result, Ok, Err, Some}
use Rattle.lsp_desk.specs.declared.call.DeskFault.{DeskFault}
use Rattle.lsp_desk.specs.declared.call.ServerReply.{ServerReply}
use Rattle.lsp_desk.specs.Call.{Call, Take}
use Rattle.lsp_desk.specs.Shown.{show_server_reply}
use Rattle.lsp_callers.specs.Counted.{messages_in}

abbrev pub is_take : Call → Bool
is_take Take = true
is_take other = false

-- how many messages a reply gives
abbrev pub messages_given : Result ServerReply DeskFault → ℕ
messages_given (Ok reply) = messages_in (Some (show_server_reply reply))
messages_given (Err fault) = 0
