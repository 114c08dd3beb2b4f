-- What a desk's reply to the session hands out.
use Rattle.std.specs.Prelude.{◌≡◌, List, false}
use Rattle.lsp_rpc.specs.Message.{RequestData}
use Rattle.lsp_desk.specs.declared.call.ServerReply.{ServerReply}
use Rattle.lsp_desk.specs.Shown.{show_server_reply}
use Rattle.lsp_desk.specs.Reply.{reply_has_float}
use Rattle.lsp_desk.specs.Reply as replies
use Rattle.lsp_desk.specs.Flow.{taken_out}

abbrev pub messages_from : ServerReply → List RequestData
messages_from reply = taken_out (show_server_reply reply)

-- it is messages, and none of them holds a float
pub record HandsOut (reply : ServerReply) : Type 0 where
  pub messages : show_server_reply reply ≡ replies.Messages (messages_from reply)
  pub float_free : reply_has_float (show_server_reply reply) ≡ false
