-- What contracts see of the messages that were put out.
use Rattle.std.specs.Prelude.{List, map}
use Rattle.lsp_rpc.specs.Message.{MessageData}
use Rattle.lsp_rpc.specs.Shown.{show_message}
use Rattle.lsp_session.specs.declared.outgoing.Outgoing.{Outgoing}

abbrev pub put_out : Outgoing → List MessageData
put_out o = map show_message o.messages.items
