-- What is sent, as plain data.
use Rattle.std.specs.Prelude.{List, map}
use Rattle.lsp_rpc.specs.Message.{MessageData}
use Rattle.lsp_rpc.specs.declared.message.Message.{Message}
use Rattle.lsp_rpc.specs.Shown.{show_message}
use Rattle.lsp_proxy.specs.declared.side.Side.{Side}

abbrev pub show_sent : Side × Message → Side × MessageData
show_sent s = (s.0, show_message s.1)

abbrev pub all_sent : List (Side × Message) → List (Side × MessageData)
all_sent = map show_sent
