-- For private clauses: the text of a notification to several editors, which is written once.
use Rattle.std.specs.Prelude.{ℕ, ◌+◌, List, ◌++◌, map, codes, decimal}
use Rattle.serde_json.specs.Written.{compact_text}
use Rattle.lsp_rpc.specs.Message.{RequestData, MessageData, request}
use Rattle.lsp_proxy.specs.declared.side.Side.TheVariants.{Editor}
use Rattle.lsp_proxy.specs.Proxy.{Sent}
use Rattle.lsp_relay.specs.Value.{message_value}

-- what stands in a `proxy/out` before the number of its side
abbrev pub text_before_side : MessageData → List ℕ
text_before_side m =
    codes "{\"jsonrpc\":\"2.0\",\"method\":\"proxy/out\",\"params\":{\"message\":" ++ (compact_text (message_value m) ++ codes ",\"side\":")

-- the whole text, to editor k
abbrev pub text_to : List ℕ → ℕ → List ℕ
text_to before k = before ++ (decimal (k + 1) ++ codes "}}")

-- the messages that are sent
abbrev pub sent_to : RequestData → List ℕ → Sent
sent_to r editors = map (λ k. (Editor k, request r)) editors
