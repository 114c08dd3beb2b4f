-- What is sent for a message of the server, where a notification to several editors stands once.
use Rattle.std.specs.Prelude.{◌≡◌, map, Bool, true, false, Result, IfOk, OnErr}
use Rattle.lsp_rpc.specs.Message.{request}
use Rattle.lsp_rpc.specs.Shown.{show_request}
use Rattle.lsp_proxy.specs.declared.outgoing.Outgoing.{Outgoing}
use Rattle.lsp_proxy.specs.declared.outgoing.Outgoing.TheVariants.{Each, Broadcast}
use Rattle.lsp_proxy.specs.declared.proxy.Proxy.{Proxy}
use Rattle.lsp_proxy.specs.declared.side.Side.TheVariants.{Editor}
use Rattle.lsp_proxy.specs.Proxy.{ProxyState, Sent, Outcome}
use Rattle.lsp_proxy.specs.Sent.{all_sent}
use Rattle.lsp_proxy.specs.Shown.{show_proxy, IsSame, TakesNoMemory}

-- the list that it stands for: each message with the side that it goes to
abbrev pub expanded : Outgoing → Sent
expanded (Each sent) = all_sent sent.items
expanded (Broadcast editors note) = map (λ k. (Editor k, request (show_request note))) editors.items

-- the proxy after the call, and the list of what it sends, are what these rows make of the proxy before
abbrev pub GivesOutgoing : Proxy → Proxy → (ProxyState → Outcome) → Outgoing → Type 0
GivesOutgoing old new rows outgoing = (show_proxy new ≡ (rows (show_proxy old)).0) × (expanded outgoing ≡ (rows (show_proxy old)).1)

abbrev pub is_broadcast : Outgoing → Bool
is_broadcast (Each sent) = false
is_broadcast (Broadcast editors note) = true

-- a broadcast changes nothing of the proxy
abbrev pub KeepsAtBroadcast : Proxy → Proxy → Outgoing → Type 0
KeepsAtBroadcast old new outgoing = is_broadcast outgoing ≡ true → IsSame old new

-- the call gives what these rows say, or it lacks memory and keeps the proxy
pub record GivesOrKeeps {E : Type 0} (old new : Proxy) (rows : ProxyState → Outcome) (result : Result Outgoing E) : Type 0 where
  pub ok : IfOk result (GivesOutgoing old new rows)
  pub broadcast : IfOk result (KeepsAtBroadcast old new)
  pub err : OnErr result (IsSame old new)
  pub ready : TakesNoMemory old rows result
