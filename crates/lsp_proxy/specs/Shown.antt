-- The plain data that the code's values stand for.
use Rattle.std.specs.Prelude.{◌≡◌, ◌≤◌, ℕ, [], length, map, Vec, Result, IfOk, OnErr, IsOk}
use Rattle.std.specs.declared.alloc.Global.{Global}
use Rattle.serde_json.specs.View.{view}
use Rattle.lsp_rpc.specs.declared.message.Message.{Message}
use Rattle.lsp_proxy.specs.declared.side.Side.{Side}
use Rattle.lsp_proxy.specs.declared.proxy.Opening.{Opening}
use Rattle.lsp_proxy.specs.declared.proxy.Opening.TheVariants as code
use Rattle.lsp_proxy.specs.declared.proxy.Proxy.{Proxy}
use Rattle.lsp_proxy.specs.Sent.{all_sent}
use Rattle.lsp_proxy.specs.Tables.{show_asker}
use Rattle.lsp_proxy.specs.Proxy as plain
use Rattle.lsp_proxy.specs.Proxy.{ProxyState, Outcome}

abbrev pub show_opening : Opening → plain.Opening
show_opening code.Unopened = plain.unopened
show_opening (code.Awaited n askers) = plain.awaited n (map show_asker askers.items)
show_opening (code.Opened value) = plain.opened (view value)

abbrev pub show_proxy : Proxy → ProxyState
show_proxy p = record {
  next = p.next;
  asked = p.asked;
  requested = p.requested;
  opening = show_opening p.opening;
  closing = p.closing;
  announced = p.announced;
  editors = p.editors.items;
}

-- the proxy after the call, and what it sends, are what these rows make of the proxy before
abbrev pub MakesSent : Proxy → Proxy → (ProxyState → Outcome) → Vec (Side × Message) Global → Type 0
MakesSent old new rows sent = (show_proxy new ≡ (rows (show_proxy old)).0) × (all_sent sent.items ≡ (rows (show_proxy old)).1)

-- the proxy shows the same
abbrev pub IsSame : Proxy → Proxy → Type 0
IsSame old new = show_proxy new ≡ show_proxy old

-- how many wait for the response to `initialize`
abbrev pub how_many_wait : plain.Opening → ℕ
how_many_wait (plain.awaited n askers) = length askers
how_many_wait other = 0

-- a call for which nothing is sent takes no memory, unless it is an `initialize` that waits
abbrev pub TakesNoMemory : {T E : Type 0} → Proxy → (ProxyState → Outcome) → Result T E → Type 0
TakesNoMemory old rows result = (rows (show_proxy old)).1 ≡ [] → how_many_wait (rows (show_proxy old)).0.opening ≤ how_many_wait (show_proxy old).opening → IsOk result

-- the call makes what these rows say, or it lacks memory and keeps the proxy
pub record MakesOrKeeps {E : Type 0} (old new : Proxy) (rows : ProxyState → Outcome) (result : Result (Vec (Side × Message) Global) E) : Type 0 where
  pub ok : IfOk result (MakesSent old new rows)
  pub err : OnErr result (IsSame old new)
  pub ready : TakesNoMemory old rows result
