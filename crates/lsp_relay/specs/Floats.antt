-- Messages without floats.
use Rattle.std.specs.Prelude.{◌≡◌, Bool, false}
use Rattle.std.specs.List.{AllByRecursion}
use Rattle.serde_json.specs.Written.{has_float}
use Rattle.lsp_rpc.specs.Message.{message_has_float}
use Rattle.lsp_proxy.specs.Proxy.{Opening, unopened, awaited, opened, Sent}

-- no message that is sent holds a float
abbrev pub AreFloatFree : Sent → Type 0
AreFloatFree sent = AllByRecursion (λ s. message_has_float s.1 ≡ false) sent

-- the result that is kept holds a float
abbrev pub opening_has_float : Opening → Bool
opening_has_float unopened = false
opening_has_float (awaited n askers) = false
opening_has_float (opened v) = has_float v
