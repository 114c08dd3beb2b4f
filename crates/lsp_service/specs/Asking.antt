-- What a server that waits and asks has to say of its tasks.
use Rattle.std.specs.Prelude.{◌≡◌}
use Rattle.lsp_service.specs.declared.server.Started.{Started}
use Rattle.lsp_service.specs.declared.server.Started.TheVariants as code
use Rattle.lsp_service.specs.Data.{MethodCall}

-- a task goes on with the call that was polled
abbrev pub KeepsCall : {T : Type 0} → (T → MethodCall) → MethodCall → Started T → Type 0
KeepsCall call_of c (code.Now r) = Unit {0}
KeepsCall call_of c (code.Later t) = call_of t ≡ c
