-- A value that isn't read is no message.
use Rattle.std.proofs.Common.{◌≡◌, Option, None, Err, sym, refl, ap}
use Rattle.serde_json.specs.View.{view}
use Rattle.lsp_rpc.specs.Message.{clean_message}
use Rattle.lsp_rpc.specs.declared.read.NotMessage.{NotMessage as Fault}
use Rattle.lsp_rpc.specs.declared.read.NotMessage.TheVariants.{NotMessage, NoMemory}
use Rattle.lsp_relay.proofs.notes.message_value.Goals as goal

none_read : {A : Type 0} (e : Fault) (o : Option A) → (e ≡ NotMessage → o ≡ None) → (e ≡ NoMemory → ⊥) → None ≡ o
none_read NotMessage o none memory = sym (none refl)
none_read NoMemory o none memory = absurd (memory refl)

pub returns-in-Err : goal.returns-in-Err
returns-in-Err c =
    none_read c.in-Err.field-0 (clean_message (view c.args.value)) (λ is. c.in-Err.ensures.none (ap Err is)) (λ is. c.in-Err.ensures.memory (ap Err is))
