-- Why a text or a value gives no message, in words.
use Rattle.std.specs.Prelude.{ℕ, List, codes}
use Rattle.lsp_rpc.specs.declared.read.NotMessage.{NotMessage}
use Rattle.lsp_rpc.specs.declared.read.NotMessage.TheVariants as refusals
use Rattle.lsp_rpc.specs.declared.read.TextFault.{TextFault}
use Rattle.lsp_rpc.specs.declared.read.TextFault.TheVariants as faults

abbrev pub text_of_not_message : NotMessage → List ℕ
text_of_not_message refusals.NotMessage = codes "not a message"
text_of_not_message refusals.NoMemory = codes "out of memory"

abbrev pub text_of_text_fault : TextFault → List ℕ
text_of_text_fault faults.Json = codes "not JSON"
text_of_text_fault faults.Message = codes "not a message of this form"
text_of_text_fault faults.NoMemory = codes "out of memory"
