use Rattle.std.proofs.Common.{option_and_then, refl, ap, ◌∙◌}
use Rattle.std.proofs.lemmas.Result.{IfOk-weaker}
use Rattle.serde_json.specs.Data.{object}
use Rattle.lsp_rpc.specs.Message.{clean_message}
use Rattle.lsp_rpc.specs.Shown.{show_message}
use Rattle.lsp_rpc.proofs.Floats.{clean_message_has_no_float}
use Rattle.lsp_frame.proofs.message_reader.MessageReader.read_by.Goals as goal

pub read_parts-found-requires : goal.read_parts-found-requires
read_parts-found-requires c = record { version = refl; id = refl; method = refl; params = refl; outcome = refl; error = refl; clean = refl }

pub returns-clause-value : goal.returns-clause-value
returns-clause-value c =
    let found = c.in_ok-found.ensures in
    IfOk-weaker c.message_of.result _ _ (λ m made. ap (option_and_then clean_message) found.1 ∙ made found.0 found.2) c.message_of.ensures.value

pub returns-clause-clean : goal.returns-clause-clean
returns-clause-clean c =
    let found = c.in_ok-found.ensures in
    IfOk-weaker c.message_of.result _ _ (λ m made. clean_message_has_no_float (object found.0) (show_message m) (made found.0 found.2)) c.message_of.ensures.value
