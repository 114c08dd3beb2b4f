use Rattle.serde_json.specs.View.{view}
use Rattle.serde_json.specs.Written.{has_float}
use Rattle.lsp_rpc.specs.Message.{response}
use Rattle.lsp_rpc.specs.Shown.{show_response}
use Rattle.lsp_rpc.proofs.Floats.{clean_response_found, not_false}
use Rattle.lsp_rpc.proofs.response.Response.from_text.Goals as goal

pub returns-in-Some-clause-clean : goal.returns-in-Some-clause-clean
returns-in-Some-clause-clean c = clean_response_found (view c.in_ok-value.value) (response (show_response c.in-Some.response)) (not_false _ (has_float (view c.in_ok-value.value)) c.is_float_free.ensures c.if-not-is_float_free.false) c.in-Some.ensures
