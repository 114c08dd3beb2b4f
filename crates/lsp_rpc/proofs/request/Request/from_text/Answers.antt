use Rattle.serde_json.specs.View.{view}
use Rattle.serde_json.specs.Written.{has_float}
use Rattle.lsp_rpc.specs.Message.{request}
use Rattle.lsp_rpc.specs.Shown.{show_request}
use Rattle.lsp_rpc.proofs.Floats.{clean_request_found, not_false}
use Rattle.lsp_rpc.proofs.request.Request.from_text.Goals as goal

pub returns-in-Some-clause-clean : goal.returns-in-Some-clause-clean
returns-in-Some-clause-clean c = clean_request_found (view c.in_ok-value.value) (request (show_request c.in-Some.request)) (not_false _ (has_float (view c.in_ok-value.value)) c.is_float_free.ensures c.if-not-is_float_free.false) c.in-Some.ensures
