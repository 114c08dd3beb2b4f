-- What holds no float is asked; else out of memory before any call on the desk.
use Rattle.std.proofs.Common.{string_bytes}
use Rattle.serde_json.specs.View.{view}
use Rattle.lsp_session.proofs.FailLemmas.{poll_fails_still}
use Rattle.lsp_session.proofs.RunningLemmas.{on_gives}
use Rattle.lsp_desk.specs.Call.{Ask}
use Rattle.lsp_ask.proofs.ReplyLemmas.{is_made}
use Rattle.lsp_ask.proofs.desk.ask.Goals as goal

pub returns-in_err-internal_error-clause-failed : goal.returns-in_err-internal_error-clause-failed
returns-in_err-internal_error-clause-failed g c = on_gives c.from_residual.result _ _ c.from_residual.ensures.1 (poll_fails_still g.D.Caller.meaning c.args.client.now)

pub returns-then-is_float_free-clause-asked : goal.returns-then-is_float_free-clause-asked
returns-then-is_float_free-clause-asked g c = is_made g.D.Caller.meaning c.args.client.now c.ask_clean.new.client (Ask (string_bytes c.args.method) (view c.args.params) c.args.gated) c.ask_clean.result c.if-is_float_free.ensures c.ask_clean.ensures.asked

pub returns-then-is_float_free-clause-unsent : goal.returns-then-is_float_free-clause-unsent
returns-then-is_float_free-clause-unsent g c = c.ask_clean.ensures.unsent
