-- The reply to a notification is one of three.
use Rattle.std.proofs.Common.{string_bytes}
use Rattle.serde_json.specs.View.{view}
use Rattle.lsp_ask.proofs.ReplyLemmas.{tells}
use Rattle.lsp_ask.proofs.desk.tell_clean.Goals as goal

pub unreachable-requires : goal.unreachable-requires
unreachable-requires g c = tells g.D.Caller.meaning c.args.client.now c.make_call.new.client (string_bytes c.args.method) (view c.args.params) c.args.gated c.in-Ok.reply c.in-Ok.ensures.calls c.in_default.not-Sent c.in_default.not-Suppressed c.in_default.not-Exited
