-- The reply to a request is one of three.
use Rattle.std.proofs.Common.{string_bytes}
use Rattle.serde_json.specs.View.{view}
use Rattle.lsp_ask.proofs.ReplyLemmas.{asks}
use Rattle.lsp_ask.proofs.desk.ask_clean.Goals as goal

pub asked_by-requires : goal.asked_by-requires
asked_by-requires g c = asks g.D.Caller.meaning c.args.client.now c.make_call.new.client (string_bytes c.args.method) (view c.args.params) c.args.gated c.in-Ok.reply c.in-Ok.ensures.calls
