use Rattle.std.proofs.Common.{◌==◌, ap, ◌∙◌, sym}
use Rattle.serde_json.proofs.Views.{members_len-members_view}
use Rattle.lsp_relay.proofs.notes.are_two.Goals as goal

pub returns : goal.returns
returns c = ap (λ n. n == 2) (c.len.ensures.len ∙ sym (members_len-members_view c.args.members.now.entries))
