-- The text of the answer from what is reached, and LF.
use Rattle.std.specs.Prelude.{string_bytes, option_map}
use Rattle.std.specs.Borrow.{Bor}
use Rattle.lsp_rpc.specs.Shown.{show_id}
use Rattle.lsp_rpc.specs.declared.id.Id.{Id}
use Rattle.lsp_index.proofs.lines.Search.line_at.Goals as goal

pub returns : goal.returns
returns c = λ g kept.
    (string_bytes c.put_text.new.text, record { reached = option_map (λ (id : Bor Id). show_id id.now) c.in_ok-from.from; reaches = c.in_ok-from.ensures g kept; answers = c.in_ok-put_text.ensures g kept }, c.in_ok-push_str.ensures.bytes)
