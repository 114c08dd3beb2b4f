use Rattle.std.proofs.Common.{sym, ap, ◌∙◌}
use Rattle.lsp_text.specs.Floats.{read_by}
use Rattle.lsp_rpc.specs.Shown.{show_message}
use Rattle.lsp_frame.specs.Shown.{show_found}
use Rattle.lsp_frame.proofs.BothWays.{found_message}
use Rattle.lsp_frame.proofs.law.by_value.Goals as goal

pub returns-in-Ok-Ok-clause-read : goal.returns-in-Ok-Ok-clause-read
returns-in-Ok-Ok-clause-read c =
    found_message (read_by c.args.floats c.args.text.now) (show_message c.in-Ok-Ok.message) (ap show_found (sym c.in-Ok-Ok.field-0-is) ∙ c.in-Ok-Ok.ensures.value)
