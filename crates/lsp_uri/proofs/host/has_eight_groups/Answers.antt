use Rattle.std.proofs.Common.{sym, ap, ◌∙◌}
use Rattle.lsp_uri.proofs.Addresses.{is_width, eight-groups}
use Rattle.lsp_uri.proofs.host.has_eight_groups.Goals as goal

pub returns-in-Some : goal.returns-in-Some
returns-in-Some c = sym (eight-groups c.args.text.now ∙ ap (is_width 8) (sym c.width.ensures ∙ c.in-Some.is))

pub returns-in-None : goal.returns-in-None
returns-in-None c = sym (eight-groups c.args.text.now ∙ ap (is_width 8) (sym c.width.ensures ∙ c.in-None.is))
