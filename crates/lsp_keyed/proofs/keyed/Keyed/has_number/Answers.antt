use Rattle.std.proofs.Common.{◌∙◌, ap}
use Rattle.std.specs.List.{list_any}
use Rattle.lsp_keyed.specs.Items.{has_number}
use Rattle.lsp_keyed.proofs.IndexLemmas.{any_number}
use Rattle.lsp_keyed.proofs.keyed.Keyed.has_number.Goals as goal

pub returns : goal.returns
returns g c = c.contains_key.ensures ∙ any_number c.args.number c.self.inside.entries.entries ∙ ap (list_any (has_number c.args.number)) c.self.view_is
