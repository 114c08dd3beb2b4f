use Rattle.std.proofs.Common.{◌∙◌, ap}
use Rattle.std.specs.Prelude.{option_map}
use Rattle.std.specs.List.{find}
use Rattle.lsp_keyed.specs.Items.{has_number}
use Rattle.lsp_keyed.proofs.IndexLemmas.{lookup_number}
use Rattle.lsp_keyed.proofs.keyed.Keyed.get.Goals as goal

pub returns : goal.returns
returns g c =
    c.get.ensures.value ∙ lookup_number c.args.number c.self.inside.entries.entries
    ∙ ap (λ es. option_map (λ e. e.1) (find (has_number c.args.number) es)) c.self.view_is
