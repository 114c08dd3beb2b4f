use Rattle.std.proofs.Common.{◌≡◌, ◌∙◌, ap, rules}
use Rattle.std.specs.Prelude.{option_map}
use Rattle.std.specs.HashMap.{get}
use Rattle.std.specs.List.{find}
use Rattle.lsp_keyed.specs.Items.{has_key}
use Rattle.lsp_keyed.specs.Index.{first}
use Rattle.lsp_keyed.proofs.IndexLemmas.{oldest_listed, first_found}
use Rattle.lsp_keyed.proofs.keyed.Keyed.oldest.Goals as goal

pub returns : goal.returns
returns g c =
    let at = get g.K.PartialEq.eq c.self.inside.numbers c.args.key.now in
    let is : c.map.result ≡ option_map (λ ns. ns.oldest) at = search rules in
    is ∙ oldest_listed at ∙ ap first (c.self.invariant.found c.args.key.now)
    ∙ first_found (g.K.PartialEq.eq c.args.key.now) c.self.inside.entries.entries
    ∙ ap (λ es. option_map (λ e. e.0) (find (has_key g.K.PartialEq.eq c.args.key.now) es)) c.self.view_is
