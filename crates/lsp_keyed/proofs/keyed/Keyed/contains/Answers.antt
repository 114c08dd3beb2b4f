use Rattle.std.proofs.Common.{◌∙◌, ap}
use Rattle.std.specs.Prelude.{is_some}
use Rattle.std.specs.HashMap.{get}
use Rattle.std.specs.List.{list_any}
use Rattle.lsp_keyed.specs.Items.{has_key}
use Rattle.lsp_keyed.specs.Index.{first}
use Rattle.lsp_keyed.proofs.IndexLemmas.{some_listed, any_listed}
use Rattle.lsp_keyed.proofs.keyed.Keyed.contains.Goals as goal

pub returns : goal.returns
returns g c =
    c.contains_key.ensures ∙ some_listed (get g.K.PartialEq.eq c.self.inside.numbers c.args.key.now)
    ∙ ap (λ l. is_some (first l)) (c.self.invariant.found c.args.key.now)
    ∙ any_listed (g.K.PartialEq.eq c.args.key.now) c.self.inside.entries.entries
    ∙ ap (list_any (has_key g.K.PartialEq.eq c.args.key.now)) c.self.view_is
