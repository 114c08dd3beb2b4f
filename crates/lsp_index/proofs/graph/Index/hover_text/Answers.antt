-- A hover, and none.
use Rattle.std.proofs.Common.{◌∙◌, ap}
use Rattle.std.specs.Prelude.{unwrap_or}
use Rattle.lsp_index.specs.Queries.{null_text}
use Rattle.lsp_index.proofs.graph.Index.hover_text.Goals as goal

pub returns-in-Some-hover : goal.returns-in-Some-hover
returns-in-Some-hover c = rw c.in-Some.is (λ g kept. c.as_str.ensures.value ∙ ap (λ o. unwrap_or o null_text) (c.in-Some-hover.ensures g kept))

pub returns-in-None : goal.returns-in-None
returns-in-None c = rw c.in-Some.is (λ g kept. ap (λ o. unwrap_or o null_text) (c.in-None.ensures g kept))
