use Rattle.lsp_shape.proofs.Clones.{cloned}
use Rattle.lsp_caps_text.proofs.tokens.SemanticTokensClientCapabilitiesClone.clone.Goals as goal

pub returns : goal.returns
returns c = record {
  cases = cloned _ c.end.result c.end.ensures.copy c.end.ensures.whole (λ whole.
      let w4 = c.optional-5.ensures.whole whole in
      let w3 = c.optional-4.ensures.whole w4 in
      let w2 = c.optional-3.ensures.whole w3 in
      let w1 = c.optional-2.ensures.whole w2 in (
        c.optional.ensures.copy w1,
        c.in_ok-clone.ensures.cases,
        c.in_ok-clone-2.ensures.cases,
        c.in_ok-clone-3.ensures.cases,
        c.in_ok-clone-4.ensures.cases,
        c.optional-2.ensures.copy w2,
        c.optional-3.ensures.copy w3,
        c.optional-4.ensures.copy w4,
        c.optional-5.ensures.copy whole,
      ));
}
