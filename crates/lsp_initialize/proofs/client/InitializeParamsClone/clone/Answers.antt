use Rattle.lsp_shape.proofs.Clones.{cloned}
use Rattle.lsp_initialize.proofs.client.InitializeParamsClone.clone.Goals as goal

pub returns : goal.returns
returns c = record {
  cases = cloned _ c.end.result c.end.ensures.copy c.end.ensures.whole (λ whole.
      let w7 = c.optional-8.ensures.whole whole in
      let w6 = c.optional-7.ensures.whole w7 in
      let w5 = c.optional-6.ensures.whole w6 in
      let w4 = c.optional-5.ensures.whole w5 in
      let w3 = c.optional-4.ensures.whole w4 in
      let w2 = c.optional-3.ensures.whole w3 in
      let w1 = c.optional-2.ensures.whole w2 in (
        c.optional.ensures.copy w1,
        c.optional-2.ensures.copy w2,
        c.optional-3.ensures.copy w3,
        c.optional-4.ensures.copy w4,
        c.in_ok-clone.ensures.cases,
        c.optional-5.ensures.copy w5,
        c.optional-6.ensures.copy w6,
        c.optional-7.ensures.copy w7,
        c.optional-8.ensures.copy whole,
        c.in_ok-clone-2.ensures.cases,
      ));
}
