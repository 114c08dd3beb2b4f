use Rattle.lsp_shape.proofs.Clones.{cloned}
use Rattle.lsp_lang_item.proofs.inlay_hint.InlayHintLabelPartClone.clone.Goals as goal

pub returns : goal.returns
returns c = record {
  cases = cloned _ c.end.result c.end.ensures.copy c.end.ensures.whole (λ whole.
      let w2 = c.optional-3.ensures.whole whole in
      let w1 = c.optional-2.ensures.whole w2 in (
        c.in_ok-clone.ensures.cases,
        c.optional.ensures.copy w1,
        c.optional-2.ensures.copy w2,
        c.optional-3.ensures.copy whole,
      ));
}
