use Rattle.std.proofs.Common.{refl}
use Rattle.lsp_shape.proofs.Clones.{cloned}
use Rattle.lsp_lang_goto.proofs.symbols.SymbolInformationClone.clone.Goals as goal

pub returns : goal.returns
returns c = record {
  cases = cloned _ c.end.result c.end.ensures.copy c.end.ensures.whole (λ whole.
      let w2 = c.optional-3.ensures.whole whole in
      let w1 = c.optional-2.ensures.whole w2 in (
        c.in_ok-clone.ensures.cases,
        refl,
        c.optional.ensures.copy w1,
        c.optional-2.ensures.copy w2,
        c.in_ok-clone-2.ensures.cases,
        c.optional-3.ensures.copy whole,
      ));
}
