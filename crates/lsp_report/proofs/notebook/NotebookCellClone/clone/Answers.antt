use Rattle.lsp_shape.proofs.Clones.{cloned}
use Rattle.lsp_report.proofs.notebook.NotebookCellClone.clone.Goals as goal

pub returns : goal.returns
returns c = record {
  cases = cloned _ c.end.result c.end.ensures.copy c.end.ensures.whole (λ whole.
      let w1 = c.optional-2.ensures.whole whole in (
        c.in_ok-clone.ensures.cases,
        c.in_ok-clone-2.ensures.cases,
        c.optional.ensures.copy w1,
        c.optional-2.ensures.copy whole,
      ));
}
