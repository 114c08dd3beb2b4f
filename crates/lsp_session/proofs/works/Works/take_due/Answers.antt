use Rattle.std.proofs.Common.{arith}
use Rattle.lsp_session.proofs.SlotLemmas.{dues_yes, dues_no}
use Rattle.lsp_session.proofs.works.Works.take_due.Goals as goal
use Rattle.lsp_session.proofs.works.Works.take_due.Goals.{then-work+else-left-eq0, else-work}

pub loop-index-preserved : goal.loop-index-preserved
loop-index-preserved g c =
    elim c.if-work.branch [
      | then-work+else-left-eq0 w ↦
          let e = dues_yes _ _ _ _ c.deref-work-items.ensures.value c.loop-index-test.true c.work-item.is w.if-work.true in
          omega (arith, e, c.loop-index.invariant)
      | else-work w ↦
          let e = dues_no _ _ _ _ c.deref-work-items.ensures.value c.loop-index-test.true c.work-item.is w.if-work.false in
          omega (arith, e, c.loop-index.invariant)
    ]
