use Rattle.std.proofs.Common.{◌≡◌, ◌+◌, take}
use Rattle.std.specs.Prelude.{count_by}
use Rattle.lsp_session.proofs.works.Works.take_due.Given as goal

abbrev pub invariant-loop-index : goal.invariant-loop-index
invariant-loop-index g l = l.left + count_by (λ w. w.due) (take l.index l.fn.self.slots.items) ≡ l.place
