use Rattle.lsp_shape.proofs.Steps.{IsPast}
use Rattle.lsp_shape.proofs.why.number_of.Given as goal

abbrev pub invariant-loop-key : goal.invariant-loop-key
invariant-loop-key l = IsPast l.name l.object.entries l.key-iterator l.number
