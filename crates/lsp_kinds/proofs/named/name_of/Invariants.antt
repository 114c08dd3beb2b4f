use Rattle.std.proofs.Common.{◌≡◌, map, length}
use Rattle.lsp_kinds.specs.Named.{name_in}
use Rattle.lsp_kinds.proofs.named.name_of.Given as goal

abbrev pub invariant-loop-names : goal.invariant-loop-names
invariant-loop-names l = name_in (map (λ e. (e.0.now, e.1)) l.names) l.number ≡ name_in (map (λ e. (e.0.now, e.1)) l.fn.names) l.number

abbrev pub decreases-loop-names : goal.decreases-loop-names
decreases-loop-names l = length l.names
