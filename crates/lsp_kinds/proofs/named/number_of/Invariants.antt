use Rattle.std.proofs.Common.{◌≡◌, map, length}
use Rattle.lsp_kinds.specs.Named.{number_in}
use Rattle.lsp_kinds.proofs.named.number_of.Given as goal

abbrev pub invariant-loop-names : goal.invariant-loop-names
invariant-loop-names l = number_in (map (λ e. (e.0.now, e.1)) l.names) l.name ≡ number_in (map (λ e. (e.0.now, e.1)) l.fn.names) l.name

abbrev pub decreases-loop-names : goal.decreases-loop-names
decreases-loop-names l = length l.names
