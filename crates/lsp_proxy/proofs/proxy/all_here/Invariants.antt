use Rattle.std.proofs.Common.{◌≡◌, replicate}
use Rattle.lsp_proxy.specs.declared.side.Presence.TheVariants.{Here}
use Rattle.lsp_proxy.proofs.proxy.all_here.Given as goal

abbrev pub invariant-loop : goal.invariant-loop
invariant-loop l = l.here.items ≡ replicate l.counter Here
