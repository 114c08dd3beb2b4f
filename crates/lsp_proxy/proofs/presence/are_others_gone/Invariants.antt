use Rattle.std.proofs.Common.{◌≡◌, drop}
use Rattle.lsp_proxy.specs.Proxy.{are_gone_but}
use Rattle.lsp_proxy.proofs.presence.are_others_gone.Given as goal

-- what is left decides
abbrev pub invariant-loop-presence : goal.invariant-loop-presence
invariant-loop-presence l = record {
  counted : l.j ≡ l.presence-index;
  left : are_gone_but l.k l.j (drop l.presence-index l.editors) ≡ are_gone_but l.k 0 l.editors;
}
