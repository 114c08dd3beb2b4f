use Rattle.std.proofs.Common.{◌≡◌, ◌++◌, drop}
use Rattle.lsp_proxy.specs.Proxy.{here_from}
use Rattle.lsp_proxy.proofs.outgoing.here.Given as goal

-- those so far, and those of what is left
abbrev pub invariant-loop-presence : goal.invariant-loop-presence
invariant-loop-presence l = record {
  counted : l.k ≡ l.presence-index;
  found : l.here.items ++ here_from l.k (drop l.presence-index l.editors) ≡ here_from 0 l.editors;
}
