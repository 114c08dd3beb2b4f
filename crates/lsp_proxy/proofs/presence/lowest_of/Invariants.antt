use Rattle.std.proofs.Common.{◌≡◌, drop}
use Rattle.lsp_proxy.specs.Proxy.{first_editor, here_from, lowest}
use Rattle.lsp_proxy.proofs.presence.lowest_of.Given as goal

-- what is left decides
abbrev pub invariant-loop-presence : goal.invariant-loop-presence
invariant-loop-presence l = record {
  counted : l.k ≡ l.presence-index;
  left : first_editor (here_from l.k (drop l.presence-index l.editors)) ≡ lowest l.editors;
}
