use Rattle.std.proofs.Common.{◌≡◌, ◌++◌, map, drop}
use Rattle.std.specs.List.{filter}
use Rattle.lsp_rpc.specs.Shown.{show_body}
use Rattle.lsp_proxy.specs.Proxy.{answered_to, is_here_in}
use Rattle.lsp_proxy.specs.Sent.{all_sent}
use Rattle.lsp_proxy.specs.Tables.{show_asker}
use Rattle.lsp_proxy.proofs.server.answers.Given as goal

-- those so far, and those for what is left
abbrev pub invariant-loop-asker : goal.invariant-loop-asker
invariant-loop-asker l =
    all_sent l.sent.items ++ map (answered_to (show_body l.body)) (filter (is_here_in l.editors) (map show_asker (drop l.asker-index l.askers)))
    ≡ map (answered_to (show_body l.body)) (filter (is_here_in l.editors) (map show_asker l.askers))
