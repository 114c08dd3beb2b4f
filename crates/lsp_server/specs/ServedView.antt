-- What contracts see of what the code's server hands back.
use Rattle.std.specs.Prelude.{map}
use Rattle.lsp_rpc.specs.Shown.{show_id}
use Rattle.lsp_server.specs.declared.server.Served.{Served}
use Rattle.lsp_server.specs.Served.{ServedView}

abbrev pub show_served : {H D : Type 0} → Served H D → ServedView H D
show_served s = record { service = s.service; desk = s.desk; exited = s.exited; unanswered = map show_id s.unanswered.items }
