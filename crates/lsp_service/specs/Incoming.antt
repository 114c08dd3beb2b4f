-- What a call of the code shows, with its kind.
use Rattle.lsp_service.specs.declared.incoming.Incoming.{Incoming}
use Rattle.lsp_service.specs.Calls.{show_call}
use Rattle.lsp_service.specs.Data.{IncomingCall}

abbrev pub show_incoming : Incoming → IncomingCall
show_incoming c = record { call = show_call c.call; kind = c.kind }
