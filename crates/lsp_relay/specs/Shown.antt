-- What contracts see of the code's relay.
use Rattle.lsp_frame.specs.Codec.{At}
use Rattle.lsp_proxy.specs.Shown.{show_proxy}
use Rattle.lsp_relay.specs.declared.carrier.Carrier.{Carrier}
use Rattle.lsp_relay.specs.declared.reads.Relaying.{Relaying}
use Rattle.lsp_relay.specs.Relay.{RelayPlace, TookTold}
use Rattle.lsp_relay.specs.Relaying.{Stand}

abbrev pub show_carrier : Carrier → RelayPlace
show_carrier r = record {
  editors = r.editors;
  state = show_proxy r.proxy;
  passed = r.relayed.passed;
  dropped = r.relayed.dropped;
  waiting = r.waiting.items;
}

-- the carrier took the items that decoding gave on its way from one codec to another
abbrev pub TakesTold : Carrier → At → Carrier → At → Type 0
TakesTold old old_codec new new_codec = TookTold (show_carrier old) old_codec (show_carrier new) new_codec

abbrev pub show_relaying : (Relaying × Carrier) → Stand
show_relaying r = record { place = show_carrier r.1; codec = r.0.codec }
