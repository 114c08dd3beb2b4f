-- The items given so far were taken.
use Rattle.std.proofs.Common.{length}
use Rattle.lsp_frame.specs.Codec.{told_at}
use Rattle.lsp_relay.specs.Relay.{TookTold}
use Rattle.lsp_relay.specs.Shown.{show_carrier}
use Rattle.lsp_relay.proofs.carrier.Carrier.take_told.Given as goal

abbrev pub invariant-items : goal.invariant-items
invariant-items l = TookTold (show_carrier l.initial.self) l.initial.codec (show_carrier l.self) l.codec

abbrev pub decreases-items : goal.decreases-items
decreases-items l = length (told_at l.codec)
