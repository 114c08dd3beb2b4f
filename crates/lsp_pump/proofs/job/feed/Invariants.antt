-- The items given so far are those of the piece.
use Rattle.std.proofs.Common.{◌≡◌, List, length}
use Rattle.lsp_frame.specs.Codec.{Item as CodecItem, more, told_at}
use Rattle.lsp_server.specs.Items.{all_admitted, Decodes}
use Rattle.lsp_pump.specs.Pieces.{piece_items, ItemsAreFloatFree}
use Rattle.lsp_pump.proofs.job.feed.Given as goal

abbrev pub invariant-items : goal.invariant-items
invariant-items l = record {
  given : (found : List CodecItem) × (piece_items l.piece ≡ all_admitted found) × Decodes (more l.fn.codec l.fn.bytes) found l.codec;
  free : ItemsAreFloatFree (piece_items l.piece);
}

abbrev pub decreases-items : goal.decreases-items
decreases-items l = length (told_at l.codec)
