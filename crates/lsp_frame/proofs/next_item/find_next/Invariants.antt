use Rattle.std.proofs.Common.{◌≡◌, ◌≤◌, ◌++◌, ℕ, List, length, drop}
use Rattle.lsp_frame.specs.Transitions.{Item}
use Rattle.lsp_frame.specs.Items.{all_from, transitions_left}
use Rattle.lsp_frame.specs.Kept.{IsLooked, IsAllowed}
use Rattle.lsp_frame.specs.Places.{codec_at, GoesSilently}
use Rattle.lsp_frame.proofs.next_item.find_next.Given as goal

abbrev pub invariant-transitions : goal.invariant-transitions
invariant-transitions l = record {
  in_range : l.place ≤ length l.bytes;
  same : (last : List Item) (c : List ℕ) → all_from l.settings last l.fn.state (l.bytes ++ c) ≡ all_from l.settings last l.at (drop l.place l.bytes ++ c);
  silent : GoesSilently (codec_at l.settings l.fn.state l.bytes) (codec_at l.settings l.at (drop l.place l.bytes));
  clear : IsLooked (drop l.place l.bytes) l.reached;
  allowed : IsAllowed l.settings.limits l.at;
}

abbrev pub decreases-transitions : goal.decreases-transitions
decreases-transitions l = transitions_left l.at (drop l.place l.bytes)
