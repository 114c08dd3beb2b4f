use Rattle.std.proofs.Common.{◌≡◌, length}
use denote.Text.{Utf8}
use denote.Shadow.{shadow}
use Rattle.lsp_uri.specs.Grammar.{are_segments}
use Rattle.lsp_uri.proofs.path.are_segments.Given as goal

abbrev pub invariant-loop-tail : goal.invariant-loop-tail
invariant-loop-tail l = shadow (Utf8 l.rest) × (are_segments l.rest ≡ are_segments l.fn.text)

abbrev pub decreases-loop-tail : goal.decreases-loop-tail
decreases-loop-tail l = length l.rest
