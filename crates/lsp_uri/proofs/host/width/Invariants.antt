use Rattle.std.proofs.Common.{◌≡◌, ◌+◌, ◌≤◌, length, option_map}
use denote.Text.{Utf8}
use denote.Shadow.{shadow}
use Rattle.lsp_uri.specs.Cuts.{pieces}
use Rattle.lsp_uri.specs.Widths.{width}
use Rattle.lsp_uri.proofs.host.width.Given as goal

abbrev pub invariant-loop-tail : goal.invariant-loop-tail
invariant-loop-tail l =
    shadow (Utf8 l.rest) × (option_map (λ n. l.groups + n) (width l.ends_in_ipv4 (pieces 58 l.rest)) ≡ width l.ends_in_ipv4 (pieces 58 l.fn.text)) × (l.groups + length l.rest ≤ length l.fn.text)

abbrev pub decreases-loop-tail : goal.decreases-loop-tail
decreases-loop-tail l = length l.rest
