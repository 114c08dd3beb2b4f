-- How many groups of 16 bits the pieces of an IPv6 address name: each h16 one, and an IPv4 address at the end two.
use Rattle.std.specs.Prelude.{ℕ, ◌+◌, ◌-◌, nat_le, List, [], ◌∷◌, Bool, false, ◌&&◌, Option, Some, None, option_map, if◌then◌else◌}
use Rattle.lsp_uri.specs.Cuts.{pieces}
use Rattle.lsp_uri.specs.Grammar.{is_empty, is_h16, is_ipv4}

abbrev pub last_width : Bool → List ℕ → Option ℕ
last_width ipv4 p = if is_h16 p then Some 1 else (if ipv4 && is_ipv4 p then Some 2 else None)

abbrev pub width : Bool → List (List ℕ) → Option ℕ
width ipv4 [] = None
width ipv4 (p ∷ []) = last_width ipv4 p
width ipv4 (p ∷ q ∷ ps) = if is_h16 p then option_map (λ n. n + 1) (width ipv4 (q ∷ ps)) else None

-- no group stands in an empty text
abbrev pub width_or_none : Bool → List ℕ → Option ℕ
width_or_none ipv4 s = if is_empty s then Some 0 else width ipv4 (pieces 58 s)

-- both are widths, and at least one group of the eight is left between them
abbrev pub leaves_a_group : Option ℕ → Option ℕ → Bool
leaves_a_group None r = false
leaves_a_group (Some l) None = false
leaves_a_group (Some l) (Some r) = nat_le l 7 && nat_le r (7 - l)
