-- A string in which nothing has to be escaped.
use Rattle.std.proofs.Common.{◌≡◌, ℕ, List, [], ◌∷◌, ◌++◌, refl, ap₂, arith}
use Rattle.std.specs.List.{All}
use Rattle.std.proofs.lemmas.List.Elements.{All-tail}
use Rattle.json.specs.Print.{escape}
use Rattle.json.proofs.Printed.Strings.{escape_byte_plain}
use Rattle.lsp_rpc.specs.Pieces.{IsPlain}

pub escape-plain : (s : List ℕ) → All IsPlain s → escape s ≡ s
escape-plain [] plain = refl
escape-plain (x ∷ xs) plain =
    let here : IsPlain x = plain 0 x (omega arith) in
    ap₂ (λ (a b : List ℕ). a ++ b) (escape_byte_plain x here.1 here.2 here.0) (escape-plain xs (All-tail IsPlain x xs plain))
