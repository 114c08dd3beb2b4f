-- The length that headers give, one header after another.
use Rattle.std.proofs.Common.{◌≡◌, ℕ, ◌+◌, ◌<◌, ◌≤◌, List, ◌∷◌, length, drop, take, map, get_or, Option, Result, sym, ap, ◌∙◌, arith}
use Rattle.std.proofs.lemmas.Grind.{common_steps}
use Rattle.lsp_frame.specs.Blocks.{Header}
use Rattle.lsp_frame.specs.Headers.{content_length, length_after, on_length}
use Rattle.lsp_frame.specs.declared.parse_error.ParseError.{ParseError}

next_item : {A : Type 0} → (xs : List A) (i : ℕ) (d : A) → i < length xs → drop i xs ≡ get_or xs i d ∷ drop (i + 1) xs
next_item xs i d h = grind (arith, common_steps)

within_take : {A : Type 0} → (xs : List A) (count i : ℕ) (d : A) → i < count → get_or (take count xs) i d ≡ get_or xs i d
within_take xs count i d h = grind (arith, common_steps)

-- the headers from place i on give what the one at i gives, and then those after it
pub next_header : {A : Type 0} → (f : A → Header) (xs : List A) (count i : ℕ) (d : A) (before : Option ℕ) (r : Result (Option ℕ) ParseError) → i < count → count ≤ length xs
    → r ≡ length_after before (f (get_or xs i d))
    → content_length before (map f (drop i (take count xs))) ≡ on_length r (λ n. content_length n (map f (drop (i + 1) (take count xs))))
next_header f xs count i d before r low few is =
    let short : i < length (take count xs) = grind (arith, common_steps) in
    let later : List Header = map f (drop (i + 1) (take count xs)) in
    ap (λ ys. content_length before (map f ys)) (next_item (take count xs) i d short)
    ∙ ap (λ x. content_length before (f x ∷ later)) (within_take xs count i d low)
    ∙ ap (λ q. on_length q (λ n. content_length n later)) (sym is)
