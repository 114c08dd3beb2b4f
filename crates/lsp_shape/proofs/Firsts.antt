-- The first items of a list.
use Rattle.std.proofs.Common.{◌≡◌, ◌⊎◌, inl, inr, ℕ, ◌-◌, ◌<◌, ◌≤◌, List, length, take, Option, Some, None, unwrap_or, Bor, ap, sym, ◌∙◌, arith}
use Rattle.std.specs.Slice.{IsGetRangeResult}
use Rattle.std.proofs.lemmas.List.{take_all}

-- the first so many, or all where they are fewer
pub first_or_all : (xs : List ℕ) (n m : ℕ) (r : Option (Bor (List ℕ))) (all : Bor (List ℕ)) → m ≡ n → all.now ≡ xs → IsGetRangeResult xs 0 m r → (unwrap_or r all).now ≡ take n xs
first_or_all xs n m None all count same p = same ∙ sym (take_all n xs (fewer p.0))
  where
    fewer : (m < 0) ⊎ (length xs < m) → length xs ≤ n
    fewer (inl h) = absurd (omega (arith, h))
    fewer (inr h) = omega (arith, h, count)
first_or_all xs n m (Some x) all count same p = let e : m - 0 ≡ n = omega (arith, count) in p.0.2 ∙ ap (λ k. take k xs) e
