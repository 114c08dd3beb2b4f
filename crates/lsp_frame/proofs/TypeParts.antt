-- The parts of a text that is cut at `;`.
use Rattle.std.proofs.Common.{◌≡◌, ℕ, suc, ◌<◌, List, [], ◌∷◌, ◌++◌, length, get_or, false, ◌==◌, sym, ap, ◌∙◌, arith, append_assoc, append-nil, length-append, Bor, Option, Some, None}
use Rattle.std.specs.Prelude.{MatchOption, IfSome}
use Rattle.lsp_frame.specs.Headers.{parts_from}

abbrev pub HasNone : List ℕ → Type 0
HasNone xs = (i : ℕ) → i < length xs → get_or xs i 0 ≡ 59 → ⊥

not_semicolon : (c : ℕ) → (c ≡ 59 → ⊥) → (c == 59) ≡ false
not_semicolon c h = grind arith

pub parts_cut : (front xs ys : List ℕ) → HasNone xs → parts_from front (xs ++ 59 ∷ ys) ≡ (front ++ xs) ∷ parts_from [] ys
parts_cut front [] ys none = ap (λ t. t ∷ parts_from [] ys) (sym (append-nil front))
parts_cut front (c ∷ xs) ys none =
    rw (not_semicolon c (none 0 (omega arith)))
    (parts_cut (front ++ c ∷ []) xs ys (λ i h e. none (suc i) (omega arith) e) ∙ ap (λ t. t ∷ parts_from [] ys) (append_assoc front (c ∷ []) xs))

pub parts_whole : (front xs : List ℕ) → HasNone xs → parts_from front xs ≡ (front ++ xs) ∷ []
parts_whole front [] none = ap (λ t. t ∷ []) (sym (append-nil front))
parts_whole front (c ∷ xs) none =
    rw (not_semicolon c (none 0 (omega arith)))
    (parts_whole (front ++ c ∷ []) xs (λ i h e. none (suc i) (omega arith) e) ∙ ap (λ t. t ∷ []) (append_assoc front (c ∷ []) xs))

pub parts_of_cut : (v : List ℕ) (r : Option (Bor (List ℕ) × Bor (List ℕ))) → MatchOption r (HasNone v) (λ x. (v ≡ x.0.now ++ 59 ∷ x.1.now) × HasNone x.0.now)
    → MatchOption r (parts_from [] v ≡ v ∷ []) (λ x. parts_from [] v ≡ x.0.now ∷ parts_from [] x.1.now)
parts_of_cut v None h = parts_whole [] v h
parts_of_cut v (Some x) h = rw h.0 (parts_cut [] x.0.now x.1.now h.1)

pub shorter_of_cut : (v : List ℕ) (r : Option (Bor (List ℕ) × Bor (List ℕ))) → MatchOption r (HasNone v) (λ x. (v ≡ x.0.now ++ 59 ∷ x.1.now) × HasNone x.0.now)
    → IfSome r (λ x. length x.1.now < length v)
shorter_of_cut v None h = tt
shorter_of_cut v (Some x) h = rw h.0 (omega (arith, length-append x.0.now (59 ∷ x.1.now)))
