-- The numbers of a list of tokens.
use Rattle.std.proofs.Common.{◌≡◌, ℕ, ◌+◌, ◌*◌, ◌<◌, ◌%◌, get_or, add-one, List, [], ◌∷◌, ◌++◌, length, take, drop, slice_index, refl, ap, sym, ◌∙◌, arith}
use Rattle.std.proofs.lemmas.Nat.{mod-mul-add}
use Rattle.std.proofs.Math.Seq.{take-suc}
use Rattle.std.proofs.lemmas.List.{append_assoc, append-nil, length-append, take-append-drop}
use Rattle.lsp_tokens.specs.Tokens.{token_numbers, numbers_of}
use Rattle.lsp_tokens.specs.declared.tokens.SemanticToken.{SemanticToken}

pub numbers_of-push : (ts : List SemanticToken) (t : SemanticToken) → numbers_of (ts ++ t ∷ []) ≡ numbers_of ts ++ token_numbers t
numbers_of-push [] t = append-nil (token_numbers t)
numbers_of-push (s ∷ ts) t = ap (λ ns. token_numbers s ++ ns) (numbers_of-push ts t) ∙ sym (append_assoc (token_numbers s) (numbers_of ts) (token_numbers t))

pub length-numbers_of : (ts : List SemanticToken) → length (numbers_of ts) ≡ length ts * 5
unfolding token_numbers
length-numbers_of [] = refl
length-numbers_of (t ∷ ts) = let rest : length (numbers_of ts) ≡ length ts * 5 = length-numbers_of ts in omega arith

-- the token of these numbers
token_from : List ℕ → SemanticToken
token_from ns = record {
  delta_line = slice_index ns 0;
  delta_start = slice_index ns 1;
  length = slice_index ns 2;
  token_type = slice_index ns 3;
  token_modifiers_bitset = slice_index ns 4;
}

same_token : (t u : SemanticToken) → token_numbers t ≡ token_numbers u → t ≡ u
unfolding token_numbers token_from
same_token t u e = ap token_from e

first_numbers : (t : SemanticToken) (ns : List ℕ) → take 5 (token_numbers t ++ ns) ≡ token_numbers t
unfolding token_numbers
first_numbers t ns = refl

other_numbers : (t : SemanticToken) (ns : List ℕ) → drop 5 (token_numbers t ++ ns) ≡ ns
unfolding token_numbers
other_numbers t ns = refl

-- no two lists of tokens have the same numbers
pub same_tokens : (ts us : List SemanticToken) → numbers_of ts ≡ numbers_of us → ts ≡ us
same_tokens [] [] e = refl
same_tokens [] (u ∷ us) e = let n : 0 ≡ length (u ∷ us) * 5 = ap length e ∙ length-numbers_of (u ∷ us) in absurd (omega arith)
same_tokens (t ∷ ts) [] e = let n : length (t ∷ ts) * 5 ≡ 0 = sym (length-numbers_of (t ∷ ts)) ∙ ap length e in absurd (omega arith)
same_tokens (t ∷ ts) (u ∷ us) e =
    let first = sym (first_numbers t (numbers_of ts)) ∙ ap (take 5) e ∙ first_numbers u (numbers_of us) in
    let others = sym (other_numbers t (numbers_of ts)) ∙ ap (drop 5) e ∙ other_numbers u (numbers_of us) in
    ap (λ x. x ∷ ts) (same_token t u first) ∙ ap (λ xs. u ∷ xs) (same_tokens ts us others)

-- one more token, of the first five of the numbers that are left
pub one_more : (ts us : List SemanticToken) (t : SemanticToken) (list rest five more : List ℕ)
    → numbers_of ts ++ rest ≡ list → five ≡ take 5 rest → more ≡ drop 5 rest → token_numbers t ≡ five → us ≡ ts ++ t ∷ []
    → numbers_of us ++ more ≡ list
one_more ts us t list rest five more before is left reads pushed =
    ap (λ xs. numbers_of xs ++ more) pushed
    ∙ ap (λ ns. ns ++ more) (numbers_of-push ts t)
    ∙ append_assoc (numbers_of ts) (token_numbers t) more
    ∙ ap (λ ns. numbers_of ts ++ (ns ++ more)) (reads ∙ is)
    ∙ ap (λ ns. numbers_of ts ++ (take 5 rest ++ ns)) left
    ∙ ap (λ ns. numbers_of ts ++ ns) (take-append-drop 5 rest)
    ∙ before

pub one_written : (ts : List SemanticToken) (i : ℕ) (t : SemanticToken) → i < length ts
    → numbers_of (take (i + 1) ts) ≡ numbers_of (take i ts) ++ token_numbers (get_or ts i t)
one_written ts i t h = rw (add-one, take-suc ts i t h) (numbers_of-push (take i ts) (get_or ts i t))

-- where there are five numbers for each token, fewer than five are none
none_left : (ts : List SemanticToken) (rest list : List ℕ) → numbers_of ts ++ rest ≡ list → length list % 5 ≡ 0 → length rest < 5 → rest ≡ []
none_left ts [] list whole fives few = refl
none_left ts (n ∷ ns) list whole fives few =
    let all : length ts * 5 + length (n ∷ ns) ≡ length list = ap (λ k. k + length (n ∷ ns)) (sym (length-numbers_of ts)) ∙ sym (length-append (numbers_of ts) (n ∷ ns)) ∙ ap length whole in
    let none : length (n ∷ ns) ≡ 0 = sym (mod-mul-add (length ts) 5 (length (n ∷ ns)) few) ∙ ap (λ k. k % 5) all ∙ fives in
    absurd (omega arith)

pub all_numbers : (ts : List SemanticToken) (rest list : List ℕ) → numbers_of ts ++ rest ≡ list → length list % 5 ≡ 0 → length rest < 5 → numbers_of ts ≡ list
all_numbers ts rest list whole fives few =
    sym (append-nil (numbers_of ts)) ∙ ap (λ ns. numbers_of ts ++ ns) (sym (none_left ts rest list whole fives few)) ∙ whole
