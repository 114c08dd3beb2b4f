-- The parts of a text, put together again, are the text.
use Rattle.std.proofs.Common.{◌≡◌, ℕ, List, [], ◌∷◌, ◌++◌, Bool, true, false, Option, Some, None, refl, sym, ap, ◌∙◌, arith, append_assoc}
use Rattle.std.proofs.lemmas.Bool.Decides.{nat_tests}
use Rattle.std.specs.Prelude.{◌==◌, option_map, option_and_then, if◌then◌else◌}
use Rattle.lsp_uri.specs.Cuts.{before, after, from, stripped}
use Rattle.lsp_uri.specs.Grammar.{is_scheme, scheme_by, rest_by, scheme_in, rest_in, authority_in, path_by, path_in, front_of, scheme_of, authority_of, path_of, query_of, fragment_of}
use Rattle.lsp_uri.specs.Whole.{led_by, scheme_front, authority_front, recomposed}

same : (b c : ℕ) → (b == c) ≡ true → b ≡ c
same b c e = grind (arith, nat_tests)

cut_by : (x : Bool) (b c : ℕ) (s : List ℕ) → (b == c) ≡ x → before c s ++ led_by c (after c s) ≡ s
    → (if x then [] else b ∷ before c s) ++ led_by c (if x then Some s else after c s) ≡ b ∷ s
cut_by true b c s e ih = ap (λ d. d ∷ s) (sym (same b c e))
cut_by false b c s e ih = ap (λ t. b ∷ t) ih

cut_again : (c : ℕ) (s : List ℕ) → before c s ++ led_by c (after c s) ≡ s
cut_again c [] = refl
cut_again c (b ∷ s) = cut_by (b == c) b c s refl (cut_again c s)

from_by : (x : Bool) (b c : ℕ) (s : List ℕ) → before c s ++ from c s ≡ s → (if x then [] else b ∷ before c s) ++ (if x then b ∷ s else from c s) ≡ b ∷ s
from_by true b c s ih = refl
from_by false b c s ih = ap (λ t. b ∷ t) ih

from_again : (c : ℕ) (s : List ℕ) → before c s ++ from c s ≡ s
from_again c [] = refl
from_again c (b ∷ s) = from_by (b == c) b c s (from_again c s)

scheme_test : (x : Bool) (s t u : List ℕ) → t ++ 58 ∷ u ≡ s → scheme_front (if x then Some t else None) ++ (if x then u else s) ≡ s
scheme_test true s t u e = append_assoc t (58 ∷ []) u ∙ e
scheme_test false s t u e = refl

scheme_cases : (s t : List ℕ) (o : Option (List ℕ)) → t ++ led_by 58 o ≡ s → scheme_front (scheme_by t o) ++ rest_by s t o ≡ s
scheme_cases s t None e = refl
scheme_cases s t (Some u) e = scheme_test (is_scheme t) s t u e

scheme_again : (s : List ℕ) → scheme_front (scheme_in s) ++ rest_in s ≡ s
scheme_again s = scheme_cases s (before 58 s) (after 58 s) (cut_again 58 s)

slash_by : (x : Bool) (b : ℕ) (s t : List ℕ) → (b == 47) ≡ x → (if x then Some s else None) ≡ Some t → b ∷ s ≡ 47 ∷ t
slash_by true b s t e h = let d : b ≡ 47 = same b 47 e in let r : s ≡ t = (cc) in (cc)
slash_by false b s t e h = absurd (cc)

slash : (s t : List ℕ) → stripped 47 s ≡ Some t → s ≡ 47 ∷ t
slash [] t h = absurd (cc)
slash (b ∷ s) t h = slash_by (b == 47) b s t refl h

authority_second : (s t : List ℕ) (o : Option (List ℕ)) → s ≡ 47 ∷ t → stripped 47 t ≡ o → authority_front (option_map (before 47) o) ++ path_by s o ≡ s
authority_second s t None e h = refl
authority_second s t (Some u) e h = ap (λ v. 47 ∷ 47 ∷ v) (from_again 47 u) ∙ sym (e ∙ ap (λ v. 47 ∷ v) (slash t u h))

authority_first : (s : List ℕ) (o : Option (List ℕ)) → stripped 47 s ≡ o
    → authority_front (option_map (before 47) (option_and_then (stripped 47) o)) ++ path_by s (option_and_then (stripped 47) o) ≡ s
authority_first s None h = refl
authority_first s (Some t) h = authority_second s t (stripped 47 t) (slash s t h) refl

authority_again : (s : List ℕ) → authority_front (authority_in s) ++ path_in s ≡ s
authority_again s = authority_first s (stripped 47 s) refl

pub recomposed-parts : (s : List ℕ) → recomposed (scheme_of s) (authority_of s) (path_of s) (query_of s) (fragment_of s) ≡ s
unfolding scheme_of authority_of path_of
recomposed-parts s =
    ap (λ t. ((scheme_front (scheme_in (front_of s)) ++ t) ++ led_by 63 (query_of s)) ++ led_by 35 (fragment_of s)) (authority_again (rest_in (front_of s)))
    ∙ (ap (λ t. (t ++ led_by 63 (query_of s)) ++ led_by 35 (fragment_of s)) (scheme_again (front_of s))
    ∙ (ap (λ t. t ++ led_by 35 (fragment_of s)) (cut_again 63 (before 35 s)) ∙ cut_again 35 s))
