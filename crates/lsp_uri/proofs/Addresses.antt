-- The nine forms of an IPv6 address, by the widths of what stands on the left and on the right of `::`.
use Rattle.std.proofs.Common.{◌≡◌, ℕ, zero, suc, ◌+◌, List, [], ◌∷◌, length, Bool, true, false, ◌&&◌, ◌||◌, Option, Some, None, option_map, refl, sym, ap, ◌∙◌, arith}
use Rattle.std.proofs.lemmas.Bool.{and_parts, false≢true}
use Rattle.std.proofs.lemmas.Bool.Decides.{nat_tests}
use Rattle.std.specs.Prelude.{◌==◌, nat_le, if◌then◌else◌}
use Rattle.std.specs.List.{list_all}
use Rattle.std.specs.Char.{is_ascii_hexdigit}
use Rattle.lsp_uri.specs.Cuts.{before, after, pieces}
use Rattle.lsp_uri.specs.Grammar.{is_empty, is_h16, is_ipv4, is_dec_octet, is_ls32, is_h16s_and_ls32, is_h16s_up_to, is_shortened}
use Rattle.lsp_uri.specs.Widths.{width, width_or_none, leaves_a_group}
use Rattle.lsp_uri.proofs.CutLemmas.{is_false, pieces-none}
use Rattle.lsp_uri.proofs.Groups.{pieces-cons, width-some}

-- the width is k
abbrev pub is_width : ℕ → Option ℕ → Bool
is_width k None = false
is_width k (Some m) = m == k

-- the width is n at most
abbrev pub at_most : ℕ → Option ℕ → Bool
at_most n None = false
at_most n (Some m) = nat_le m n

-- ---- an h16 is no IPv4 address

hex_by : (x : Bool) (b c : ℕ) (s : List ℕ) → (list_all is_ascii_hexdigit s ≡ true → after c s ≡ None) → (b == c) ≡ x → is_ascii_hexdigit c ≡ false → (is_ascii_hexdigit b && list_all is_ascii_hexdigit s) ≡ true
    → (if x then Some s else after c s) ≡ None
hex_by false b c s ih e n h = ih (and_parts (is_ascii_hexdigit b) (list_all is_ascii_hexdigit s) h).1
hex_by true b c s ih e n h =
    let same : b ≡ c = grind (arith, nat_tests) in
    absurd (false≢true (sym n ∙ (ap is_ascii_hexdigit (sym same) ∙ (and_parts (is_ascii_hexdigit b) (list_all is_ascii_hexdigit s) h).0)))

after-hex : (c : ℕ) (s : List ℕ) → is_ascii_hexdigit c ≡ false → list_all is_ascii_hexdigit s ≡ true → after c s ≡ None
after-hex c [] n h = refl
after-hex c (b ∷ s) n h = hex_by (b == c) b c s (after-hex c s n) refl n h

h16-hex : (s : List ℕ) → is_h16 s ≡ true → list_all is_ascii_hexdigit s ≡ true
unfolding is_h16
h16-hex s h = (and_parts (nat_le 1 (length s) && nat_le (length s) 4) (list_all is_ascii_hexdigit s) h).1

and_false : (x : Bool) → (x && false) ≡ false
and_false true = refl
and_false false = refl

ipv4-no_dot : (s : List ℕ) → after 46 s ≡ None → is_ipv4 s ≡ false
unfolding is_ipv4
ipv4-no_dot s e = rw e (and_false (is_dec_octet (before 46 s)))

pub ipv4-h16 : (s : List ℕ) → is_h16 s ≡ true → is_ipv4 s ≡ false
ipv4-h16 s h = ipv4-no_dot s (after-hex 46 s refl (h16-hex s h))

-- ---- the right side

is_width-more : (k : ℕ) (o : Option ℕ) → is_width (suc k) (option_map (λ n. n + 1) o) ≡ is_width k o
is_width-more k None = refl
is_width-more k (Some m) = grind (arith, nat_tests)

is_width-if : (x : Bool) (k : ℕ) (o : Option ℕ) → is_width (suc k) (if x then option_map (λ n. n + 1) o else None) ≡ (x && is_width k o)
is_width-if true k o = is_width-more k o
is_width-if false k o = refl

last_one : (x y b : Bool) → is_width 1 (if x then Some 1 else (if b && y then Some 2 else None)) ≡ x
last_one true y b = refl
last_one false true true = refl
last_one false true false = refl
last_one false false true = refl
last_one false false false = refl

last_two : (x y : Bool) → (x ≡ true → y ≡ false) → is_width 2 (if x then Some 1 else (if true && y then Some 2 else None)) ≡ y
last_two true y h = sym (h refl)
last_two false true h = refl
last_two false false h = refl

last_more : (k : ℕ) (x y b : Bool) → is_width (suc (suc (suc k))) (if x then Some 1 else (if b && y then Some 2 else None)) ≡ false
last_more k true y b = grind (arith, nat_tests)
last_more k false true true = grind (arith, nat_tests)
last_more k false true false = refl
last_more k false false true = refl
last_more k false false false = refl

last_zero : (x y b : Bool) → is_width 0 (if x then Some 1 else (if b && y then Some 2 else None)) ≡ false
last_zero true y b = refl
last_zero false true true = refl
last_zero false true false = refl
last_zero false false true = refl
last_zero false false false = refl

zero_more : (x : Bool) (o : Option ℕ) → is_width 0 (if x then option_map (λ n. n + 1) o else None) ≡ false
zero_more true None = refl
zero_more true (Some m) = grind (arith, nat_tests)
zero_more false o = refl

pub width-zero : (b : Bool) (ps : List (List ℕ)) → is_width 0 (width b ps) ≡ false
width-zero b [] = refl
width-zero b (p ∷ []) = last_zero (is_h16 p) (is_ipv4 p) b
width-zero b (p ∷ q ∷ ps) = zero_more (is_h16 p) (width b (q ∷ ps))

pub ls32-width : (ps : List (List ℕ)) → is_ls32 ps ≡ is_width 2 (width true ps)
ls32-width [] = refl
ls32-width (p ∷ []) = sym (last_two (is_h16 p) (is_ipv4 p) (ipv4-h16 p))
ls32-width (p ∷ q ∷ []) = sym (is_width-if (is_h16 p) 1 (width true (q ∷ [])) ∙ ap (λ x. is_h16 p && x) (last_one (is_h16 q) (is_ipv4 q) true))
ls32-width (p ∷ q ∷ r ∷ ps) =
    sym (is_width-if (is_h16 p) 1 (width true (q ∷ r ∷ ps))
    ∙ (ap (λ x. is_h16 p && x) (is_width-if (is_h16 q) 0 (width true (r ∷ ps)) ∙ (ap (λ x. is_h16 q && x) (width-zero true (r ∷ ps)) ∙ and_false (is_h16 q))) ∙ and_false (is_h16 p)))

none_left : (n : ℕ) → is_h16s_and_ls32 n [] ≡ false
none_left zero = refl
none_left (suc n) = refl

pub h16s-width : (n : ℕ) (ps : List (List ℕ)) → is_h16s_and_ls32 n ps ≡ is_width (suc (suc n)) (width true ps)
h16s-width zero ps = ls32-width ps
h16s-width (suc n) [] = refl
h16s-width (suc n) (p ∷ []) = ap (λ x. is_h16 p && x) (none_left n) ∙ (and_false (is_h16 p) ∙ sym (last_more n (is_h16 p) (is_ipv4 p) true))
h16s-width (suc n) (p ∷ q ∷ ps) = ap (λ x. is_h16 p && x) (h16s-width n (q ∷ ps)) ∙ sym (is_width-if (is_h16 p) (suc (suc n)) (width true (q ∷ ps)))

-- one h16
no_h16 : (s t : List ℕ) → after 58 s ≡ Some t → is_h16 s ≡ false
no_h16 s t e = is_false (is_h16 s) (λ h. let n : after 58 s ≡ None = after-hex 58 s refl (h16-hex s h) in (cc))

h16_by : (o : Option (List ℕ)) (s : List ℕ) → after 58 s ≡ o → is_h16 s ≡ is_width 1 (width true (pieces 58 s))
h16_by None s e = sym (ap (λ ps. is_width 1 (width true ps)) (pieces-none 58 s e) ∙ last_one (is_h16 s) (is_ipv4 s) true)
h16_by (Some t) s e =
    no_h16 s t e
    ∙ sym (ap (is_width 1) (width-some true s t e)
    ∙ (is_width-if (is_h16 (before 58 s)) 0 (width true (pieces 58 t)) ∙ (ap (λ x. is_h16 (before 58 s) && x) (width-zero true (pieces 58 t)) ∙ and_false (is_h16 (before 58 s)))))

h16-width : (s : List ℕ) → is_h16 s ≡ is_width 1 (width true (pieces 58 s))
h16-width s = h16_by (after 58 s) s refl

nothing : width true ([] ∷ []) ≡ None
unfolding is_h16 is_ipv4
nothing = refl

right-some : (k : ℕ) (r : List ℕ) → is_width (suc k) (width true (pieces 58 r)) ≡ is_width (suc k) (width_or_none true r)
right-some k [] = let e : is_width (suc k) (Some 0) ≡ false = grind (arith, nat_tests) in ap (is_width (suc k)) nothing ∙ sym e
right-some k (c ∷ r) = refl

right-zero : (r : List ℕ) → is_empty r ≡ is_width 0 (width_or_none true r)
right-zero [] = refl
right-zero (c ∷ r) = sym (width-zero true (pieces 58 (c ∷ r)))

-- ---- the left side

false_one : (x y : Bool) (m n : ℕ) → (if x then Some m else (if false && y then Some n else None)) ≡ (if x && true then Some m else None)
false_one true y m n = refl
false_one false y m n = refl

false_more : (x y : Bool) (n : ℕ) → (if x then option_map (λ m. m + 1) (if y then Some n else None) else None) ≡ (if x && y then Some (suc n) else None)
false_more true true n = let e : n + 1 ≡ suc n = omega arith in ap (λ m. Some m) e
false_more true false n = refl
false_more false y n = refl

width-false : (p : List ℕ) (ps : List (List ℕ)) → width false (p ∷ ps) ≡ (if list_all is_h16 (p ∷ ps) then Some (length (p ∷ ps)) else None)
width-false p [] = false_one (is_h16 p) (is_ipv4 p) 1 2
width-false p (q ∷ ps) =
    ap (λ o. if is_h16 p then option_map (λ m. m + 1) o else None) (width-false q ps) ∙ false_more (is_h16 p) (list_all is_h16 (q ∷ ps)) (length (q ∷ ps))

most_by : (x : Bool) (m n : ℕ) → (x && nat_le m n) ≡ at_most n (if x then Some m else None)
most_by true m n = refl
most_by false m n = refl

left_by : (n : ℕ) (qs : List (List ℕ)) (q : List ℕ) (ps : List (List ℕ)) → qs ≡ q ∷ ps → (list_all is_h16 qs && nat_le (length qs) n) ≡ at_most n (width false qs)
left_by n qs q ps e =
    rw e (most_by (list_all is_h16 (q ∷ ps)) (length (q ∷ ps)) n ∙ sym (ap (at_most n) (width-false q ps)))

left-some : (n : ℕ) (l : List ℕ) → is_h16s_up_to n l ≡ at_most n (width_or_none false l)
left-some n [] = grind (arith, nat_tests)
left-some n (c ∷ l) = let r = pieces-cons 58 (c ∷ l) in left_by n (pieces 58 (c ∷ l)) r.0 r.1.0 r.1.1

none_by : (x : Bool) (m : ℕ) → at_most 0 (if x then Some (suc m) else None) ≡ false
none_by true m = grind (arith, nat_tests)
none_by false m = refl

left_zero_by : (qs : List (List ℕ)) (q : List ℕ) (ps : List (List ℕ)) → qs ≡ q ∷ ps → at_most 0 (width false qs) ≡ false
left_zero_by qs q ps e = rw e (ap (at_most 0) (width-false q ps) ∙ none_by (list_all is_h16 (q ∷ ps)) (length ps))

left-zero : (l : List ℕ) → is_empty l ≡ at_most 0 (width_or_none false l)
left-zero [] = refl
left-zero (c ∷ l) = let r = pieces-cons 58 (c ∷ l) in sym (left_zero_by (pieces 58 (c ∷ l)) r.0 r.1.0 r.1.1)

-- ---- the forms

abbrev one_of : Bool → Bool → Bool → Bool → Bool → Bool → Bool → Bool → Bool → Bool → Bool → Bool → Bool → Bool → Bool → Bool → Bool
one_of a b c d e f g h i j k l m n o p = (a && b) || (c && d) || (e && f) || (g && h) || (i && j) || (k && l) || (m && n) || (o && p)

same_forms : (a b c d e f g h i j k l m n o p a' b' c' d' e' f' g' h' i' j' k' l' m' n' o' p' : Bool)
    → a ≡ a' → b ≡ b' → c ≡ c' → d ≡ d' → e ≡ e' → f ≡ f' → g ≡ g' → h ≡ h' → i ≡ i' → j ≡ j' → k ≡ k' → l ≡ l' → m ≡ m' → n ≡ n' → o ≡ o' → p ≡ p'
    → one_of a b c d e f g h i j k l m n o p ≡ one_of a' b' c' d' e' f' g' h' i' j' k' l' m' n' o' p'
same_forms a b c d e f g h i j k l m n o p a' b' c' d' e' f' g' h' i' j' k' l' m' n' o' p' q1 q2 q3 q4 q5 q6 q7 q8 q9 q10 q11 q12 q13 q14 q15 q16 = cc

abbrev forms : Option ℕ → Option ℕ → Bool
forms o r =
    one_of (at_most 0 o) (is_width 7 r) (at_most 1 o) (is_width 6 r) (at_most 2 o) (is_width 5 r) (at_most 3 o) (is_width 4 r) (at_most 4 o) (is_width 3 r) (at_most 5 o) (is_width 2 r) (at_most 6 o) (is_width 1 r) (at_most 7 o) (is_width 0 r)

forms_none : (a b c d e f g h : Bool) → one_of a false b false c false d false e false f false g false h false ≡ false
forms_none a b c d e f g h = simp (and_false)

forms_some : (a b : ℕ) → forms (Some a) (Some b) ≡ leaves_a_group (Some a) (Some b)
forms_some a b = grind (arith, nat_tests)

forms-group : (o r : Option ℕ) → forms o r ≡ leaves_a_group o r
forms-group None r = refl
forms-group (Some a) None = forms_none (nat_le a 0) (nat_le a 1) (nat_le a 2) (nat_le a 3) (nat_le a 4) (nat_le a 5) (nat_le a 6) (nat_le a 7)
forms-group (Some a) (Some b) = forms_some a b

pub shortened-group : (l r : List ℕ) → is_shortened l r ≡ leaves_a_group (width_or_none false l) (width_or_none true r)
unfolding is_shortened
shortened-group l r =
    same_forms _ _ _ _ _ _ _ _ _ _ _ _ _ _ _ _ _ _ _ _ _ _ _ _ _ _ _ _ _ _ _ _
    (left-zero l) (h16s-width 5 (pieces 58 r) ∙ right-some 6 r)
    (left-some 1 l) (h16s-width 4 (pieces 58 r) ∙ right-some 5 r)
    (left-some 2 l) (h16s-width 3 (pieces 58 r) ∙ right-some 4 r)
    (left-some 3 l) (h16s-width 2 (pieces 58 r) ∙ right-some 3 r)
    (left-some 4 l) (h16s-width 1 (pieces 58 r) ∙ right-some 2 r)
    (left-some 5 l) (ls32-width (pieces 58 r) ∙ right-some 1 r)
    (left-some 6 l) (h16-width r ∙ right-some 0 r)
    (left-some 7 l) (right-zero r)
    ∙ forms-group (width_or_none false l) (width_or_none true r)

pub eight-groups : (s : List ℕ) → is_h16s_and_ls32 6 (pieces 58 s) ≡ is_width 8 (width true (pieces 58 s))
eight-groups s = h16s-width 6 (pieces 58 s)
