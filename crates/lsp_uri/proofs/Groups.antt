-- The groups of 16 bits of an IPv6 address.
use Rattle.std.proofs.Common.{◌≡◌, ℕ, ◌+◌, ◌<◌, List, [], ◌∷◌, length, Bool, true, false, Option, Some, None, option_map, refl, sym, ap, ◌∙◌, arith}
use Rattle.std.specs.Prelude.{◌==◌, if◌then◌else◌}
use Rattle.lsp_uri.specs.Cuts.{before, after, onto_first, pieces}
use Rattle.lsp_uri.specs.Grammar.{is_h16}
use Rattle.lsp_uri.specs.Widths.{last_width, width}
use Rattle.lsp_uri.proofs.CutLemmas.{pieces-some, pieces-none, before-none, after-shorter}

-- a text has a first piece
cons_by : (x : Bool) (b : ℕ) (qs : List (List ℕ)) (q : List ℕ) (ps : List (List ℕ)) → qs ≡ q ∷ ps
    → (r : List ℕ) × ((rs : List (List ℕ)) × ((if x then [] ∷ qs else onto_first b qs) ≡ r ∷ rs))
cons_by true b qs q ps e = ([], (qs, refl))
cons_by false b qs q ps e = (b ∷ q, (ps, ap (onto_first b) e))

pub pieces-cons : (c : ℕ) (s : List ℕ) → (q : List ℕ) × ((ps : List (List ℕ)) × (pieces c s ≡ q ∷ ps))
pieces-cons c [] = ([], ([], refl))
pieces-cons c (b ∷ s) = let r = pieces-cons c s in cons_by (b == c) b (pieces c s) r.0 r.1.0 r.1.1

width_cons : (b : Bool) (p q : List ℕ) (qs ps : List (List ℕ)) → qs ≡ q ∷ ps → width b (p ∷ qs) ≡ (if is_h16 p then option_map (λ n. n + 1) (width b qs) else None)
width_cons b p q qs ps e = rw e refl

pub width-some : (b : Bool) (s t : List ℕ) → after 58 s ≡ Some t → width b (pieces 58 s) ≡ (if is_h16 (before 58 s) then option_map (λ n. n + 1) (width b (pieces 58 t)) else None)
width-some b s t e = let c = pieces-cons 58 t in ap (width b) (pieces-some 58 s t e) ∙ width_cons b (before 58 s) c.0 (pieces 58 t) c.1.0 c.1.1

pub width-none : (b : Bool) (s : List ℕ) → after 58 s ≡ None → width b (pieces 58 s) ≡ last_width b (before 58 s)
width-none b s e = ap (width b) (pieces-none 58 s e) ∙ ap (last_width b) (sym (before-none 58 s e))

pub width-stopped : (b : Bool) (s t : List ℕ) → after 58 s ≡ Some t → is_h16 (before 58 s) ≡ false → width b (pieces 58 s) ≡ None
width-stopped b s t e h = width-some b s t e ∙ rw h refl

one_more : (g : ℕ) (o : Option ℕ) → option_map (λ n. (g + 1) + n) o ≡ option_map (λ n. g + n) (option_map (λ n. n + 1) o)
one_more g None = refl
one_more g (Some n) = let e : (g + 1) + n ≡ g + (n + 1) = omega arith in ap (λ m. Some m) e

pub width-more : (b : Bool) (s t : List ℕ) (g : ℕ) → after 58 s ≡ Some t → is_h16 (before 58 s) ≡ true
    → option_map (λ n. (g + 1) + n) (width b (pieces 58 t)) ≡ option_map (λ n. g + n) (width b (pieces 58 s))
width-more b s t g e h = rw (width-some b s t e, h) (one_more g (width b (pieces 58 t)))

pub groups-shorter : (s t : List ℕ) → after 58 s ≡ Some t → length t < length s
groups-shorter s t e = after-shorter 58 s t e

pub ruleset group_lemmas = (width-some, width-none, groups-shorter)
