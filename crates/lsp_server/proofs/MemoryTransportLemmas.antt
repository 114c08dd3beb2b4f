-- What is taken later leaves what stood at the reads before it.
use Rattle.std.proofs.Common.{◌≡◌, ℕ, ◌≤◌, List, [], ◌∷◌, ◌++◌, length, map, refl, ◌∙◌, ap, arith, Bool, true, false}
use Rattle.std.specs.Prelude.{IsTrue, ◌&&◌}
use Rattle.std.specs.List.{list_all}
use Rattle.std.specs.Cmp.Derive.{both_true}
use Rattle.std.proofs.lemmas.Bool.{leb-true, le-leb}
use Rattle.std.proofs.lemmas.List.{take-append-le}
use Rattle.lsp_server.specs.declared.memory_transport.ReadAt.{ReadAt}
use Rattle.lsp_server.specs.ReadAt.{is_within, moment_at}

both_of : (a b : Bool) → (a && b) ≡ true → (a ≡ true) × (b ≡ true)
both_of true b h = (refl, h)
both_of false b h = absurd (cc)

pub earlier_more : (n m : ℕ) (reads : List ReadAt) → n ≤ m → IsTrue (list_all (is_within n) reads) → IsTrue (list_all (is_within m) reads)
earlier_more n m [] more all = all
earlier_more n m (r ∷ rest) more all =
    let both = both_of (is_within n r) (list_all (is_within n) rest) all in
    let below = leb-true r.taken n both.0 in
    both_true (le-leb r.taken m (omega (arith, below, more))) (earlier_more n m rest more both.1)

pub earlier_push : (n : ℕ) (reads : List ReadAt) (last : ReadAt) → last.taken ≤ n → IsTrue (list_all (is_within n) reads) → IsTrue (list_all (is_within n) (reads ++ last ∷ []))
earlier_push n [] last within all = both_true (le-leb last.taken n within) refl
earlier_push n (r ∷ rest) last within all =
    let both = both_of (is_within n r) (list_all (is_within n) rest) all in
    both_true both.0 (earlier_push n rest last within both.1)

pub made_kept : (bytes taken piece : List ℕ) (reads : List ReadAt) → IsTrue (list_all (is_within (length taken)) reads) → map (moment_at bytes (taken ++ piece)) reads ≡ map (moment_at bytes taken) reads
made_kept bytes taken piece [] all = refl
made_kept bytes taken piece (r ∷ rest) all =
    let both = both_of (is_within (length taken) r) (list_all (is_within (length taken)) rest) all in
    let first : moment_at bytes (taken ++ piece) r ≡ moment_at bytes taken r = rw (take-append-le r.taken taken piece (leb-true r.taken (length taken) both.0)) refl in
    ap (λ k. k ∷ map (moment_at bytes (taken ++ piece)) rest) first ∙ ap (λ l. moment_at bytes taken r ∷ l) (made_kept bytes taken piece rest both.1)
