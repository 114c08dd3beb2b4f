-- What `memchr` finds is the first place.
use Rattle.std.proofs.Common.{◌≡◌, ℕ, zero, suc, ◌+◌, ◌<◌, ◌≤◌, List, [], ◌∷◌, ◌++◌, length, take, drop, get_or, Bool, true, false, nat_eq, cond, Option, Some, None, option_map, refl, sym, ap, ◌∙◌, arith, true≢false}
use Rattle.std.proofs.lemmas.Grind.{common_steps, same_number_lists}
use Rattle.std.proofs.lemmas.Bool.Decides.{Decides-eqb}
use Rattle.std.proofs.lemmas.Slice.Eq.{starts_is}
use Rattle.std.specs.List.{starts_with}
use Rattle.memchr.specs.Find.{OccursAt, FindsNeedle}
use Rattle.lsp_frame.specs.Transitions.{first_place}

whole_again : (n : ℕ) (xs : List ℕ) → xs ≡ take n xs ++ drop n xs
whole_again n xs = grind (arith, common_steps)

taken : (xs : List ℕ) (n j : ℕ) → j < n → get_or (take n xs) j 0 ≡ get_or xs j 0
taken xs n j h = grind (arith, common_steps)

joined : (xs ys : List ℕ) (j : ℕ) → j < length xs → get_or (xs ++ ys) j 0 ≡ get_or xs j 0
joined xs ys j h = grind (arith, common_steps)

starts_where_occurs : (hay needle : List ℕ) → OccursAt hay needle 0 → starts_with nat_eq hay needle ≡ true
starts_where_occurs hay needle o =
    let n = length needle in
    let room : n ≤ length hay = omega (arith, o.fits) in
    let same : take n hay ≡ needle = same_number_lists (take n hay) needle (grind (arith, common_steps))
    (λ j h. let short : j < n = grind (arith, common_steps) in
    taken hay n j short ∙ ap (λ i. get_or hay i 0) (omega arith) ∙ o.reads j short) in
    (starts_is Decides-eqb hay needle _ refl).1 (drop n hay) (whole_again n hay ∙ ap (λ t. t ++ drop n hay) same)

occurs_where_starts : (hay needle : List ℕ) → starts_with nat_eq hay needle ≡ true → OccursAt hay needle 0
occurs_where_starts hay needle e =
    let whole = (starts_is Decides-eqb hay needle _ refl).0 e in
    record {
      fits = grind (arith, common_steps, ap length whole);
      reads = λ j h. ap (λ i. get_or hay i 0) (omega arith) ∙ ap (λ t. get_or t j 0) whole ∙ joined needle (drop (length needle) hay) j h;
    }

sum_suc : (k j : ℕ) → suc k + j ≡ suc (k + j)
sum_suc k j = omega arith

occurs_later : (x : ℕ) (bs needle : List ℕ) (k : ℕ) → OccursAt bs needle k → OccursAt (x ∷ bs) needle (suc k)
occurs_later x bs needle k o = record {
  fits = omega (arith, o.fits);
  reads = λ j h. ap (λ i. get_or (x ∷ bs) i 0) (sum_suc k j) ∙ o.reads j h;
}

occurs_before : (x : ℕ) (bs needle : List ℕ) (k : ℕ) → OccursAt (x ∷ bs) needle (suc k) → OccursAt bs needle k
occurs_before x bs needle k o = record {
  fits = omega (arith, o.fits);
  reads = λ j h. sym (ap (λ i. get_or (x ∷ bs) i 0) (sum_suc k j)) ∙ o.reads j h;
}

abbrev Found : List ℕ → List ℕ → Option ℕ → Type 0
Found needle hay r = FindsNeedle hay needle 0 r

first_at : (needle : List ℕ) (x : ℕ) (bs : List ℕ) (b : Bool) → starts_with nat_eq (x ∷ bs) needle ≡ b
    → ((r : Option ℕ) → Found needle bs r → r ≡ first_place needle bs)
    → (r : Option ℕ) → Found needle (x ∷ bs) r → r ≡ cond b (Some 0) (option_map suc (first_place needle bs))
first_at needle x bs true e later None none = absurd (none 0 (omega arith) (omega arith) (occurs_where_starts (x ∷ bs) needle e))
first_at needle x bs true e later (Some zero) found = refl
first_at needle x bs true e later (Some (suc k)) found = absurd (found.0.before 0 (omega arith) (omega arith) (occurs_where_starts (x ∷ bs) needle e))
first_at needle x bs false e later None none =
    ap (option_map suc) (later None (λ k low high o. none (suc k) (omega arith) (omega arith) (occurs_later x bs needle k o)))
first_at needle x bs false e later (Some zero) found = absurd (true≢false (sym (starts_where_occurs (x ∷ bs) needle found.1) ∙ e))
first_at needle x bs false e later (Some (suc k)) found =
    ap (option_map suc) (later (Some k) (
      record {
        low = omega arith;
        high = omega (arith, found.0.high);
        before = λ i low high o. found.0.before (suc i) (omega arith) (omega arith) (occurs_later x bs needle i o);
      },
      occurs_before x bs needle k found.1,
    ))

pub first_of_find : (needle : List ℕ) → 0 < length needle → (hay : List ℕ) (r : Option ℕ) → Found needle hay r → r ≡ first_place needle hay
first_of_find needle some [] None found = refl
first_of_find needle some [] (Some k) found = absurd (omega (arith, some, found.1.fits))
first_of_find needle some (x ∷ bs) r found = first_at needle x bs _ refl (first_of_find needle some bs) r found
