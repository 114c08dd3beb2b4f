-- What holds of every proxy, after each change.
use Rattle.std.proofs.Common.{◌≡◌, ◌<◌, ◌+◌, length, zero, suc, arith, ℕ, List, [], ◌∷◌, ◌++◌, Bool, true, false, cond, not, ◌&&◌, ◌==◌, Option, Some, None, refl, sym, ap, ◌∙◌, subst, true≢false}
use Rattle.std.specs.Prelude.{slice_set}
use Rattle.std.specs.List.{filter}
use Rattle.std.proofs.lemmas.Bool.{eqb-true, eq-eqb, and_parts, and_from}
use Rattle.lsp_rpc.specs.Message.{IdData}
use Rattle.lsp_rpc.specs.Ids.{same_id}
use Rattle.lsp_proxy.specs.declared.side.Presence.{Presence}
use Rattle.lsp_proxy.specs.declared.side.Presence.TheVariants.{Down, Gone}
use Rattle.lsp_proxy.specs.declared.side.Side.TheVariants.{Editor}
use Rattle.lsp_proxy.specs.Entries.{AskerData, Entry, place_of, without_entry, AreBelow}
use Rattle.lsp_proxy.proofs.EntryLemmas.{below_head, below_tail, below_cons}
use Rattle.lsp_proxy.specs.Proxy.{is_gone, here_from, first_editor, lowest, presence_in, is_editor, are_of, AreOf, is_asked_by, first_requested, cancel_entry, cancel_passed}

-- ---- entries below the next id

pub below_next : (n : ℕ) (es : List Entry) → AreBelow n es → AreBelow (n + 1) es
below_next n [] h = refl
below_next n (e ∷ es) h =
    let less : e.n < n = below_head n e es h in
    below_cons (n + 1) e es (omega arith) (below_next n es (below_tail n e es h))

pub below_pushed : (n : ℕ) (a : AskerData) (es : List Entry) → AreBelow n es → AreBelow (n + 1) (es ++ record { n = n; asker = a } ∷ [])
below_pushed n a [] h = below_cons (n + 1) (record { n = n; asker = a }) [] (omega arith) refl
below_pushed n a (e ∷ es) h =
    let less : e.n < n = below_head n e es h in
    below_cons (n + 1) e (es ++ record { n = n; asker = a } ∷ []) (omega arith) (below_pushed n a es (below_tail n e es h))

pub below-without : (m n : ℕ) (es : List Entry) → AreBelow m es → AreBelow m (without_entry n es)
below-without m n [] h = refl
below-without m n (e ∷ es) h = go (n == e.n) (below-without m n es (below_tail m e es h))
  where
    go : (b : Bool) → AreBelow m (without_entry n es) → AreBelow m (cond b es (e ∷ without_entry n es))
    go true later = below_tail m e es h
    go false later = below_cons m e (without_entry n es) (below_head m e es h) later

pub below-filter : (m : ℕ) (p : Entry → Bool) (es : List Entry) → AreBelow m es → AreBelow m (filter p es)
below-filter m p [] h = refl
below-filter m p (e ∷ es) h = go (p e) (below-filter m p es (below_tail m e es h))
  where
    go : (b : Bool) → AreBelow m (filter p es) → AreBelow m (cond b (e ∷ filter p es) (filter p es))
    go true later = below_cons m e (filter p es) (below_head m e es h) later
    go false later = later

-- ---- entries of one editor

pub is_editor_some : (o : Option ℕ) (k : ℕ) → is_editor o k ≡ true → o ≡ Some k
is_editor_some None k h = absurd (true≢false (sym h))
is_editor_some (Some m) k h = ap (λ n. Some n) (eqb-true m k h)

pub not_editor : (o : Option ℕ) (k : ℕ) → is_editor o k ≡ false → o ≡ Some k → ⊥
not_editor None k h is = cc
not_editor (Some m) k h is =
    let same : m ≡ k = cc in
    true≢false (sym (eq-eqb m k same) ∙ h)

pub of_head : (o : Option ℕ) (e : Entry) (es : List Entry) → AreOf o (e ∷ es) → o ≡ Some e.asker.editor
of_head o e es h = is_editor_some o e.asker.editor (and_parts (is_editor o e.asker.editor) (are_of o es) h).0

pub of_tail : (o : Option ℕ) (e : Entry) (es : List Entry) → AreOf o (e ∷ es) → AreOf o es
of_tail o e es h = (and_parts (is_editor o e.asker.editor) (are_of o es) h).1

same_editor : (k : ℕ) (e : Entry) (es : List Entry) → AreOf (Some k) (e ∷ es) → k ≡ e.asker.editor
same_editor k e es h = eqb-true k e.asker.editor (and_parts (k == e.asker.editor) (are_of (Some k) es) h).0

pub of-without : (o : Option ℕ) (n : ℕ) (es : List Entry) → AreOf o es → AreOf o (without_entry n es)
of-without o n [] h = refl
of-without o n (e ∷ es) h = go (n == e.n) (of-without o n es (of_tail o e es h))
  where
    go : (b : Bool) → AreOf o (without_entry n es) → AreOf o (cond b es (e ∷ without_entry n es))
    go true later = of_tail o e es h
    go false later = and_from (is_editor o e.asker.editor) (are_of o (without_entry n es)) (and_parts (is_editor o e.asker.editor) (are_of o es) h).0 later

pub of-pushed : (k n : ℕ) (i : IdData) (es : List Entry) → AreOf (Some k) es → AreOf (Some k) (es ++ record { n = n; asker = record { editor = k; id = i } } ∷ [])
of-pushed k n i [] h = and_from (k == k) true (eq-eqb k k refl) refl
of-pushed k n i (e ∷ es) h = and_from (k == e.asker.editor) _ (and_parts (k == e.asker.editor) (are_of (Some k) es) h).0 (of-pushed k n i es (of_tail (Some k) e es h))

-- ---- editors

here_down : (j i : ℕ) (ps : List Presence) → is_gone (presence_in ps i) ≡ false → here_from j (slice_set ps i Down) ≡ here_from j ps
here_down j i [] h = refl
here_down j zero (p ∷ ps) h = ap (λ b. cond b (here_from (j + 1) ps) (j ∷ here_from (j + 1) ps)) (sym h)
here_down j (suc i) (p ∷ ps) h = ap (λ ks. cond (is_gone p) ks (j ∷ ks)) (here_down (j + 1) i ps h)

-- one that is here goes down, and the lowest stays
pub lowest-down : (k : ℕ) (ps : List Presence) → is_gone (presence_in ps k) ≡ false → lowest (slice_set ps k Down) ≡ lowest ps
lowest-down k ps h = ap first_editor (here_down 0 k ps h)

lowest_but : (j i : ℕ) (ps : List Presence) → (first_editor (here_from j ps) ≡ Some (j + i) → ⊥) → first_editor (here_from j (slice_set ps i Gone)) ≡ first_editor (here_from j ps)
lowest_but j i [] apart = refl
lowest_but j zero (p ∷ ps) apart = go (is_gone p) refl
  where
    go : (b : Bool) → is_gone p ≡ b → first_editor (here_from (j + 1) ps) ≡ first_editor (cond b (here_from (j + 1) ps) (j ∷ here_from (j + 1) ps))
    go true is = refl
    go false is =
        let here : first_editor (here_from j (p ∷ ps)) ≡ Some j = ap (λ b. first_editor (cond b (here_from (j + 1) ps) (j ∷ here_from (j + 1) ps))) is in
        let same : j ≡ j + 0 = omega arith in
        absurd (apart (here ∙ ap (λ n. Some n) same))
lowest_but j (suc i) (p ∷ ps) apart = go (is_gone p) refl (lowest_but (j + 1) i ps)
  where
    go : (b : Bool) → is_gone p ≡ b → ((first_editor (here_from (j + 1) ps) ≡ Some (j + 1 + i) → ⊥) → first_editor (here_from (j + 1) (slice_set ps i Gone)) ≡ first_editor (here_from (j + 1) ps))
        → first_editor (cond b (here_from (j + 1) (slice_set ps i Gone)) (j ∷ here_from (j + 1) (slice_set ps i Gone))) ≡ first_editor (cond b (here_from (j + 1) ps) (j ∷ here_from (j + 1) ps))
    go true is later = later (λ h.
        let same : j + 1 + i ≡ j + suc i = omega arith in
        apart (ap (λ b. first_editor (cond b (here_from (j + 1) ps) (j ∷ here_from (j + 1) ps))) is ∙ h ∙ ap (λ n. Some n) same))
    go false is later = refl

-- one that isn't the lowest leaves, and the lowest stays
pub lowest-gone : (k : ℕ) (ps : List Presence) → (lowest ps ≡ Some k → ⊥) → lowest (slice_set ps k Gone) ≡ lowest ps
lowest-gone k ps apart = lowest_but 0 k ps (λ h.
    let same : 0 + k ≡ k = omega arith in
    apart (h ∙ ap (λ n. Some n) same))

-- ---- the server's requests are of the lowest editor

pub all_of : (k : ℕ) (es : List Entry) → AreOf (Some k) es → filter (is_asked_by k) es ≡ es
all_of k [] h = refl
all_of k (e ∷ es) h =
    let same : k ≡ e.asker.editor = same_editor k e es h in
    ap (λ b. cond b (e ∷ filter (is_asked_by k) es) (filter (is_asked_by k) es)) (eq-eqb k e.asker.editor same) ∙ ap (λ l. e ∷ l) (all_of k es (of_tail (Some k) e es h))

pub none_but : (k : ℕ) (es : List Entry) → AreOf (Some k) es → filter (λ e. not (is_asked_by k e)) es ≡ []
none_but k [] h = refl
none_but k (e ∷ es) h =
    let same : k ≡ e.asker.editor = same_editor k e es h in
    ap (λ b. cond (not b) (e ∷ filter (λ f. not (is_asked_by k f)) es) (filter (λ f. not (is_asked_by k f)) es)) (eq-eqb k e.asker.editor same) ∙ none_but k es (of_tail (Some k) e es h)

not_of : (k : ℕ) (o : Option ℕ) (e : Entry) → o ≡ Some e.asker.editor → (o ≡ Some k → ⊥) → is_asked_by k e ≡ false
not_of k o e is apart = go (k == e.asker.editor) refl
  where
    go : (b : Bool) → (k == e.asker.editor) ≡ b → b ≡ false
    go true h = absurd (apart (is ∙ ap (λ n. Some n) (sym (eqb-true k e.asker.editor h))))
    go false h = refl

pub none_of : (k : ℕ) (o : Option ℕ) (es : List Entry) → AreOf o es → (o ≡ Some k → ⊥) → filter (is_asked_by k) es ≡ []
none_of k o [] h apart = refl
none_of k o (e ∷ es) h apart =
    ap (λ b. cond b (e ∷ filter (is_asked_by k) es) (filter (is_asked_by k) es)) (not_of k o e (of_head o e es h) apart) ∙ none_of k o es (of_tail o e es h) apart

pub all_but : (k : ℕ) (o : Option ℕ) (es : List Entry) → AreOf o es → (o ≡ Some k → ⊥) → filter (λ e. not (is_asked_by k e)) es ≡ es
all_but k o [] h apart = refl
all_but k o (e ∷ es) h apart =
    ap (λ b. cond (not b) (e ∷ filter (λ f. not (is_asked_by k f)) es) (filter (λ f. not (is_asked_by k f)) es)) (not_of k o e (of_head o e es h) apart) ∙ ap (λ l. e ∷ l) (all_but k o es (of_tail o e es h) apart)

pub none_requested : (es : List Entry) → AreOf None es → es ≡ []
none_requested [] h = refl
none_requested (e ∷ es) h = absurd (true≢false (sym (and_parts false (are_of None es) h).0))

-- the first entry of that id is the first of the lowest editor and that id
pub cancel_of_lowest : (k : ℕ) (i : IdData) (es : List Entry) → AreOf (Some k) es → cancel_entry (first_requested i es) ≡ cancel_passed (Editor k) (place_of (record { editor = k; id = i }) es)
cancel_of_lowest k i [] h = refl
cancel_of_lowest k i (e ∷ es) h = go (k == e.asker.editor) (same_id i e.asker.id) refl (cancel_of_lowest k i es (of_tail (Some k) e es h))
  where
    same : e.asker.editor ≡ k
    same = sym (same_editor k e es h)

    go : (b c : Bool) → (k == e.asker.editor) ≡ b → cancel_entry (first_requested i es) ≡ cancel_passed (Editor k) (place_of (record { editor = k; id = i }) es)
        → cancel_entry (cond c (Some e) (first_requested i es)) ≡ cancel_passed (Editor k) (cond (b && c) (Some e.n) (place_of (record { editor = k; id = i }) es))
    go true true is later = ap (λ n. cancel_passed (Editor n) (Some e.n)) same
    go true false is later = later
    go false c is later = absurd (true≢false (sym (eq-eqb k e.asker.editor (sym same)) ∙ is))

-- what is left of the server's requests is of the lowest editor that is left
pub of_left : (k : ℕ) (ps : List Presence) (es : List Entry) → AreOf (lowest ps) es → AreOf (lowest (slice_set ps k Gone)) (filter (λ e. not (is_asked_by k e)) es)
of_left k ps es h = go (is_editor (lowest ps) k) refl
  where
    go : (b : Bool) → is_editor (lowest ps) k ≡ b → AreOf (lowest (slice_set ps k Gone)) (filter (λ e. not (is_asked_by k e)) es)
    go true is = subst (AreOf (lowest (slice_set ps k Gone))) (sym (none_but k es (subst (λ o. AreOf o es) (is_editor_some (lowest ps) k is) h))) refl
    go false is =
        subst (AreOf (lowest (slice_set ps k Gone))) (sym (all_but k (lowest ps) es h (not_editor (lowest ps) k is)))
        (subst (λ o. AreOf o es) (sym (lowest-gone k ps (not_editor (lowest ps) k is))) h)

length_set : (k : ℕ) (p : Presence) (ps : List Presence) → length (slice_set ps k p) ≡ length ps
length_set k p [] = refl
length_set zero p (x ∷ ps) = refl
length_set (suc k) p (x ∷ ps) = ap suc (length_set k p ps)

-- an editor that isn't gone is known
pub known_here : (k : ℕ) (ps : List Presence) → is_gone (presence_in ps k) ≡ false → k < length ps
known_here k [] h = absurd (true≢false h)
known_here zero (p ∷ ps) h = omega arith
known_here (suc k) (p ∷ ps) h = let less = known_here k ps h in omega (arith, less)

pub few_set : (k : ℕ) (p : Presence) (ps : List Presence) (n : ℕ) → length ps < n → length (slice_set ps k p) < n
few_set k p ps n less = subst (λ m. m < n) (sym (length_set k p ps)) less
