-- How the result that a vertex leads to is reached.
use Rattle.std.proofs.Common.{◌≡◌, ◌≤◌, ◌<◌, ◌+◌, ◌-◌, ℕ, zero, suc, length, List, [], ◌∷◌, Bool, true, false, cond, ◌⊎◌, inl, inr, Option, Some, None, refl, sym, ◌∙◌, ap, subst, true≢false, arith}
use Rattle.lsp_rpc.specs.Message.{IdData}
use Rattle.lsp_rpc.specs.Ids.{same_id, same_id-Decides}
use Rattle.lsp_index.specs.Graph.{Graph, at_id}
use Rattle.lsp_index.specs.Queries.{own_or_next, reached_within, IsReached}

differ : {A : Type 0} {r : IdData} → Some r ≡ None → A
differ {A} {r} e = absurd (no e)
  where
    no : Some r ≡ None → ⊥
    no e = cc

-- ---- the edges `next` but for those from one vertex

without : IdData → List (IdData × IdData) → List (IdData × IdData)
without v [] = []
without v (e ∷ ns) = cond (same_id v e.0) (without v ns) (e ∷ without v ns)

none_left : (v : IdData) (ns : List (IdData × IdData)) → at_id (without v ns) v ≡ None
unfolding without
none_left v [] = refl
none_left v (e ∷ ns) = at (same_id v e.0) refl (none_left v ns)
  where
    at : (b : Bool) → same_id v e.0 ≡ b → at_id (without v ns) v ≡ None → at_id (cond b (without v ns) (e ∷ without v ns)) v ≡ None
    at true is rest = rest
    at false is rest = ap (λ b. cond b (Some e.1) (at_id (without v ns) v)) is ∙ rest

others_stay : (v u : IdData) → same_id v u ≡ false → (ns : List (IdData × IdData)) → at_id (without v ns) u ≡ at_id ns u
unfolding without
others_stay v u other [] = refl
others_stay v u other (e ∷ ns) = at (same_id v e.0) refl (others_stay v u other ns)
  where
    not_here : (b : Bool) → same_id u e.0 ≡ b → same_id v e.0 ≡ true → at_id ns u ≡ cond b (Some e.1) (at_id ns u)
    not_here true here is = absurd (true≢false (sym ((same_id-Decides v u).1 ((same_id-Decides v e.0).0 is ∙ sym ((same_id-Decides u e.0).0 here))) ∙ other))
    not_here false here is = refl

    at : (b : Bool) → same_id v e.0 ≡ b → at_id (without v ns) u ≡ at_id ns u → at_id (cond b (without v ns) (e ∷ without v ns)) u ≡ at_id (e ∷ ns) u
    at true is rest = rest ∙ not_here (same_id u e.0) refl is
    at false is rest = ap (λ o. cond (same_id u e.0) (Some e.1) o) rest

no_more : (v : IdData) (ns : List (IdData × IdData)) → length (without v ns) ≤ length ns
unfolding without
no_more v [] = omega arith
no_more v (e ∷ ns) = at (same_id v e.0) (no_more v ns)
  where
    at : (b : Bool) → length (without v ns) ≤ length ns → length (cond b (without v ns) (e ∷ without v ns)) ≤ length (e ∷ ns)
    at true rest = omega (arith, rest)
    at false rest = omega (arith, rest)

fewer : (v w : IdData) (ns : List (IdData × IdData)) → at_id ns v ≡ Some w → length (without v ns) < length ns
unfolding without
fewer v w [] there = differ (sym there)
fewer v w (e ∷ ns) there = at (same_id v e.0) there (λ p. fewer v w ns p)
  where
    at : (b : Bool) → cond b (Some e.1) (at_id ns v) ≡ Some w → (at_id ns v ≡ Some w → length (without v ns) < length ns)
        → length (cond b (without v ns) (e ∷ without v ns)) < length (e ∷ ns)
    at true here rest = omega (arith, no_more v ns)
    at false later rest = omega (arith, rest later)

-- ---- one step

module _ (g : Graph) (v : IdData) where
  own : (n : ℕ) (r : IdData) → at_id g.results v ≡ Some r → reached_within (suc n) g v ≡ Some r
  own n r is = ap (λ o. own_or_next o (at_id g.nexts v) (λ w. reached_within n g w)) is

  step : (n : ℕ) (w : IdData) → at_id g.results v ≡ None → at_id g.nexts v ≡ Some w → reached_within (suc n) g v ≡ reached_within n g w
  step n w none next =
      ap (λ o. own_or_next o (at_id g.nexts v) (λ w. reached_within n g w)) none ∙ ap (λ o. own_or_next None o (λ w. reached_within n g w)) next

  ends : (n : ℕ) → at_id g.results v ≡ None → at_id g.nexts v ≡ None → reached_within n g v ≡ None
  ends zero none next = refl
  ends (suc n) none next =
      ap (λ o. own_or_next o (at_id g.nexts v) (λ w. reached_within n g w)) none ∙ ap (λ o. own_or_next None o (λ w. reached_within n g w)) next

  -- its own result, or that of the next vertex
  first : (n : ℕ) (r : IdData) → reached_within (suc n) g v ≡ Some r
      → (at_id g.results v ≡ Some r) ⊎ ((w : IdData) × (at_id g.results v ≡ None) × (at_id g.nexts v ≡ Some w) × (reached_within n g w ≡ Some r))
  first n r e = by (at_id g.results v) refl (at_id g.nexts v) refl
    where
      by : (o : Option IdData) → at_id g.results v ≡ o → (p : Option IdData) → at_id g.nexts v ≡ p
          → (at_id g.results v ≡ Some r) ⊎ ((w : IdData) × (at_id g.results v ≡ None) × (at_id g.nexts v ≡ Some w) × (reached_within n g w ≡ Some r))
      by (Some s) is p next = inl (is ∙ sym (own n s is) ∙ e)
      by None is None next = differ (sym e ∙ ends (suc n) is next)
      by None is (Some w) next = inr (w, is, next, sym (step n w is next) ∙ e)

-- ---- what is reached is reached over each edge `next` once

module _ (g : Graph) (v : IdData) where
  left : Graph
  left = record g { nexts = without v g.nexts }

  -- with fewer edges nothing else is reached
  wider : (n : ℕ) (u r : IdData) → reached_within n left u ≡ Some r → reached_within n g u ≡ Some r
  unfolding left
  wider zero u r e = differ (sym e)
  wider (suc n) u r e = elim (first left u n r e) [ inl is ↦ own g u n r is | inr p ↦ step g u n p.0 p.1 (kept p.0 (same_id v u) refl p.2) ∙ wider n p.0 r p.3 ]
    where
      kept : (x : IdData) (b : Bool) → same_id v u ≡ b → at_id (without v g.nexts) u ≡ Some x → at_id g.nexts u ≡ Some x
      kept x true is next = differ (sym next ∙ ap (at_id (without v g.nexts)) (sym ((same_id-Decides v u).0 is)) ∙ none_left v g.nexts)
      kept x false is next = sym (others_stay v u is g.nexts) ∙ next

  module _ (w : IdData) (none : at_id g.results v ≡ None) (next : at_id g.nexts v ≡ Some w) where
    -- the walk goes on without the edge from the vertex, or comes to the vertex again
    avoids : (n : ℕ) (u r : IdData) → reached_within n g u ≡ Some r → (reached_within n left u ≡ Some r) ⊎ ((m : ℕ) × (reached_within m left w ≡ Some r))
    unfolding left
    avoids zero u r e = differ (sym e)
    avoids (suc n) u r e =
        elim (first g u n r e) [ inl is ↦ inl (own left u n r is) | inr p ↦ on p.0 p.1 p.2 p.3 (avoids n p.0 r p.3) (same_id v u) refl ]
      where
        some_same : (a b : IdData) → Some a ≡ Some b → a ≡ b
        some_same a b e = cc

        on : (x : IdData) → at_id g.results u ≡ None → at_id g.nexts u ≡ Some x → reached_within n g x ≡ Some r
            → (reached_within n left x ≡ Some r) ⊎ ((m : ℕ) × (reached_within m left w ≡ Some r)) → (b : Bool) → same_id v u ≡ b
            → (reached_within (suc n) left u ≡ Some r) ⊎ ((m : ℕ) × (reached_within m left w ≡ Some r))
        on x is leads rest (inr q) b same = inr q
        on x is leads rest (inl p) true here =
            let again : x ≡ w = some_same x w (sym leads ∙ ap (at_id g.nexts) (sym ((same_id-Decides v u).0 here)) ∙ next) in
            inr (n, ap (reached_within n left) (sym again) ∙ p)
        on x is leads rest (inl p) false other = inl (step left u n x is (others_stay v u other g.nexts ∙ leads) ∙ p)

-- so one vertex more than there are edges do
once_each : (f : ℕ) (g : Graph) → length g.nexts ≤ f → (n : ℕ) (v r : IdData) → reached_within n g v ≡ Some r → reached_within (suc f) g v ≡ Some r
unfolding left
once_each f g most zero v r e = differ (sym e)
once_each zero g most (suc n) v r e = elim (first g v n r e) [ inl is ↦ own g v 0 r is | inr p ↦ absurd (omega (arith, most, fewer v p.0 g.nexts p.2)) ]
once_each (suc f) g most (suc n) v r e =
    elim (first g v n r e) [
      | inl is ↦ own g v (suc f) r is
      | inr p ↦
          let most_left : length (without v g.nexts) ≤ f = omega (arith, most, fewer v p.0 g.nexts p.2) in
          step g v (suc f) p.0 p.1 p.2 ∙ wider g v (suc f) p.0 r (elim (avoids g v p.0 p.1 p.2 n p.0 r p.3) [
            | inl q ↦ once_each f (left g v) most_left n p.0 r q
            | inr q ↦ once_each f (left g v) most_left q.0 p.0 r q.1
          ])
    ]

-- ---- a walk

-- the walk from one vertex has come to another, over so many edges, and no result stood at those that it passed
abbrev pub Walk : Graph → IdData → ℕ → IdData → Type 0
Walk g start i at = (k : ℕ) → reached_within (i + k) g start ≡ reached_within k g at

pub walk_start : (g : Graph) (v : IdData) → Walk g v 0 v
walk_start g v k = let same : 0 + k ≡ k = omega arith in ap (λ m. reached_within m g v) same

-- from a vertex to itself, over one edge or more
module _ (g : Graph) (v : IdData) (m : ℕ) (walk : Walk g v (m + 1) v) where
  -- over more edges than any number nothing is reached
  far : (n : ℕ) → (k : ℕ) × (n ≤ k) × (reached_within k g v ≡ None)
  far zero = (0, omega arith, refl)
  far (suc n) = let p = far n in (m + 1 + p.0, omega (arith, p.1), walk p.0 ∙ p.2)

  none_round : (n : ℕ) → reached_within n g v ≡ None
  none_round n = by (reached_within n g v) refl
    where
      p : (k : ℕ) × (suc (length g.nexts) ≤ k) × (reached_within k g v ≡ None)
      p = far (suc (length g.nexts))

      by : (o : Option IdData) → reached_within n g v ≡ o → reached_within n g v ≡ None
      by None e = e
      by (Some r) e =
          let all : suc (p.0 - 1) ≡ p.0 = omega (arith, p.1) in
          differ (sym (once_each (p.0 - 1) g (omega (arith, p.1)) n v r e) ∙ ap (λ k. reached_within k g v) all ∙ p.2)

module _ (g : Graph) (start at : IdData) (i : ℕ) (walk : Walk g start i at) where
  -- the edge `next` is followed
  pub walk_on : (w : IdData) → at_id g.results at ≡ None → at_id g.nexts at ≡ Some w → Walk g start (i + 1) w
  walk_on w none next k = let same : i + 1 + k ≡ i + suc k = omega arith in ap (λ m. reached_within m g start) same ∙ walk (suc k) ∙ step g at k w none next

  -- its own result
  pub reached_own : (r : IdData) → at_id g.results at ≡ Some r → IsReached g start (Some r)
  reached_own r is = (i + 1, walk 1 ∙ own g at 0 r is)

  nowhere : (k : ℕ) → i + k ≡ suc (length g.nexts) → reached_within k g at ≡ None → IsReached g start None
  nowhere k all none n = by (reached_within n g start) refl
    where
      by : (o : Option IdData) → reached_within n g start ≡ o → reached_within n g start ≡ None
      by None e = e
      by (Some r) e = differ (sym (once_each (length g.nexts) g (omega arith) n start r e) ∙ sym (ap (λ m. reached_within m g start) all) ∙ walk k ∙ none)

  -- no edge goes on
  pub reached_none : i ≤ length g.nexts → at_id g.results at ≡ None → at_id g.nexts at ≡ None → IsReached g start None
  reached_none within none next =
      let k = suc (length g.nexts) - i in
      nowhere k (omega (arith, within)) (ends g at k none next)

  -- as many edges were followed as there are, so the walk goes round
  reached_again : i ≡ length g.nexts → at_id g.results at ≡ None → IsReached g start None
  reached_again all none = nowhere 1 (omega (arith, all)) (round (at_id g.nexts at) refl)
    where
      round : (o : Option IdData) → at_id g.nexts at ≡ o → reached_within 1 g at ≡ None
      round None next = ends g at 1 none next
      round (Some w) next = step g at 0 w none next

  -- the last vertex
  pub reached_last : (o : Option IdData) → i ≡ length g.nexts → at_id g.results at ≡ o → IsReached g start o
  reached_last (Some r) all is = reached_own r is
  reached_last None all is = reached_again all is

  -- the walk has come to a vertex again, so it goes round
  pub reached_round : (before : IdData) (m : ℕ) → Walk g before (m + 1) at → same_id at before ≡ true → IsReached g start None
  reached_round before m again same n = by (reached_within n g start) refl
    where
      round : Walk g at (m + 1) at
      round = subst (λ v. Walk g v (m + 1) at) (sym ((same_id-Decides at before).0 same)) again

      by : (o : Option IdData) → reached_within n g start ≡ o → reached_within n g start ≡ None
      by None e = e
      by (Some r) e =
          let all : suc (i + length g.nexts) ≡ i + suc (length g.nexts) = omega arith in
          differ (sym (once_each (i + length g.nexts) g (omega arith) n start r e) ∙ ap (λ k. reached_within k g start) all ∙ walk (suc (length g.nexts))
          ∙ none_round g at m round (suc (length g.nexts)))
