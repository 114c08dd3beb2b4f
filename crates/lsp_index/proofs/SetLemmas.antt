-- Sets that keep the order in which their members came.
use Rattle.std.proofs.Common.{◌≡◌, ℕ, ◌+◌, ◌<◌, inl, inr, length, take, List, [], ◌∷◌, ◌++◌, Bool, true, false, cond, map, fold, get_or, refl, sym, ◌∙◌, ap, subst, zero, suc, add-one, append_assoc, arith}
use Rattle.std.specs.Prelude.{Option, Some, None, slice_get, option_map, option_and_then}
use Rattle.std.specs.List.{list_any}
use Rattle.std.proofs.Math.Nat.{suc-add}
use Rattle.std.proofs.lemmas.List.{append-nil, map-append, take_all, take-append-le}
use Rattle.std.proofs.lemmas.List.Sums.{fold_more}
use Rattle.std.proofs.lemmas.List.Folds.{fold-map}
use Rattle.std.proofs.lemmas.Option.{slice_get_cases, slice_get_past, slice_get-map}
use Rattle.indexmap.specs.IndexSet.{insert_key}
use Rattle.lsp_rpc.specs.Message.{IdData}
use Rattle.lsp_rpc.specs.Ids.{same_id}
use Rattle.lsp_rpc.specs.Shown.{show_id}
use Rattle.lsp_rpc.specs.declared.id.Id.{Id}
use Rattle.lsp_base.specs.declared.position.Position.{Position}
use Rattle.lsp_base.specs.declared.position.Range.{Range}
use Rattle.lsp_index.specs.declared.graph.Index.{Index}
use Rattle.lsp_index.specs.declared.graph.Node.{Node}
use Rattle.lsp_index.specs.Graph.{Graph}
use Rattle.lsp_index.specs.declared.graph.Role.{Role}
use Rattle.lsp_index.specs.declared.graph.Role.TheVariants as roles
use Rattle.lsp_index.specs.Queries.{LocationData, with_new_id, with_linked, with_results, with_results_of, with_places, items_from, results_after, AreResults, candidate_in, named_in, with_candidate, chosen_at, closest_of, holds_position, range_holding}
use Rattle.lsp_index.specs.Shown.{show_vertex_of}
use Rattle.lsp_index.specs.Kept.{same_key, IsKept}
use Rattle.lsp_index.proofs.TableLemmas.{any-shown}

-- a fold over the members that a list shows, with one more
pub fold_shown_more : {X A B : Type 0} (f : B → A → B) (show : X → A) (b : B) (xs : List X) (i : ℕ) (x : X) → i < length xs → x ≡ get_or xs i x
    → fold f b (map show (take (i + 1) xs)) ≡ f (fold f b (map show (take i xs))) (show x)
fold_shown_more {X} f show b xs i x within is =
    sym_map (take (i + 1) xs) ∙ fold_more (λ b x. f b (show x)) b xs i x within ∙ ap (λ y. f (fold (λ b x. f b (show x)) b (take i xs)) (show y)) (sym is)
    ∙ ap (λ a. f a (show x)) (sym (sym_map (take i xs)))
  where
    sym_map : (ys : List X) → fold f b (map show ys) ≡ fold (λ b x. f b (show x)) b ys
    sym_map ys = fold-map f show b ys

-- an id was put in, where it is new
pub insert-shown : (keys new : List Id) (k : Id) (i : IdData) → show_id k ≡ i → new ≡ insert_key same_key keys k → map show_id new ≡ with_new_id (map show_id keys) i
insert-shown keys new k i same is =
    ap (map show_id) is ∙ at (list_any (same_key k) keys) (list_any (same_id (show_id k)) (map show_id keys)) (any-shown k keys) ∙ ap (with_new_id (map show_id keys)) same
  where
    at : (b d : Bool) → d ≡ b → map show_id (cond b keys (keys ++ k ∷ [])) ≡ cond d (map show_id keys) (map show_id keys ++ show_id k ∷ [])
    at true d e = sym (ap (λ t. cond t (map show_id keys) (map show_id keys ++ show_id k ∷ [])) e)
    at false d e = map-append show_id keys (k ∷ []) ∙ sym (ap (λ t. cond t (map show_id keys) (map show_id keys ++ show_id k ∷ [])) e)

-- ---- results, with all that they include

-- one more was gone through
pub results_more : (g : Graph) (r : IdData) (keys : List Id) (new : List IdData) (i : ℕ) (x : Id) → results_after g r i ≡ map show_id keys → Some x ≡ slice_get keys i
    → new ≡ with_results g (map show_id keys) (show_id x) → results_after g r (i + 1) ≡ new
results_more g r keys new i x so_far here is =
    ap (results_after g r) (add-one i) ∙ ap (λ l. with_results_of g l (slice_get l i)) so_far
    ∙ ap (with_results_of g (map show_id keys)) (slice_get-map show_id keys i ∙ ap (option_map show_id) (sym here)) ∙ sym is

-- none is left
pub results_end : (g : Graph) (r : IdData) (keys : List Id) (i : ℕ) → results_after g r i ≡ map show_id keys → None ≡ slice_get keys i → AreResults g r (map show_id keys)
results_end g r keys i so_far none = (i, so_far, slice_get-map show_id keys i ∙ ap (option_map show_id) (sym none))

-- ---- the results only grow

Extends : List IdData → List IdData → Type 0
Extends rs ss = (more : List IdData) × (ss ≡ rs ++ more)

extends_fold : {A : Type 0} (f : List IdData → A → List IdData) → ((rs : List IdData) (a : A) → Extends rs (f rs a)) → (rs : List IdData) (ys : List A) → Extends rs (fold f rs ys)
unfolding Extends
extends_fold f one rs [] = ([], sym (append-nil rs))
extends_fold f one rs (a ∷ ys) = let p = one rs a in let q = extends_fold f one (f rs a) ys in (p.0 ++ q.0, q.1 ∙ ap (λ l. l ++ q.0) p.1 ∙ append_assoc rs p.0 q.0)

extends_new : (rs : List IdData) (i : IdData) → Extends rs (with_new_id rs i)
unfolding Extends
extends_new rs i = at (list_any (same_id i) rs)
  where
    at : (t : Bool) → (more : List IdData) × (cond t rs (rs ++ i ∷ []) ≡ rs ++ more)
    at true = ([], sym (append-nil rs))
    at false = (i ∷ [], refl)

extends_linked : (rs : List IdData) (role : Role) (ids : List IdData) → Extends rs (with_linked rs role ids)
unfolding Extends
extends_linked rs roles.Place ids = ([], sym (append-nil rs))
extends_linked rs roles.Linked ids = extends_fold with_new_id extends_new rs ids
extends_linked rs roles.Neither ids = ([], sym (append-nil rs))

-- the places of one more member
pub places_more : (g : Graph) (keys : List Id) (new : List IdData) (found later : List LocationData) (i : ℕ) (x : Id) → Some x ≡ slice_get keys i → new ≡ with_results g (map show_id keys) (show_id x)
    → found ≡ fold (with_places g) [] (take i (map show_id keys)) → later ≡ with_places g found (show_id x) → later ≡ fold (with_places g) [] (take (i + 1) new)
unfolding Extends
places_more g keys new found later i x here is so_far put =
    let ks = map show_id keys in
    let shown : slice_get ks i ≡ Some (show_id x) = slice_get-map show_id keys i ∙ ap (option_map show_id) (sym here) in
    let grown = extends_fold (λ rs e. with_linked rs e.role e.targets) (λ rs e. extends_linked rs e.role e.targets) ks (items_from g (show_id x)) in
    elim (slice_get_cases ks i).1 [
      | inl s ↦
          let same : s.0 ≡ show_id x = some_same s.0 (show_id x) (sym s.2 ∙ shown) in
          put ∙ ap (λ l. with_places g l (show_id x)) so_far
          ∙ sym (ap (λ l. fold (with_places g) [] (take (i + 1) l)) (is ∙ grown.1)
          ∙ ap (fold (with_places g) []) (take-append-le (i + 1) ks grown.0 (omega (arith, s.1)))
          ∙ fold_more (with_places g) [] ks i s.0 s.1
          ∙ ap (λ y. with_places g (fold (with_places g) [] (take i ks)) y) (s.3 ∙ same))
      | inr past ↦ absurd (differ (show_id x) (sym shown ∙ past.1))
    ]
  where
    some_same : (a b : IdData) → Some a ≡ Some b → a ≡ b
    some_same a b e = cc

    differ : (a : IdData) → Some a ≡ None → ⊥
    differ a e = cc

-- those of all of them
pub places_end : (keys : List Id) (i : ℕ) → None ≡ slice_get keys i → take i (map show_id keys) ≡ map show_id keys
places_end keys i none =
    let ks = map show_id keys in
    let past : slice_get ks i ≡ None = slice_get-map show_id keys i ∙ ap (option_map show_id) (sym none) in
    elim (slice_get_cases ks i).1 [ inl s ↦ absurd (differ s.0 (sym s.2 ∙ past)) | inr p ↦ take_all i ks p.0 ]
  where
    differ : (a : IdData) → Some a ≡ None → ⊥
    differ a e = cc

none_later : {X : Type 0} (xs : List X) (i k : ℕ) → slice_get xs i ≡ None → slice_get xs (k + i) ≡ None
none_later {X} xs i k none = elim (slice_get_cases xs i).1 [ inl s ↦ absurd (differ s.0 (sym s.2 ∙ none)) | inr p ↦ slice_get_past xs (k + i) (omega (arith, p.0)) ]
  where
    differ : (x : X) → Some x ≡ None → ⊥
    differ x e = cc

-- then nothing is appended
results_stay : (g : Graph) (r : IdData) (n k : ℕ) → slice_get (results_after g r n) n ≡ None → results_after g r (k + n) ≡ results_after g r n
results_stay g r n zero none = let same : 0 + n ≡ n = omega arith in ap (results_after g r) same
results_stay g r n (suc k) none =
    ap (results_after g r) (suc-add k n) ∙ ap (λ l. with_results_of g l (slice_get l (k + n))) (results_stay g r n k none)
    ∙ ap (with_results_of g (results_after g r n)) (none_later (results_after g r n) n k none)

results_later : (g : Graph) (r : IdData) (rs : List IdData) (k : ℕ) (p : AreResults g r rs) → results_after g r (k + p.0) ≡ rs
results_later g r rs k p = results_stay g r p.0 k (subst (λ l. slice_get l p.0 ≡ None) (sym p.1) p.2) ∙ p.1

-- so they are one list
pub results_only : (g : Graph) (r : IdData) (rs ss : List IdData) → AreResults g r rs → AreResults g r ss → rs ≡ ss
results_only g r rs ss p q =
    let same : q.0 + p.0 ≡ p.0 + q.0 = omega arith in
    sym (results_later g r rs q.0 p) ∙ ap (results_after g r) same ∙ results_later g r ss p.0 q

-- ---- the closest range

pub closest_more : (named : List IdData) (p : Position) (es : List (Id × Node)) (i : ℕ) (old other new : Option (IdData × Range)) → i < length es
    → old ≡ fold (with_candidate named p) None (map show_vertex_of (take i es))
    → other ≡ option_and_then (λ e. candidate_in named p (show_vertex_of e)) (slice_get es i) → new ≡ closest_of old other
    → new ≡ fold (with_candidate named p) None (map show_vertex_of (take (i + 1) es))
closest_more named p es i old other new within so_far candidate is =
    elim (slice_get_cases es i).1 [
      | inl s ↦ is ∙ ap (closest_of old) (candidate ∙ ap (option_and_then (λ e. candidate_in named p (show_vertex_of e))) s.2) ∙ ap (λ o. with_candidate named p o (show_vertex_of s.0)) so_far
          ∙ sym (fold_shown_more (with_candidate named p) show_vertex_of None es i s.0 within (sym s.3))
      | inr past ↦ absurd (omega (arith, past.0, within))
    ]

-- the closest of those that the graph names
pub chosen_is : (g : Graph) (index : Index) (kept : IsKept g index) (uri : List ℕ) (p : Position) (named : List IdData) → named ≡ named_in g uri
    → option_map (λ (c : IdData × Range). c.0) (fold (with_candidate named p) None (map show_vertex_of index.vertices.entries)) ≡ option_map (λ (c : IdData × Range). c.0) (chosen_at g uri p)
chosen_is g index kept uri p named is =
    ap (λ ns. option_map (λ (c : IdData × Range). c.0) (fold (with_candidate ns p) None (map show_vertex_of index.vertices.entries))) is
    ∙ ap (λ vs. option_map (λ (c : IdData × Range). c.0) (fold (with_candidate (named_in g uri) p) None vs)) kept.vertices

-- ---- a range of those named

both_none : (b : Bool) → cond {A = Option (IdData × Range)} b None None ≡ None
both_none true = refl
both_none false = refl

pub range_outside : (b : Bool) (p : Position) (i : IdData) (r : Range) → holds_position r p ≡ false → None ≡ cond b (range_holding i p (Some r)) None
range_outside b p i r out = sym (ap (λ h. cond b (cond h (Some (i, r)) None) None) out ∙ both_none b)

pub range_named : (keys : List Id) (p : Position) (id : Id) (r : Range) (b : Bool) → holds_position r p ≡ true → b ≡ list_any (same_key id) keys → b ≡ true
    → Some (show_id id, r) ≡ cond (list_any (same_id (show_id id)) (map show_id keys)) (range_holding (show_id id) p (Some r)) None
range_named keys p id r b inside is there =
    sym (ap (λ t. cond t (range_holding (show_id id) p (Some r)) None) (any-shown id keys ∙ sym is ∙ there) ∙ ap (λ h. cond h (Some (show_id id, r)) None) inside)

pub range_unnamed : (keys : List Id) (p : Position) (id : Id) (o : Option Range) (b : Bool) → b ≡ list_any (same_key id) keys → b ≡ false
    → None ≡ cond (list_any (same_id (show_id id)) (map show_id keys)) (range_holding (show_id id) p o) None
range_unnamed keys p id o b is out = sym (ap (λ t. cond t (range_holding (show_id id) p o) None) (any-shown id keys ∙ sym is ∙ out))

pub no_range : (b : Bool) → None ≡ cond {A = Option (IdData × Range)} b None None
no_range b = sym (both_none b)
