-- A list that begins with the standard methods.
use Rattle.std.proofs.Common.{◌≡◌, ◌<◌, ◌≤◌, ◌+◌, ◌-◌, refl, sym, ◌∙◌, ap, subst, ℕ, List, [], ◌∷◌, ◌++◌, length, drop, arith, length-append, append_assoc}
use Rattle.std.specs.Prelude.{Result, Ok, Err, IfOk, OnErr}
use Rattle.std.proofs.Math.Seq.{drop-append_seam}
use Rattle.std.proofs.lemmas.List.{append-nil}
use Rattle.lsp_session.specs.Table.{MethodData}
use Rattle.lsp_methods.specs.Standard.{standard_count, standard_methods}

pub standard_length : length standard_methods ≡ standard_count
unfolding standard_methods
standard_length = refl

-- what stands behind the standard methods
pub rest_is : (rest : List MethodData) → drop standard_count (standard_methods ++ rest) ≡ rest
rest_is rest = ap (λ (n : ℕ). drop n (standard_methods ++ rest)) (sym standard_length) ∙ drop-append_seam standard_methods rest

pub begins_with : (ms rest : List MethodData) → ms ≡ standard_methods ++ rest → (ms ≡ standard_methods ++ drop standard_count ms) × (drop standard_count ms ≡ rest)
begins_with ms rest is =
    let same : drop standard_count ms ≡ rest = ap (drop standard_count) is ∙ rest_is rest in
    (is ∙ ap (λ l. standard_methods ++ l) (sym same), same)

pub none_more : (ms : List MethodData) → ms ≡ standard_methods → (ms ≡ standard_methods ++ drop standard_count ms) × (drop standard_count ms ≡ [])
none_more ms is = begins_with ms [] (is ∙ sym (append-nil standard_methods))

pub one_more : (old new : List MethodData) (m : MethodData) → old ≡ standard_methods ++ drop standard_count old → new ≡ old ++ m ∷ []
    → (new ≡ standard_methods ++ drop standard_count new) × (drop standard_count new ≡ drop standard_count old ++ m ∷ [])
one_more old new m led is = begins_with new (drop standard_count old ++ m ∷ []) (is ∙ ap (λ l. l ++ m ∷ []) led ∙ append_assoc standard_methods (drop standard_count old) (m ∷ []))

-- a method is registered, or there is no memory for it and the methods are as before
pub registers : {A E : Type 0} (r : Result A E) (old new : List MethodData) (m : MethodData) → old ≡ standard_methods ++ drop standard_count old
    → IfOk r (λ _. new ≡ old ++ m ∷ []) → OnErr r (new ≡ old) → new ≡ standard_methods ++ drop standard_count new
registers (Ok x) old new m led ok err = (one_more old new m led ok).0
registers (Err e) old new m led ok err = subst (λ l. l ≡ standard_methods ++ drop standard_count l) (sym err) led

-- the places of the custom methods
pub custom_place : (ms : List MethodData) → ms ≡ standard_methods ++ drop standard_count ms → length ms ≡ standard_count + length (drop standard_count ms)
custom_place ms led = ap length led ∙ length-append standard_methods (drop standard_count ms) ∙ ap (λ (n : ℕ). n + length (drop standard_count ms)) standard_length

-- the standard methods are registered one after another
pub registered : (a b c d l : List MethodData) (x y : MethodData) → a ≡ [] → b ≡ a ++ l → c ≡ b ++ x ∷ [] → d ≡ c ++ y ∷ [] → d ≡ (l ++ x ∷ []) ++ y ∷ []
registered a b c d l x y e f g h = h ∙ ap (λ k. k ++ y ∷ []) (g ∙ ap (λ k. k ++ x ∷ []) (f ∙ ap (λ k. k ++ l) e))
