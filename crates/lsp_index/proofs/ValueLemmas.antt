-- Locations, and what is written of them.
use Rattle.std.proofs.Common.{◌≡◌, ℕ, List, [], ◌∷◌, ◌++◌, Bool, true, false, cond, ◌||◌, map, fold, refl, sym, ◌∙◌, ap, subst, append_assoc}
use Rattle.std.specs.Prelude.{Option, Some, None, option_map, Result, Ok, Err, IfOk, OnOk}
use Rattle.std.specs.List.{list_any}
use Rattle.std.proofs.lemmas.List.{map-append}
use Rattle.serde_json.specs.Written.{has_float, comma_if, compact_text, items_text}
use Rattle.serde_json.specs.View.{items_of}
use Rattle.lsp_shape.specs.Write.{write}
use Rattle.lsp_shape.specs.FloatsWritten.{write_floatless}
use Rattle.lsp_base.specs.Position.{location_row, range_row, position_row}
use Rattle.lsp_base.specs.declared.position.Location.{Location}
use Rattle.lsp_rpc.specs.Message.{IdData}
use Rattle.lsp_base.specs.declared.position.Range.{Range}
use Rattle.lsp_index.specs.Graph.{Graph}
use Rattle.lsp_index.specs.Queries.{LocationData, same_location, with_location, location_value, IsReached, IsReachedFrom}
use Rattle.lsp_index.specs.Shown.{show_location}

pub location_value-is : (l : Location) → write location_row.shape (location_row.shown l) ≡ location_value (show_location l)
unfolding location_row
location_value-is l = refl

free_location : (l : LocationData) → has_float (location_value l) ≡ false
unfolding range_row position_row
free_location l = write_floatless location_row.shape _ refl

pub free_location-written : (l : Location) → has_float (write location_row.shape (location_row.shown l)) ≡ false
free_location-written l = ap has_float (location_value-is l) ∙ free_location (show_location l)

-- ---- the text of a list of locations, one behind the other

-- whether it is a later one, and the text so far: those after one more
abbrev pub with_text : Bool × List ℕ → LocationData → Bool × List ℕ
with_text s l = (true, s.1 ++ (comma_if s.0 ++ compact_text (location_value l)))

pub texts_end : (s : Bool × List ℕ) (ls : List LocationData) → (fold with_text s ls).1 ++ 93 ∷ [] ≡ s.1 ++ items_text s.0 (items_of (map location_value ls))
texts_end s [] = refl
texts_end s (l ∷ ls) =
    let comma = comma_if s.0 in
    let text = compact_text (location_value l) in
    let rest = items_text true (items_of (map location_value ls)) in
    texts_end (with_text s l) ls ∙ append_assoc s.1 (comma ++ text) rest ∙ ap (λ t. s.1 ++ t) (append_assoc comma text rest)

-- ---- a set of locations

any-shown_location : (x : LocationData) (keys : List Location) → list_any (same_location x) (map show_location keys) ≡ list_any (λ k. same_location x (show_location k)) keys
any-shown_location x [] = refl
any-shown_location x (k ∷ keys) = ap (λ b. same_location x (show_location k) || b) (any-shown_location x keys)

-- a location was put in, where it is new
pub location_put : (keys new : List Location) (l : Location) (x : LocationData) → show_location l ≡ x
    → new ≡ cond (list_any (λ k. same_location (show_location l) (show_location k)) keys) keys (keys ++ l ∷ []) → map show_location new ≡ with_location (map show_location keys) x
location_put keys new l x is put =
    ap (map show_location) put ∙ at (list_any (λ k. same_location (show_location l) (show_location k)) keys) (list_any (same_location (show_location l)) (map show_location keys)) (any-shown_location (show_location l) keys)
    ∙ ap (with_location (map show_location keys)) is
  where
    at : (b d : Bool) → d ≡ b → map show_location (cond b keys (keys ++ l ∷ [])) ≡ cond d (map show_location keys) (map show_location keys ++ show_location l ∷ [])
    at true d e = sym (ap (λ t. cond t (map show_location keys) (map show_location keys ++ show_location l ∷ [])) e)
    at false d e = map-append show_location keys (l ∷ []) ∙ sym (ap (λ t. cond t (map show_location keys) (map show_location keys ++ show_location l ∷ [])) e)

pub if_ok : {T E : Type 0} (r : Result T E) {P Q : T → Type 0} → ((x : T) → P x → Q x) → IfOk r P → IfOk r Q
if_ok (Ok x) f p = f x p
if_ok (Err e) f p = tt

pub on_ok : {T E P Q : Type 0} (r : Result T E) → (P → Q) → OnOk r P → OnOk r Q
on_ok (Ok x) f p = f p
on_ok (Err e) f p = tt

-- ---- what is reached from the range that was chosen

pub reached_from_some : (g : Graph) (o : Option (IdData × Range)) (i : IdData) (r : Option IdData) → Some i ≡ option_map (λ (c : IdData × Range). c.0) o → IsReached g i r → IsReachedFrom g o r
reached_from_some g None i r e p = absurd (cc)
reached_from_some g (Some c) i r e p = let same : i ≡ c.0 = cc in subst (λ j. IsReached g j r) same p

pub reached_from_none : (g : Graph) (o : Option (IdData × Range)) → None ≡ option_map (λ (c : IdData × Range). c.0) o → IsReachedFrom g o None
reached_from_none g None e = refl
reached_from_none g (Some c) e = absurd (differ c.0 (sym e))
  where
    differ : (i : IdData) → Some i ≡ None → ⊥
    differ i e = cc
