-- A list of two items.
use Rattle.std.proofs.Common.{◌≡◌, ◌==◌, ◌<◌, ◌≤◌, List, [], ◌∷◌, length, get_or, false, Option, None, refl, ap, ◌∙◌, arith}
use Rattle.std.proofs.lemmas.Bool.{ne_eqb}
use Rattle.serde_json.specs.Data.{Data, array, item, no_items}
use Rattle.serde_json.specs.View.{view, items_view}
use Rattle.serde_json.specs.declared.value.Value.{Value}
use Rattle.lsp_shape.specs.Plain.{Plain}
use Rattle.lsp_shape.specs.Read.{read_list, item_count}
use Rattle.lsp_shape.proofs.Items.{items_counted}

pub two_items : (xs : List Value) (a b : Value) → 2 ≤ length xs → length xs < 3 → a ≡ get_or xs 0 a → b ≡ get_or xs 1 b → items_view xs ≡ item (view a) (item (view b) no_items)
two_items [] a b h k e f = absurd (omega (arith, h))
two_items (x ∷ []) a b h k e f = absurd (omega (arith, h))
two_items (x ∷ y ∷ []) a b h k e f = rw (e, f) refl
two_items (x ∷ y ∷ z ∷ xs) a b h k e f = absurd (omega (arith, k))

-- a list of another length is no pair
pub not_two : (f : Data → Option Plain) (d : Data) (xs : List Value) → d ≡ array (items_view xs) → (length xs ≡ 2 → ⊥) → read_list (λ n. n == 2) f d ≡ None
not_two f d xs is other =
    let count : (item_count (items_view xs) == 2) ≡ false = ap (λ n. n == 2) (items_counted xs) ∙ ne_eqb (length xs) 2 other in
    rw (is, count) refl
