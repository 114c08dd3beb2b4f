-- Pieces, one after another.
use Rattle.std.proofs.Common.{◌≡◌, List, [], ◌∷◌, ◌++◌, refl, sym, ◌∙◌, ap, append_assoc, length, arith, Bool, true, false}
use Rattle.std.specs.Prelude.{◌||◌}
use Rattle.std.specs.Global.{Vec}
use Rattle.std.proofs.lemmas.List.{append-nil}
use Rattle.lsp_session.specs.declared.item.Item.{Item}
use Rattle.lsp_session.specs.Item.{ItemData, item_has_float}
use Rattle.lsp_pump.specs.Pieces.{piece_items, all_items, some_float, ItemsAreFloatFree}

pub all_items-append : (xs ys : List (Vec Item)) → all_items (xs ++ ys) ≡ all_items xs ++ all_items ys
all_items-append [] ys = refl
all_items-append (x ∷ xs) ys = ap (λ l. piece_items x ++ l) (all_items-append xs ys) ∙ sym (append_assoc (piece_items x) (all_items xs) (all_items ys))

pub all_items-more : (xs : List (Vec Item)) (x : Vec Item) → all_items (xs ++ x ∷ []) ≡ all_items xs ++ piece_items x
all_items-more xs x = all_items-append xs (x ∷ []) ∙ ap (λ l. all_items xs ++ l) (append-nil (piece_items x))

pub free_head : (x : ItemData) (xs : List ItemData) → ItemsAreFloatFree (x ∷ xs) → item_has_float x ≡ false
free_head x xs free = at (item_has_float x) free
  where
    at : (b : Bool) → (b || some_float xs) ≡ false → b ≡ false
    at true h = h
    at false h = refl

pub free_tail : (x : ItemData) (xs : List ItemData) → ItemsAreFloatFree (x ∷ xs) → ItemsAreFloatFree xs
free_tail x xs free = at (item_has_float x) free
  where
    at : (b : Bool) → (b || some_float xs) ≡ false → some_float xs ≡ false
    at true h = cc
    at false h = h

pub free_more : (xs : List ItemData) (x : ItemData) → ItemsAreFloatFree xs → item_has_float x ≡ false → ItemsAreFloatFree (xs ++ x ∷ [])
free_more [] x free is = ap (λ b. b || false) is
free_more (y ∷ xs) x free is = ap (λ b. b || some_float (xs ++ x ∷ [])) (free_head y xs free) ∙ free_more xs x (free_tail y xs free) is

-- no piece is left where none is counted
pub none_left : (xs : List (Vec Item)) → length xs ≡ 0 → all_items xs ≡ []
none_left [] is = refl
none_left (x ∷ xs) is = absurd (omega (arith, is))
