-- A list is as deep as its items at least.
use Rattle.std.proofs.Common.{◌≡◌, ℕ, zero, suc, ◌<◌, ◌≤◌, List, [], ◌∷◌, length, get_or, map, ap, arith}
use Rattle.serde_json.specs.Data.{depth, items_depth}
use Rattle.serde_json.specs.View.{view, items_view}
use Rattle.serde_json.specs.declared.value.Value.{Value}
use Rattle.lsp_shape.specs.Plain.{Plain, plain_depth, parts_depth, parts_of}

pub depth-item : (xs : List Value) (i : ℕ) (v : Value) → i < length xs → v ≡ get_or xs i v → depth (view v) ≤ items_depth (items_view xs)
depth-item [] i v h e = absurd (omega arith)
depth-item (x ∷ xs) zero v h e = let same : depth (view v) ≡ depth (view x) = ap (λ w. depth (view w)) e in omega arith
depth-item (x ∷ xs) (suc i) v h e = let below : depth (view v) ≤ items_depth (items_view xs) = depth-item xs i v (omega arith) e in omega arith

pub depth-part : {A : Type 0} (show : A → Plain) (xs : List A) (i : ℕ) (x : A) → i < length xs → x ≡ get_or xs i x → plain_depth (show x) ≤ parts_depth (parts_of (map show xs))
depth-part show [] i x h e = absurd (omega arith)
depth-part show (y ∷ ys) zero x h e = let same : plain_depth (show x) ≡ plain_depth (show y) = ap (λ z. plain_depth (show z)) e in omega arith
depth-part show (y ∷ ys) (suc i) x h e = let below : plain_depth (show x) ≤ parts_depth (parts_of (map show ys)) = depth-part show ys i x (omega arith) e in omega arith
