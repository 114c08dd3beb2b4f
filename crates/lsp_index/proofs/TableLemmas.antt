-- Tables by ids, and what is found in them.
use Rattle.std.proofs.Common.{◌≡◌, List, [], ◌∷◌, ◌++◌, Bool, true, false, cond, ◌||◌, Option, Some, None, option_map, is_some, map, refl, sym, ◌∙◌, ap, true≢false}
use Rattle.std.specs.Prelude.{option_copied}
use Rattle.std.specs.Borrow.{Bor}
use Rattle.std.specs.List.{list_any}
use Rattle.std.specs.Map.{lookup}
use Rattle.indexmap.specs.IndexMap.{insert_entry}
use Rattle.lsp_rpc.specs.Ids.{same_id}
use Rattle.lsp_rpc.specs.Shown.{show_id}
use Rattle.lsp_rpc.specs.declared.id.Id.{Id}
use Rattle.lsp_index.specs.Kept.{same_key}

-- a new key goes last
insert_entry-absent : {K V : Type 0} (eq : K → K → Bool) (k : K) (v : V) (es : List (K × V)) → is_some (lookup (eq k) es) ≡ false → insert_entry eq es k v ≡ es ++ (k, v) ∷ []
insert_entry-absent eq k v [] h = refl
insert_entry-absent {K} {V} eq k v (e ∷ es) h = at (eq k e.0) h (λ p. insert_entry-absent eq k v es p)
  where
    at : (b : Bool) → is_some (cond b (Some e.1) (lookup (eq k) es)) ≡ false → (is_some (lookup (eq k) es) ≡ false → insert_entry eq es k v ≡ es ++ (k, v) ∷ [])
        → cond b ((e.0, v) ∷ es) (e ∷ insert_entry eq es k v) ≡ e ∷ (es ++ (k, v) ∷ [])
    at true p rest = absurd (true≢false p)
    at false p rest = ap (λ l. e ∷ l) (rest p)

pub put_absent : {K V : Type 0} (eq : K → K → Bool) (k : K) (v : V) (es new : List (K × V)) → is_some (lookup (eq k) es) ≡ false → new ≡ insert_entry eq es k v
    → new ≡ cond (is_some (lookup (eq k) es)) es (es ++ (k, v) ∷ [])
put_absent eq k v es new h is = is ∙ insert_entry-absent eq k v es h ∙ sym (ap (λ b. cond b es (es ++ (k, v) ∷ [])) h)

-- what stands under an id, as plain data
pub lookup-shown : {V W : Type 0} (show : V → W) (k : Id) (es : List (Id × V)) → lookup (same_id (show_id k)) (map (λ (e : Id × V). (show_id e.0, show e.1)) es) ≡ option_map show (lookup (same_key k) es)
lookup-shown show k [] = refl
lookup-shown {V} {W} show k (e ∷ es) = at (same_id (show_id k) (show_id e.0)) (lookup-shown show k es)
  where
    at : (b : Bool) → lookup (same_id (show_id k)) (map (λ (e : Id × V). (show_id e.0, show e.1)) es) ≡ option_map show (lookup (same_key k) es)
        → cond b (Some (show e.1)) (lookup (same_id (show_id k)) (map (λ (e : Id × V). (show_id e.0, show e.1)) es)) ≡ option_map show (cond b (Some e.1) (lookup (same_key k) es))
    at true rest = refl
    at false rest = rest

-- what is lent, as plain data
pub shown_of : (r : Option (Bor Id)) (o : Option Id) → option_copied r ≡ o → option_map (λ (id : Bor Id). show_id id.now) r ≡ option_map show_id o
shown_of None o is = ap (option_map show_id) is
shown_of (Some x) o is = ap (option_map show_id) is

-- whether an id is in a set
pub any-shown : (k : Id) (ks : List Id) → list_any (same_id (show_id k)) (map show_id ks) ≡ list_any (same_key k) ks
any-shown k [] = refl
any-shown k (x ∷ ks) = ap (λ b. same_id (show_id k) (show_id x) || b) (any-shown k ks)
