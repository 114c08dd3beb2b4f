-- Calls for which nothing is sent.
use Rattle.std.proofs.Common.{◌≡◌, ◌≤◌, ◌<◌, ◌+◌, ℕ, length, drop, get_or, arith, List, [], ◌∷◌, ◌++◌, map, Bool, true, cond, Option, Some, None, Result, refl, sym, ap, subst, ◌∙◌}
use Rattle.std.proofs.lemmas.List.{drop_more}
use Rattle.std.specs.Prelude.{unwrap_or}
use Rattle.std.specs.List.{filter}
use Rattle.serde_json.specs.Data.{Data}
use Rattle.lsp_rpc.specs.Message.{ErrorData}
use Rattle.lsp_proxy.specs.Entries.{AskerData}
use Rattle.lsp_proxy.specs.Proxy.{ProxyState, Sent, by_waiting, initialize_answered, waiting_sent}

-- one that waits makes the askers more
pub one_more_waits : (askers : List AskerData) (a : AskerData) → length (askers ++ a ∷ []) ≤ length askers → ⊥
one_more_waits [] a h = omega (arith, h)
one_more_waits (b ∷ askers) a h = one_more_waits askers a (let less = h in omega (arith, less))

-- where a response to `initialize` or to an editor's request sends nothing, nothing goes to those that wait
pub none_to_waiting : (s : ProxyState) (n : ℕ) (body : Result Data ErrorData) → (initialize_answered n body s).1 ≡ []
    → unwrap_or (waiting_sent s.opening n body s.editors) [] ≡ []
unfolding initialize_answered
none_to_waiting s n body = go (waiting_sent s.opening n body s.editors)
  where
    go : (o : Option Sent) → (by_waiting o n body s).1 ≡ [] → unwrap_or o [] ≡ []
    go None none = refl
    go (Some sent) none = none

-- what is sent to each of these
pub none_mapped : {X Y : Type 0} (f : X → Y) (xs : List X) → map f xs ≡ [] → xs ≡ []
none_mapped f [] none = refl
none_mapped f (x ∷ xs) none = cc

-- ---- going over a list

not_none : {X : Type 0} (front : List X) (x : X) (later : List X) → front ++ x ∷ later ≡ [] → ⊥
not_none [] x later none = cc
not_none (y ∷ front) x later none = cc

-- of those that are left from i on, the one at i passes, and more is to come
pub one_is_left : {X Y Z : Type 0} (g : X → Y) (p : Y → Bool) (f : Y → Z) (front : List Z) (xs : List X) (i : ℕ) (x : X) → i < length xs → x ≡ get_or xs i x → p (g x) ≡ true
    → front ++ map f (filter p (map g (drop i xs))) ≡ [] → ⊥
one_is_left g p f front xs i x less is passes none =
    not_none front (f (g x)) (map f (filter p (map g (drop (i + 1) xs)))) (
    subst (λ b. front ++ map f (cond b (g x ∷ filter p (map g (drop (i + 1) xs))) (filter p (map g (drop (i + 1) xs)))) ≡ []) passes
    (subst (λ l. front ++ map f (filter p (map g l)) ≡ []) (drop_more xs i x less ∙ ap (λ y. y ∷ drop (i + 1) xs) (sym is)) none))
