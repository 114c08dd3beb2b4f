-- What is found in a method table after which a registration was put.
use Rattle.std.proofs.Common.{◌≡◌, ℕ, ◌+◌, List, [], ◌∷◌, ◌++◌, Bool, true, false, cond, refl, sym, ap, ◌∙◌, arith, true≢false, length, map}
use Rattle.std.proofs.lemmas.List.{map-append, length-map}
use Rattle.std.specs.Prelude.{Option, Some, None, String, string_bytes, bytes_eq, is_some}
use Rattle.std.specs.declared.alloc.Global.{Global}
use Rattle.std.specs.HashMap.{HashMap, get_by_text}
use Rattle.std.proofs.lemmas.Slice.Eq.{bytes_eq-Decides}
use Rattle.lsp_session.specs.declared.table.Entry.{Entry}
use Rattle.lsp_session.specs.declared.table.Registration.{Registration}
use Rattle.lsp_session.specs.Table.{MethodData, entry_at, find_in}
use Rattle.lsp_session.specs.Found.{show_method, AreFound}

find_in-append_found : (p : ℕ) (ms : List MethodData) (m : MethodData) (name : List ℕ) (e : Entry) → find_in p ms name ≡ Some e → find_in p (ms ++ m ∷ []) name ≡ Some e
find_in-append_found p [] m name e h = absurd (cc)
find_in-append_found p (x ∷ ms) m name e h = at (bytes_eq x.name name) h (find_in-append_found (p + 1) ms m name e)
  where
    at : (b : Bool) → cond b (Some (entry_at p x)) (find_in (p + 1) ms name) ≡ Some e → (find_in (p + 1) ms name ≡ Some e → find_in (p + 1) (ms ++ m ∷ []) name ≡ Some e) → cond b (Some (entry_at p x)) (find_in (p + 1) (ms ++ m ∷ []) name) ≡ Some e
    at true h more = h
    at false h more = more h

find_in-append_none : (p n : ℕ) (ms : List MethodData) (m : MethodData) (name : List ℕ) → n ≡ p + length ms → find_in p ms name ≡ None
    → find_in p (ms ++ m ∷ []) name ≡ cond (bytes_eq m.name name) (Some (entry_at n m)) None
find_in-append_none p n [] m name is h = let same : p ≡ n = omega (arith, is) in ap (λ k. cond (bytes_eq m.name name) (Some (entry_at k m)) None) same
find_in-append_none p n (x ∷ ms) m name is h = at (bytes_eq x.name name) h (find_in-append_none (p + 1) n ms m name (omega (arith, is)))
  where
    at : (b : Bool) → cond b (Some (entry_at p x)) (find_in (p + 1) ms name) ≡ None
        → (find_in (p + 1) ms name ≡ None → find_in (p + 1) (ms ++ m ∷ []) name ≡ cond (bytes_eq m.name name) (Some (entry_at n m)) None)
        → cond b (Some (entry_at p x)) (find_in (p + 1) (ms ++ m ∷ []) name) ≡ cond (bytes_eq m.name name) (Some (entry_at n m)) None
    at true h more = absurd (cc)
    at false h more = more h

module _ {S : Type 0} where
  -- a name that is found already
  pub found_again : (ms : List Registration) (places : HashMap (String Global) Entry S) (r : Registration) → AreFound ms places
      → is_some (get_by_text places (string_bytes r.name)) ≡ true → AreFound (ms ++ r ∷ []) places
  found_again ms places r was some q = go (find_in 0 (map show_method ms) q) refl
    where
      other : find_in 0 (map show_method ms) q ≡ None → (b : Bool) → bytes_eq (string_bytes r.name) q ≡ b → b ≡ false
      other none true h =
          let same : string_bytes r.name ≡ q = (bytes_eq-Decides (string_bytes r.name) q).0 h in
          absurd (true≢false (sym some ∙ ap (λ bs. is_some (get_by_text places bs)) same ∙ ap is_some (was q ∙ none)))
      other none false h = refl

      go : (o : Option Entry) → find_in 0 (map show_method ms) q ≡ o → get_by_text places q ≡ find_in 0 (map show_method (ms ++ r ∷ [])) q
      go (Some e) h = was q ∙ h ∙ sym (ap (λ l. find_in 0 l q) (map-append show_method ms (r ∷ [])) ∙ find_in-append_found 0 (map show_method ms) (show_method r) q e h)
      go None h = was q ∙ h ∙ sym (ap (λ l. find_in 0 l q) (map-append show_method ms (r ∷ []))
          ∙ find_in-append_none 0 (length (map show_method ms)) (map show_method ms) (show_method r) q (omega arith) h
          ∙ ap (λ b. cond b (Some (entry_at (length (map show_method ms)) (show_method r))) None) (other h _ refl))

  -- a name that was not found
  pub found_new : (ms : List Registration) (old new : HashMap (String Global) Entry S) (r : Registration) (e : Entry) → AreFound ms old
      → is_some (get_by_text old (string_bytes r.name)) ≡ false → e ≡ entry_at (length ms) (show_method r)
      → ((q : List ℕ) → get_by_text new q ≡ cond (bytes_eq (string_bytes r.name) q) (Some e) (get_by_text old q)) → AreFound (ms ++ r ∷ []) new
  found_new ms old new r e was none is updates q =
      updates q ∙ go (bytes_eq (string_bytes r.name) q) refl (find_in 0 (map show_method ms) q) refl
      ∙ ap (λ l. find_in 0 l q) (sym (map-append show_method ms (r ∷ [])))
    where
      go : (b : Bool) → bytes_eq (string_bytes r.name) q ≡ b → (o : Option Entry) → find_in 0 (map show_method ms) q ≡ o
          → cond b (Some e) (get_by_text old q) ≡ find_in 0 (map show_method ms ++ show_method r ∷ []) q
      go true h None k =
          ap (λ x. Some x) is ∙ sym (find_in-append_none 0 (length ms) (map show_method ms) (show_method r) q (omega (arith, length-map ms show_method)) k
          ∙ ap (λ b. cond b (Some (entry_at (length ms) (show_method r))) None) h)
      go true h (Some x) k =
          let same : string_bytes r.name ≡ q = (bytes_eq-Decides (string_bytes r.name) q).0 h in
          absurd (true≢false (sym (ap is_some (was q ∙ k)) ∙ ap (λ bs. is_some (get_by_text old bs)) (sym same) ∙ none))
      go false h None k =
          was q ∙ k ∙ sym (find_in-append_none 0 (length ms) (map show_method ms) (show_method r) q (omega (arith, length-map ms show_method)) k
          ∙ ap (λ b. cond b (Some (entry_at (length ms) (show_method r))) None) h)
      go false h (Some x) k = was q ∙ k ∙ sym (find_in-append_found 0 (map show_method ms) (show_method r) q x k)
