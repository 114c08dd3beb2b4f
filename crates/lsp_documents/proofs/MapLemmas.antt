-- The table of the documents, and the map that it shows.
use Rattle.std.proofs.Common.{◌≡◌, ℕ, List, [], ◌∷◌, Bool, true, false, cond, Option, Some, None, option_map, refl, sym, ap, ◌∙◌, subst, map, nat_cmp}
use Rattle.std.specs.Prelude.{ℤ, String, string_bytes, bytes_eq, Result, Ok, Err, OnOk, IsSome}
use Rattle.std.specs.Option.{option_and_then}
use Rattle.std.specs.Map.{lookup}
use Rattle.std.specs.HashMap.{HashMap, get_by_text}
use Rattle.std.specs.Ordering.{eq_by_cmp}
use Rattle.std.specs.Cmp.Lexicographic.{slice_cmp, nat_list_cmp_total, texts_ties}
use Rattle.std.proofs.lemmas.Cmp.{eq_by_cmp_equiv}
use Rattle.std.specs.FinMap as fin
use Rattle.lsp_documents.specs.OpenDocument.{OpenDocument, document_of}
use Rattle.std.proofs.lemmas.Slice.Eq.{bytes_eq-Decides}
use Rattle.lsp_documents.specs.Documents.{DocumentMap, Change, all_changed, after_changes, changed_document}
use Rattle.lsp_documents.specs.Views.{documents_of}

found : {Z : Type 0} (es : List (String Z × OpenDocument)) (q : List ℕ) → fin.find (slice_cmp nat_cmp) q (map (λ e. (string_bytes e.0, e.1)) es) ≡ lookup (λ k. bytes_eq q (string_bytes k)) es
found [] q = refl
found (e ∷ es) q =
    ap (cond (eq_by_cmp (slice_cmp nat_cmp) q (string_bytes e.0)) (Some e.1)) (found es q)
    ∙ ap (λ b. cond b (Some e.1) (lookup (λ k. bytes_eq q (string_bytes k)) es)) (sym (texts_ties q (string_bytes e.0)))

flipped : (k q : List ℕ) → bytes_eq k q ≡ eq_by_cmp (slice_cmp nat_cmp) q k
flipped k q = texts_ties k q ∙ (eq_by_cmp_equiv nat_list_cmp_total).symm k q

same_documents : (a b : DocumentMap) → ((q : List ℕ) → fin.get a q ≡ fin.get b q) → a ≡ b
same_documents a b h = fin.same_map nat_list_cmp_total (fin.slice_cmp-IsAntisymmetric fin.nat_cmp-IsAntisymmetric) a b h

module _ {Z S : Type 0} where
  -- the same is found by a text in both
  pub get-documents_of : (m : HashMap (String Z) OpenDocument S) (q : List ℕ) → fin.get (documents_of m) q ≡ get_by_text m q
  get-documents_of m q = fin.get-from_entries nat_list_cmp_total (map (λ e. (string_bytes e.0, e.1)) m.entries) q ∙ found m.entries q

  pub same_table : (m n : HashMap (String Z) OpenDocument S) → n.entries ≡ m.entries → documents_of n ≡ documents_of m
  same_table m n e = ap (λ es. fin.from_entries (map (λ p. (string_bytes p.0, p.1)) es)) e

  pub inserted : (m n : HashMap (String Z) OpenDocument S) (k : List ℕ) (d : OpenDocument) → ((q : List ℕ) → get_by_text n q ≡ cond (bytes_eq k q) (Some d) (get_by_text m q)) → documents_of n ≡ fin.insert (documents_of m) k d
  inserted m n k d h =
      same_documents _ _ (λ q. get-documents_of n q ∙ h q
      ∙ ap (λ b. cond b (Some d) (get_by_text m q)) (flipped k q)
      ∙ ap (cond (eq_by_cmp (slice_cmp nat_cmp) q k) (Some d)) (sym (get-documents_of m q))
      ∙ sym (fin.get-insert nat_list_cmp_total (documents_of m) k d q))

  pub removed : (m n : HashMap (String Z) OpenDocument S) (k : List ℕ) → ((q : List ℕ) → get_by_text n q ≡ cond (bytes_eq k q) None (get_by_text m q)) → documents_of n ≡ fin.remove (documents_of m) k
  removed m n k h =
      same_documents _ _ (λ q. get-documents_of n q ∙ h q
      ∙ ap (λ b. cond b None (get_by_text m q)) (flipped k q)
      ∙ ap (cond (eq_by_cmp (slice_cmp nat_cmp) q k) None) (sym (get-documents_of m q))
      ∙ sym (fin.get-remove nat_list_cmp_total (documents_of m) k q))

  found_in : (m : HashMap (String Z) OpenDocument S) (k : List ℕ) (o : Option OpenDocument) → get_by_text m k ≡ o → fin.get (documents_of m) k ≡ o
  found_in m k o e = get-documents_of m k ∙ e

  -- the document of k becomes w
  pub changed_map : (m n : HashMap (String Z) OpenDocument S) (k : List ℕ) (version : ℤ) (cs : List Change) (d w : OpenDocument) → get_by_text m k ≡ Some d → all_changed cs d.text ≡ Some w.text → w.version ≡ version
      → ((q : List ℕ) → get_by_text n q ≡ cond (bytes_eq k q) (Some w) (get_by_text m q)) → after_changes k version cs (documents_of m) ≡ Some (documents_of n)
  changed_map m n k version cs d w is made versioned h =
      ap (λ o. option_map (λ (x : OpenDocument). fin.insert (documents_of m) k x) (option_and_then (changed_document version cs) o)) (found_in m k (Some d) is)
      ∙ ap (λ o. option_map (λ (x : OpenDocument). fin.insert (documents_of m) k x) (option_map (document_of version) o)) made
      ∙ ap (λ v. Some (fin.insert (documents_of m) k (document_of v w.text))) (sym versioned)
      ∙ ap Some (sym (inserted m n k w h))

  pub none_made : (m : HashMap (String Z) OpenDocument S) (k : List ℕ) (version : ℤ) (cs : List Change) (d : OpenDocument) → get_by_text m k ≡ Some d → all_changed cs d.text ≡ None → after_changes k version cs (documents_of m) ≡ None
  none_made m k version cs d is made =
      ap (λ o. option_map (λ (x : OpenDocument). fin.insert (documents_of m) k x) (option_and_then (changed_document version cs) o)) (found_in m k (Some d) is)
      ∙ ap (λ o. option_map (λ (x : OpenDocument). fin.insert (documents_of m) k x) (option_map (document_of version) o)) made

  pub some_made : (m : HashMap (String Z) OpenDocument S) (k : List ℕ) (version : ℤ) (cs : List Change) (d : OpenDocument) → get_by_text m k ≡ Some d → IsSome (all_changed cs d.text) → IsSome (after_changes k version cs (documents_of m))
  some_made m k version cs d is made =
      subst (λ o. IsSome (option_map (λ (x : OpenDocument). fin.insert (documents_of m) k x) (option_and_then (changed_document version cs) o))) (sym (found_in m k (Some d) is))
      (go (all_changed cs d.text) made)
    where
      go : (o : Option (List ℕ)) → IsSome o → IsSome (option_map (λ (x : OpenDocument). fin.insert (documents_of m) k x) (option_map (document_of version) o))
      go None h = absurd (cc h)
      go (Some t) h = refl

  -- the document of k is written back as it was
  pub kept_map : (m n : HashMap (String Z) OpenDocument S) (k : List ℕ) (d w : OpenDocument) → get_by_text m k ≡ Some d → w ≡ d → ((q : List ℕ) → get_by_text n q ≡ cond (bytes_eq k q) (Some w) (get_by_text m q)) → documents_of n ≡ documents_of m
  kept_map m n k d w is same h =
      same_documents _ _ (λ q. get-documents_of n q ∙ h q ∙ ap (λ x. cond (bytes_eq k q) (Some x) (get_by_text m q)) same ∙ at_key q (bytes_eq k q) refl ∙ sym (get-documents_of m q))
    where
      at_key : (q : List ℕ) (b : Bool) → bytes_eq k q ≡ b → cond b (Some d) (get_by_text m q) ≡ get_by_text m q
      at_key q true e = sym is ∙ ap (get_by_text m) ((bytes_eq-Decides k q).0 e)
      at_key q false e = refl

pub ok_both : {T E P Q R : Type 0} (r : Result T E) → OnOk r P → OnOk r Q → (P → Q → R) → OnOk r R
ok_both (Ok x) p q f = f p q
ok_both (Err e) p q f = tt
