-- A table as a list of entries with keys.
use Rattle.std.proofs.Common.{◌≡◌, ℕ, List, [], ◌∷◌, Bool, true, false, cond, ◌==◌, Option, Some, None, option_map, Bor, refl, ap}
use Rattle.std.specs.List.{find}
use Rattle.lsp_keyed.specs.Items.{has_key, has_number, without as items_without, IsAbove}
use Rattle.lsp_proxy.specs.declared.table.Asker.{Asker}
use Rattle.lsp_proxy.specs.Entries.{Entry, asker_at, place_of, without_entry, AreBelow}
use Rattle.lsp_proxy.specs.Tables.{show_asker, table_entries, same_shown}
use Rattle.lsp_proxy.proofs.EntryLemmas.{below_head, below_tail}

module _ {V : Type 0} where
  abbrev entry_of : ℕ × (Asker × V) → Entry
  entry_of e = record { n = e.0; asker = show_asker e.1.0 }

  pub shown_lent : (o : Option (Bor (Asker × V))) → option_map (λ e. show_asker e.now.0) o ≡ option_map (λ x. show_asker x.0) (option_map (λ e. e.now) o)
  shown_lent None = refl
  shown_lent (Some e) = refl

  pub found_asker : (n : ℕ) (es : List (ℕ × (Asker × V))) → option_map (λ x. show_asker x.0) (option_map (λ e. e.1) (find (has_number n) es)) ≡ asker_at n (table_entries es)
  found_asker n [] = refl
  found_asker n (e ∷ es) = go (n == e.0) (found_asker n es)
    where
      go : (b : Bool) → option_map (λ x. show_asker x.0) (option_map (λ y. y.1) (find (has_number n) es)) ≡ asker_at n (table_entries es)
          → option_map (λ x. show_asker x.0) (option_map (λ y. y.1) (cond b (Some e) (find (has_number n) es))) ≡ cond b (Some (show_asker e.1.0)) (asker_at n (table_entries es))
      go true later = refl
      go false later = later

  pub found_place : (a : Asker) (es : List (ℕ × (Asker × V))) → option_map (λ e. e.0) (find (has_key same_shown a) es) ≡ place_of (show_asker a) (table_entries es)
  found_place a [] = refl
  found_place a (e ∷ es) = go (same_shown a e.1.0) (found_place a es)
    where
      go : (b : Bool) → option_map (λ y. y.0) (find (has_key same_shown a) es) ≡ place_of (show_asker a) (table_entries es)
          → option_map (λ y. y.0) (cond b (Some e) (find (has_key same_shown a) es)) ≡ cond b (Some e.0) (place_of (show_asker a) (table_entries es))
      go true later = refl
      go false later = later

  pub shown_without : (n : ℕ) (es : List (ℕ × (Asker × V))) → table_entries (items_without n es) ≡ without_entry n (table_entries es)
  shown_without n [] = refl
  shown_without n (e ∷ es) = go (n == e.0) (shown_without n es)
    where
      go : (b : Bool) → table_entries (items_without n es) ≡ without_entry n (table_entries es)
          → table_entries (cond b es (e ∷ items_without n es)) ≡ cond b (table_entries es) (entry_of e ∷ without_entry n (table_entries es))
      go true later = refl
      go false later = ap (λ (l : List Entry). entry_of e ∷ l) later

  pub shown_above : (n : ℕ) (es : List (ℕ × (Asker × V))) → AreBelow n (table_entries es) → IsAbove n es
  shown_above n [] below = tt
  shown_above n (e ∷ es) below = (below_head n (entry_of e) (table_entries es) below, shown_above n es (below_tail n (entry_of e) (table_entries es) below))
