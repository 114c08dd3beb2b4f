-- An object without one of its members.
use Rattle.std.proofs.Common.{◌≡◌, ℕ, List, [], ◌∷◌, String, Global, string_bytes, nat_cmp, cond, Bool, true, false, Ordering, refl, sym, ◌∙◌}
use Rattle.std.specs.Cmp.Lexicographic.{slice_cmp}
use Rattle.std.specs.Map.{remove_entry}
use Rattle.std.specs.BTreeMap.{is_at}
use Rattle.std.proofs.lemmas.Map.Text.{is_eq-slice_cmp}
use Rattle.std.proofs.lemmas.Slice.Eq.{bytes_eq-Decides}
use Rattle.serde_json.specs.Find.{get_member}
use Rattle.serde_json.specs.View.{members_view}
use Rattle.serde_json.proofs.Views.{Entry, member_later}

abbrev pub names : List ℕ → String Global → Ordering
names name k = slice_cmp nat_cmp name (string_bytes k)

without_at : (name other : List ℕ) (e : Entry) (es : List Entry) (b : Bool) → is_at (names name) e.0 ≡ b → (other ≡ name → ⊥)
    → get_member other (members_view (remove_entry (is_at (names name)) es)) ≡ get_member other (members_view es)
    → get_member other (members_view (cond b es (e ∷ remove_entry (is_at (names name)) es))) ≡ get_member other (members_view (e ∷ es))
without_at name other e es true is apart later =
    let same : name ≡ string_bytes e.0 = (bytes_eq-Decides name (string_bytes e.0)).0 (sym (is_eq-slice_cmp name (string_bytes e.0)) ∙ is) in
    sym (member_later other e es (λ h. apart (h ∙ sym same)))
without_at name other e es false is apart later = rw later refl

pub get_member-without : (name other : List ℕ) (es : List Entry) → (other ≡ name → ⊥)
    → get_member other (members_view (remove_entry (is_at (names name)) es)) ≡ get_member other (members_view es)
get_member-without name other [] apart = refl
get_member-without name other (e ∷ es) apart = without_at name other e es _ refl apart (get_member-without name other es apart)
