-- What a value is read as, by the text of the member that tells its variant.
use Rattle.std.proofs.Common.{◌≡◌, ◌≢◌, ℕ, suc, List, [], ◌∷◌, Bool, true, false, ◌||◌, if◌then◌else◌, Option, Some, None, option_and_then, bytes_eq, refl, ap, ◌∙◌}
use Rattle.std.specs.Prelude.{⊤}
use Rattle.std.proofs.lemmas.Bool.{false_from_ne_true}
use Rattle.std.proofs.lemmas.Slice.Eq.{bytes_eq-Decides}
use Rattle.serde_json.specs.Data.{Data, null, boolean, number, string, array, object}
use Rattle.serde_json.specs.Find.{get, as_str}
use Rattle.lsp_shape.specs.Plain.{parts, no_parts}
use Rattle.lsp_shape.specs.Shape.{Shape, fields, no_fields, tagged, Variants, no_variants, variant, has_name}
use Rattle.lsp_shape.specs.Read.{read, read_tagged}
use Rattle.lsp_shape.specs.Values.{tags}

-- the variants of a shape
abbrev pub variants_of : Shape → Variants
variants_of (tagged name vs) = vs
variants_of _ = no_variants

-- where the member is a text, the variant of that name is read
pub read_by_text : (name text : List ℕ) (vs : Variants) (d : Data) → option_and_then as_str (get name d) ≡ Some text
    → read (tagged name vs) d ≡ read_tagged vs 0 (Some text) d
read_by_text name text vs d told = ap (λ t. read_tagged vs 0 t d) told

-- what has a member is an object
pub nothing_read : (name text : List ℕ) (d : Data) → option_and_then as_str (get name d) ≡ Some text → read (fields no_fields) d ≡ Some (parts no_parts)
nothing_read name text null told = cc
nothing_read name text (boolean b) told = cc
nothing_read name text (number n) told = cc
nothing_read name text (string s) told = cc
nothing_read name text (array ds) told = cc
nothing_read name text (object ms) told = refl

differs : (text name : List ℕ) → text ≢ name → bytes_eq text name ≡ false
differs text name other = false_from_ne_true (bytes_eq text name) (λ e. other ((bytes_eq-Decides text name).0 e))

abbrev pub is_none_of : List ℕ → List (List ℕ) → Type 0
is_none_of s [] = ⊤
is_none_of s (n ∷ ns) = (s ≢ n) × is_none_of s ns

-- a text that is none of the names
pub unnamed : (text : List ℕ) (ns : List (List ℕ)) → is_none_of text ns → has_name text ns ≡ false
unnamed text [] none = refl
unnamed text (n ∷ ns) none = rw (differs text n none.0) (unnamed text ns none.1)

no_variant_told : (vs : Variants) (n : ℕ) (d : Data) → read_tagged vs n None d ≡ None
no_variant_told no_variants n d = refl
no_variant_told (variant name s vs) n d = no_variant_told vs (suc n) d

skipped : {A : Type 0} (b c : Bool) (x y : Option A) → (b || c) ≡ false → (c ≡ false → y ≡ None) → (if b then x else y) ≡ None
skipped true c x y none rest = cc
skipped false c x y none rest = rest none

no_variant_named : (vs : Variants) (n : ℕ) (text : List ℕ) (d : Data) → has_name text (tags vs) ≡ false → read_tagged vs n (Some text) d ≡ None
no_variant_named no_variants n text d other = refl
no_variant_named (variant name s vs) n text d other =
    skipped (bytes_eq text name) (has_name text (tags vs)) _ _ other (no_variant_named vs (suc n) text d)

-- where the member is missing, or no text, nothing fits
pub untold_unfit : (name : List ℕ) (vs : Variants) (d : Data) → option_and_then as_str (get name d) ≡ None → read (tagged name vs) d ≡ None
untold_unfit name vs d untold = ap (λ t. read_tagged vs 0 t d) untold ∙ no_variant_told vs 0 d

-- where the text is the name of no variant, nothing fits
pub other_unfit : (name text : List ℕ) (vs : Variants) (d : Data) → option_and_then as_str (get name d) ≡ Some text → has_name text (tags vs) ≡ false
    → read (tagged name vs) d ≡ None
other_unfit name text vs d told other = read_by_text name text vs d told ∙ no_variant_named vs 0 text d other
