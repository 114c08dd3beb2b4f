-- The plain data that values of std's types are.
use Rattle.std.specs.Prelude.{ℕ, ℤ, List, [], ◌∷◌, Bool, Option, option_map, map, slice_index, String, Vec, string_bytes}
use Rattle.std.specs.declared.alloc.Global.{Global}
use Rattle.std.specs.BTreeMap.{BTreeMap}
use Rattle.std.specs.HashMap.{HashMap}
use Rattle.serde_json.specs.Data.{boolean, number, string, unsigned}
use Rattle.serde_json.specs.Find.{of_integer}
use Rattle.serde_json.specs.View.{view}
use Rattle.serde_json.specs.declared.value.Value.{Value}
use Rattle.lsp_shape.specs.Plain.{Plain, leaf, parts, part, no_parts, entry, parts_of, maybe_of, entries_of}

abbrev pub show_bool : Bool → Plain
show_bool b = leaf (boolean b)

abbrev pub show_unsigned : ℕ → Plain
show_unsigned n = leaf (number (unsigned n))

abbrev pub show_signed : ℤ → Plain
show_signed n = leaf (number (of_integer n))

abbrev pub show_string : String Global → Plain
show_string s = leaf (string (string_bytes s))

abbrev pub show_value : Value → Plain
show_value v = leaf (view v)

abbrev pub show_option : {A : Type 0} → (A → Plain) → Option A → Plain
show_option show o = maybe_of (option_map show o)

abbrev pub show_list : {A : Type 0} → (A → Plain) → Vec A Global → Plain
show_list show v = parts (parts_of (map show v.items))

-- two numbers
abbrev pub show_pair : List ℕ → Plain
show_pair xs = parts (part (show_unsigned (slice_index xs 0)) (part (show_unsigned (slice_index xs 1)) no_parts))

-- the numbers of tokens
abbrev pub show_tokens : List ℕ → Plain
show_tokens xs = parts (parts_of (map show_unsigned xs))

-- the entries of a map, in the order of their keys
abbrev pub show_map : {K X S : Type 0} → (K → List ℕ) → (X → Plain) → HashMap K X S → Plain
show_map text show m = parts (entries_of text show m.entries)

abbrev pub show_members : List (String Global × Value) → List Plain
show_members [] = []
show_members (e ∷ es) = entry (string_bytes e.0) (leaf (view e.1)) ∷ show_members es

abbrev pub show_object : BTreeMap (String Global) Value → Plain
show_object m = parts (parts_of (show_members m.entries))
