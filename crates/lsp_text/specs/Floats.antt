-- What stands for a value's floats where they are let in.
use Rattle.std.specs.Prelude.{◌≡◌, ℕ, ◌^◌, ◌-◌, ◌≤◌, ◌&&◌, pos, List, Bool, false, Float, nat_lt, if◌then◌else◌, Option, Some, None, option_map, option_and_then}
use Rattle.std.specs.Int.{w64}
use Rattle.std.specs.Float.{binary64, float_to_unsigned, float_to_signed}
use Rattle.std.specs.Float.Ieee.{of_int, eq}
use Rattle.json.specs.Json as json
use Rattle.serde_json.specs.Data.{Num, unsigned, negative, float, Data, null, boolean, number, string, array, object, Items, no_items, item, Members, no_members, member, put}
use Rattle.serde_json.specs.Find.{get, at, of_integer}
use Rattle.serde_json.specs.Read.{read, number_of}
use Rattle.serde_json.specs.Written.{has_float}
use Rattle.lsp_text.specs.declared.floats.Floats.{Floats}
use Rattle.lsp_text.specs.declared.floats.Floats.TheVariants.{Refused, Read}

-- ---- a float

-- a float is equal to the integer that it is cut to; those past the range are cut to 2 ^ 64 - 1, which no float is
abbrev pub is_unsigned : Float → Bool
is_unsigned x = nat_lt (float_to_unsigned w64 x) (2 ^ 64 - 1) && eq (of_int binary64 (pos (float_to_unsigned w64 x))) x

abbrev pub is_signed : Float → Bool
is_signed x = eq (of_int binary64 (float_to_signed w64 x)) x

-- the integer of 64 bits, without a sign or with one, that a float is equal to, and null where there is none
abbrev pub integer_or_null : Float → Data
integer_or_null x =
    if is_unsigned x then number (unsigned (float_to_unsigned w64 x))
    else (if is_signed x then number (of_integer (float_to_signed w64 x)) else null)

-- ---- a value

abbrev pub number_without_float : Num → Data
number_without_float (unsigned n) = number (unsigned n)
number_without_float (negative z) = number (negative z)
number_without_float (float x) = integer_or_null x

-- the value with an integer or null in place of each float
abbrev mutual
  pub without_floats : Data → Data
  without_floats null = null
  without_floats (boolean b) = boolean b
  without_floats (number n) = number_without_float n
  without_floats (string s) = string s
  without_floats (array ds) = array (items_without_floats ds)
  without_floats (object ms) = object (members_without_floats ms)

  pub items_without_floats : Items → Items
  items_without_floats no_items = no_items
  items_without_floats (item d ds) = item (without_floats d) (items_without_floats ds)

  pub members_without_floats : Members → Members
  members_without_floats no_members = no_members
  members_without_floats (member k d ms) = member k (without_floats d) (members_without_floats ms)

-- ---- a text

-- the value of a text; where floats are let in it is then made free of them
abbrev pub read_by : Floats → List ℕ → Option Data
read_by Refused text = read text
read_by Read text = option_map without_floats (read text)

-- the same from the grammar's tree, in which each number is made free of floats as it is read
abbrev pub number_by : Floats → Num → Data
number_by Refused n = number n
number_by Read n = number_without_float n

abbrev mutual
  pub of_json_by : Floats → json.Json → Option Data
  of_json_by floats json.null = Some null
  of_json_by floats (json.boolean b) = Some (boolean b)
  of_json_by floats (json.number s) = option_map (number_by floats) (number_of s)
  of_json_by floats (json.string s) = Some (string s)
  of_json_by floats (json.array js) = option_map array (of_items_by floats js)
  of_json_by floats (json.object ms) = option_map object (of_members_by floats ms no_members)

  pub of_items_by : Floats → json.Items → Option Items
  of_items_by floats json.no_items = Some no_items
  of_items_by floats (json.item j js) = option_and_then (λ d. option_map (item d) (of_items_by floats js)) (of_json_by floats j)

  pub of_members_by : Floats → json.Members → Members → Option Members
  of_members_by floats json.no_members found = Some found
  of_members_by floats (json.member k j ms) found = option_and_then (λ d. of_members_by floats ms (put k d found)) (of_json_by floats j)

-- ---- laws

-- making a value free of floats changes nothing else of it
pub record OnlyFloatsGo : Type 0 where
  pub unchanged : (d : Data) → has_float d ≡ false → without_floats d ≡ d
  pub none_left : (d : Data) → has_float (without_floats d) ≡ false
  -- each item stays in its place and each member under its name, and nothing else comes
  pub items : (i : ℕ) (d : Data) → at i (without_floats d) ≡ option_map without_floats (at i d)
  pub members : (k : List ℕ) (d : Data) → get k (without_floats d) ≡ option_map without_floats (get k d)

-- an integer of at most 2 ^ 53 that is written as a float is that integer: 1.0 is 1
pub record IntegersComeBack : Type 0 where
  pub natural : (n : ℕ) → n ≤ 2 ^ 53 → integer_or_null (of_int binary64 (pos n)) ≡ number (unsigned n)
