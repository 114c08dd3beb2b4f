-- What a JSON value may be: the shape of a type.
use Rattle.std.specs.Prelude.{ℕ, ◌%◌, ◌==◌, ◌^◌, ◌-◌, ℤ, pos, negsuc, List, [], ◌∷◌, ◌++◌, Bool, true, false, ◌||◌, ◌&&◌, not, bytes_eq}

-- how a field is read where its member is missing or null, and when it is written
pub data Rule : Type 0 where
  -- the member has to be there
  required : Rule
  -- missing or null reads as absent, which is not written
  omitted : Rule
  -- missing or null reads as absent, which is written as null
  nullable : Rule
  -- missing reads as an empty list
  or_empty : Rule
  -- missing reads as false
  or_false : Rule
  -- missing reads as an empty list, which is not written
  unless_empty : Rule
  -- missing reads as false, which is not written
  unless_false : Rule

-- how often a record that holds itself is held by a field
pub data Count : Type 0 where
  one : Count
  many : Count

mutual
  pub data Shape : Type 0 where
    nil : Shape
    truth : Shape
    -- an integer from the first to the second
    integer : ℤ → ℤ → Shape
    -- an unsigned integer up to that number; a value of the type may be larger, and is written so
    bits : ℕ → Shape
    -- a text that passes the test
    text : (List ℕ → Bool) → Shape
    any : Shape
    -- a list whose length passes the test
    list_of : (ℕ → Bool) → Shape → Shape
    -- null, or the shape
    maybe : Shape → Shape
    -- an object whose keys pass the test
    map_of : (List ℕ → Bool) → Shape → Shape
    -- a record
    fields : Fields → Shape
    -- a record, where the members that it does not name are a map to the shape; the map is the first part
    fields_and : Shape → Fields → Shape
    -- a record that holds itself
    recursive : Fields → Shape
    -- the first of these that fits
    union : Shapes → Shape
    -- an object whose member of that name tells the variant
    tagged : List ℕ → Variants → Shape

  pub data Fields : Type 0 where
    no_fields : Fields
    field : List ℕ → Rule → Shape → Fields → Fields
    -- the members of that shape stand among the others
    flat : Shape → Fields → Fields
    -- as an omitted field, but false reads as absent too, and true as `{"valueSet": []}` does
    supported : List ℕ → Shape → Fields → Fields
    -- the member is the record itself, or a list of it
    again : List ℕ → Rule → Count → Fields → Fields

  pub data Shapes : Type 0 where
    no_shapes : Shapes
    or_shape : Shape → Shapes → Shapes

  pub data Variants : Type 0 where
    no_variants : Variants
    variant : List ℕ → Shape → Variants → Variants

-- ---- the names of a record

abbrev pub has_name : List ℕ → List (List ℕ) → Bool
has_name name [] = false
has_name name (n ∷ ns) = bytes_eq name n || has_name name ns

-- no name is in both
abbrev pub are_apart : List (List ℕ) → List (List ℕ) → Bool
are_apart [] ns = true
are_apart (m ∷ ms) ns = not (has_name m ns) && are_apart ms ns

-- the members that a value of the shape may have, where it can stand among others
abbrev mutual
  pub names : Shape → List (List ℕ)
  names (fields fs) = field_names fs
  names (tagged tag vs) = tag ∷ variant_names vs
  names _ = []

  pub field_names : Fields → List (List ℕ)
  field_names no_fields = []
  field_names (field name r s fs) = name ∷ field_names fs
  field_names (flat s fs) = names s ++ field_names fs
  field_names (supported name s fs) = name ∷ field_names fs
  field_names (again name r c fs) = name ∷ field_names fs

  pub variant_names : Variants → List (List ℕ)
  variant_names no_variants = []
  variant_names (variant name s vs) = names s ++ variant_names vs

-- a shape whose members can stand among others
abbrev pub is_open : Shape → Bool
is_open (fields fs) = true
is_open (tagged tag vs) = true
is_open _ = false

-- no two fields have a name in common
abbrev pub are_distinct : Fields → Bool
are_distinct no_fields = true
are_distinct (field name r s fs) = not (has_name name (field_names fs)) && are_distinct fs
are_distinct (flat s fs) = is_open s && are_apart (names s) (field_names fs) && are_distinct fs
are_distinct (supported name s fs) = is_open s && not (has_name name (field_names fs)) && are_distinct fs
are_distinct (again name r c fs) = not (has_name name (field_names fs)) && are_distinct fs

-- the fields of a record that holds itself, where the record that is held has that shape
abbrev pub unrolled : Shape → Fields → Fields
unrolled s no_fields = no_fields
unrolled s (field name r t fs) = field name r t (unrolled s fs)
unrolled s (flat t fs) = flat t (unrolled s fs)
unrolled s (supported name t fs) = supported name t (unrolled s fs)
unrolled s (again name r one fs) = field name r s (unrolled s fs)
unrolled s (again name r many fs) = field name r (list_of (λ n. true) s) (unrolled s fs)

-- ---- words

abbrev pub any_length : ℕ → Bool
any_length n = true

abbrev pub every_text : List ℕ → Bool
every_text s = true

-- a text that is one of these
abbrev pub is_one_of : List (List ℕ) → List ℕ → Bool
is_one_of [] s = false
is_one_of (t ∷ ts) s = bytes_eq s t || is_one_of ts s

abbrev pub u8_shape : Shape
u8_shape = integer (pos 0) (pos (2 ^ 8 - 1))

abbrev pub u32_shape : Shape
u32_shape = integer (pos 0) (pos (2 ^ 32 - 1))

abbrev pub i32_shape : Shape
i32_shape = integer (negsuc (2 ^ 31 - 1)) (pos (2 ^ 31 - 1))

abbrev pub i64_shape : Shape
i64_shape = integer (negsuc (2 ^ 63 - 1)) (pos (2 ^ 63 - 1))

abbrev pub string_shape : Shape
string_shape = text every_text

abbrev pub list : Shape → Shape
list s = list_of any_length s

-- two numbers
abbrev pub pair : Shape
pair = list_of (λ n. n == 2) u32_shape

-- numbers, five for a token
abbrev pub tokens : Shape
tokens = list_of (λ n. n % 5 == 0) u32_shape

-- any members
abbrev pub object_shape : Shape
object_shape = map_of every_text any
