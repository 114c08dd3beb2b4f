-- The row of a type, with what a value of it is as plain data. A record has a line for each field: the name of its member,
-- the rule, the row of the member, and the field of the value that it is.
use Prim.Native.String.{String as Name}
use Rattle.std.specs.Prelude.{ℕ, ℤ, List, Bool, Option, Vec, String, codes, string_bytes}
use Rattle.std.specs.declared.alloc.Global.{Global}
use Rattle.std.specs.BTreeMap.{BTreeMap}
use Rattle.std.specs.HashMap.{HashMap}
use Rattle.serde_json.specs.Data.{string as string_data}
use Rattle.serde_json.specs.declared.value.Value.{Value}
use Rattle.lsp_shape.specs.Plain.{Plain, leaf, Parts, parts, part, no_parts}
use Rattle.lsp_shape.specs.Shape.{Shape, Shapes, no_shapes, Variants, no_variants, u8_shape, u32_shape, i32_shape, i64_shape, string_shape, object_shape, is_one_of, every_text}
use Rattle.lsp_shape.specs.Shape as shape
use Rattle.lsp_shape.specs.Shown.{show_bool, show_pair, show_unsigned, show_signed, show_string, show_value, show_option, show_list, show_map, show_object}

abbrev pub Row : Type 0 → Type 0
Row A = record { shape : Shape; shown : A → Plain }

abbrev pub row_of : {A : Type 0} → Shape → (A → Plain) → Row A
row_of s f = record { shape = s; shown = f }

-- ---- the types of std and of serde_json

abbrev pub truth : Row Bool
truth = record { shape = shape.truth; shown = show_bool }

abbrev pub u8 : Row ℕ
u8 = record { shape = u8_shape; shown = show_unsigned }

abbrev pub u32 : Row ℕ
u32 = record { shape = u32_shape; shown = show_unsigned }

-- the number kinds too
abbrev pub i32 : Row ℤ
i32 = record { shape = i32_shape; shown = show_signed }

abbrev pub i64 : Row ℤ
i64 = record { shape = i64_shape; shown = show_signed }

abbrev pub string : Row (String Global)
string = record { shape = string_shape; shown = show_string }

abbrev pub any : Row Value
any = record { shape = shape.any; shown = show_value }

abbrev pub object : Row (BTreeMap (String Global) Value)
object = record { shape = object_shape; shown = show_object }

-- two numbers
abbrev pub pair : Row (List ℕ)
pair = record { shape = shape.pair; shown = show_pair }

-- null, or that
abbrev pub maybe : {A : Type 0} → Row A → Row (Option A)
maybe r = record { shape = shape.maybe r.shape; shown = show_option r.shown }

abbrev pub list : {A : Type 0} → Row A → Row (Vec A Global)
list r = record { shape = shape.list r.shape; shown = show_list r.shown }

-- which texts are keys, and the text of a key
abbrev pub Keys : Type 0 → Type 0
Keys K = record { is_key : List ℕ → Bool; key_text : K → List ℕ }

abbrev pub texts : Keys (String Global)
texts = record { is_key = every_text; key_text = string_bytes }

abbrev pub map_of : {K A S : Type 0} → Keys K → Row A → Row (HashMap K A S)
map_of k r = record { shape = shape.map_of k.is_key r.shape; shown = show_map k.key_text r.shown }

-- ---- records

-- fields of a record X: of its row, and of its plain data
abbrev pub Fields : Type 0 → Type 0
Fields X = record { row : shape.Fields → shape.Fields; shown : X → Parts → Parts }

infixr 5 ◌&◌
abbrev pub ◌&◌ : {X : Type 0} → Fields X → Fields X → Fields X
f & g = record { row = λ fs. f.row (g.row fs); shown = λ x ps. f.shown x (g.shown x ps) }

abbrev pub fields : {X : Type 0} → Fields X → Row X
fields f = record { shape = shape.fields (f.row shape.no_fields); shown = λ x. parts (f.shown x no_parts) }

-- a record, where the members that it does not name are a map
-- from texts to a type
abbrev pub fields_and : {X A S : Type 0} → Row A → (X → HashMap (String Global) A S) → Fields X → Row X
fields_and r get f = record { shape = shape.fields_and r.shape (f.row shape.no_fields); shown = λ x. parts (part (show_map string_bytes r.shown (get x)) (f.shown x no_parts)) }

abbrev pub no_fields : {X : Type 0} → Row X
no_fields = record { shape = shape.fields shape.no_fields; shown = λ x. parts no_parts }

-- a variant without data
abbrev pub nothing : Row (record {})
nothing = no_fields

-- the member has to be there
abbrev pub required : {X A : Type 0} → Name → Row A → (X → A) → Fields X
required name r get = record { row = shape.field (codes name) shape.required r.shape; shown = λ x. part (r.shown (get x)) }

-- missing or null reads as None, which is not written
abbrev pub omitted : {X A : Type 0} → Name → Row A → (X → Option A) → Fields X
omitted name r get = record { row = shape.field (codes name) shape.omitted r.shape; shown = λ x. part (show_option r.shown (get x)) }

-- missing or null reads as None, which is written as null
abbrev pub nullable : {X A : Type 0} → Name → Row A → (X → Option A) → Fields X
nullable name r get = record { row = shape.field (codes name) shape.nullable r.shape; shown = λ x. part (show_option r.shown (get x)) }

-- missing reads as an empty list
abbrev pub or_empty : {X A : Type 0} → Name → Row A → (X → Vec A Global) → Fields X
or_empty name r get = record { row = shape.field (codes name) shape.or_empty (shape.list r.shape); shown = λ x. part (show_list r.shown (get x)) }

-- the same, and an empty list is not written
abbrev pub unless_empty : {X A : Type 0} → Name → Row A → (X → Vec A Global) → Fields X
unless_empty name r get = record { row = shape.field (codes name) shape.unless_empty (shape.list r.shape); shown = λ x. part (show_list r.shown (get x)) }

-- missing reads as false
abbrev pub or_false : {X : Type 0} → Name → (X → Bool) → Fields X
or_false name get = record { row = shape.field (codes name) shape.or_false shape.truth; shown = λ x. part (show_bool (get x)) }

-- the same, and false is not written
abbrev pub unless_false : {X : Type 0} → Name → (X → Bool) → Fields X
unless_false name get = record { row = shape.field (codes name) shape.unless_false shape.truth; shown = λ x. part (show_bool (get x)) }

-- the members stand among the others
abbrev pub flat : {X A : Type 0} → Row A → (X → A) → Fields X
flat r get = record { row = shape.flat r.shape; shown = λ x. part (r.shown (get x)) }

-- as an omitted field, but false reads as None too, and true as `{"valueSet": []}` does
abbrev pub supported : {X A : Type 0} → Name → Row A → (X → Option A) → Fields X
supported name r get = record { row = shape.supported (codes name) r.shape; shown = λ x. part (show_option r.shown (get x)) }

-- ---- enums

-- a text that is one of these
abbrev pub names : {A : Type 0} → List (List ℕ) → (A → List ℕ) → Row A
names all name = record { shape = shape.text (is_one_of all); shown = λ x. leaf (string_data (name x)) }

-- the first variant that fits; the word says what a value is, by the number of its variant, from 0
abbrev pub union : {A : Type 0} → (Shapes → Shapes) → (A → Plain) → Row A
union all shown = record { shape = shape.union (all no_shapes); shown = shown }

abbrev pub variant : {A : Type 0} → Row A → Shapes → Shapes
variant r = shape.or_shape r.shape

-- the variant that the member of that name tells
abbrev pub tagged : {A : Type 0} → Name → (Variants → Variants) → (A → Plain) → Row A
tagged name all shown = record { shape = shape.tagged (codes name) (all no_variants); shown = shown }

abbrev pub tag : {A : Type 0} → Name → Row A → Variants → Variants
tag name r = shape.variant (codes name) r.shape

-- a variant, and after it the others
infixr 5 ◌or◌
abbrev pub ◌or◌ : {A : Type 0} → (A → A) → (A → A) → A → A
v or w = λ rest. v (w rest)
