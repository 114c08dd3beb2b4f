-- Why a value does not fit a shape: where in it something else is wanted, and what.
use Rattle.std.specs.Prelude.{◌≡◌, ◌⊎◌, ◌≤◌, ℕ, zero, suc, List, [], ◌∷◌, ◌++◌, length, take, Bool, true, false, Option, Some, None, option_map, option_and_then, is_some, bytes_eq, if◌then◌else◌, Result, Ok, Err}
use Rattle.serde_json.specs.Data.{Data, null, boolean, number, string, array, object, Members, no_members, member}
use Rattle.serde_json.specs.Find.{get, get_member, get_item, at, as_null, as_bool, as_number, as_str, as_array, as_object}
use Rattle.lsp_shape.specs.Plain.{Plain}
use Rattle.lsp_shape.specs.Shape.{Rule, required, omitted, nullable, or_empty, or_false, unless_empty, unless_false, Shape, nil, truth, integer, bits, text, list_of, map_of, fields, fields_and, recursive, union, tagged, Fields, no_fields, field, flat, supported, again, field_names}
use Rattle.lsp_shape.specs.Read.{read}
use Rattle.lsp_shape.specs.declared.why.MemberName.{MemberName}
use Rattle.lsp_shape.specs.declared.why.Misfit.{Misfit}
use Rattle.lsp_shape.specs.declared.why.Misfit.TheVariants as misfits
use Rattle.lsp_shape.specs.declared.why.Wanted.{Wanted}
use Rattle.lsp_shape.specs.declared.why.Wanted.TheVariants as wants
use Rattle.lsp_shape.specs.declared.why.Why.{Why}

-- ---- a place in a value

-- a step down: to the member of that name, or to the item of that number, from 0
pub data Downward : Type 0 where
  to_member : List ℕ → Downward
  to_item : ℕ → Downward

abbrev pub below : Downward → Data → Option Data
below (to_member name) d = get name d
below (to_item n) d = at n d

-- what stands there
abbrev pub found_at : List Downward → Data → Option Data
found_at [] d = Some d
found_at (s ∷ path) d = option_and_then (found_at path) (below s d)

-- the name of the member of that number, from 0
abbrev pub name_at : ℕ → Members → Option (List ℕ)
name_at n no_members = None
name_at zero (member k d ms) = Some k
name_at (suc n) (member k d ms) = name_at n ms

abbrev pub with_name : List ℕ → Data → List ℕ × Data
with_name name d = (name, d)

-- the member of that number, with its name
abbrev pub member_at : ℕ → Members → Option (List ℕ × Data)
member_at n ms = option_and_then (λ name. option_map (with_name name) (get_member name ms)) (name_at n ms)

-- to the member or the item of that number
abbrev pub nth_step : ℕ → Data → Option Downward
nth_step n null = None
nth_step n (boolean b) = None
nth_step n (number x) = None
nth_step n (string s) = None
nth_step n (array ds) = Some (to_item n)
nth_step n (object ms) = option_map to_member (name_at n ms)

abbrev pub with_step : Downward → Data → Downward × Data
with_step s d = (s, d)

-- the step to the member or the item of that number, with what stands there
abbrev pub step_to : ℕ → Data → Option (Downward × Data)
step_to n d = option_and_then (λ s. option_map (with_step s) (below s d)) (nth_step n d)

abbrev pub step_before : Downward → Option (List Downward) → List Downward
step_before s None = []
step_before s (Some path) = s ∷ path

abbrev pub and_further : Option Downward → (Data → List Downward) → Data → List Downward
and_further None f d = []
and_further (Some s) f d = step_before s (option_map f (below s d))

-- the path by the number of each member or item in the one that holds it, as far as it leads
abbrev pub path_by : List ℕ → Data → List Downward
path_by [] = λ d. []
path_by (n ∷ ns) = λ d. and_further (nth_step n d) (path_by ns) d

-- ---- what is wanted

-- the text of a name
abbrev pub name_text : MemberName → List ℕ
name_text n = take n.len n.bytes

-- the value is of the kind that the word says
abbrev pub is_kind : Wanted → Data → Bool
is_kind wants.Null d = is_some (as_null d)
is_kind wants.Boolean d = is_some (as_bool d)
is_kind wants.Unsigned d = is_some (as_number d)
is_kind wants.Integer d = is_some (as_number d)
is_kind wants.Text d = is_some (as_str d)
is_kind wants.Name d = is_some (as_str d)
is_kind wants.Uri d = is_some (as_str d)
is_kind wants.List d = is_some (as_array d)
is_kind wants.Length d = is_some (as_array d)
is_kind wants.Object d = is_some (as_object d)
is_kind wants.Keys d = is_some (as_object d)
is_kind (wants.Member name) d = is_some (get (name_text name) d)
is_kind wants.Form d = true
is_kind wants.Inside d = true

-- the word says all that is wanted
abbrev pub is_all : Wanted → Bool
is_all wants.Null = true
is_all wants.Boolean = true
is_all wants.Text = true
is_all wants.List = true
is_all wants.Object = true
is_all (wants.Member name) = true
is_all _ = false

-- The word of a member of that name. Of a name that is too long to be told, that other names are wanted.
abbrev pub IsForMember : List ℕ → Wanted → Type 0
IsForMember name (wants.Member n) = name_text n ≡ name
IsForMember name wants.Keys = Unit {0}
IsForMember name _ = ⊥

-- what may stand where a member is left out
abbrev pub is_left_out : Data → Bool
is_left_out null = true
is_left_out (boolean b) = true
is_left_out _ = false

-- it has more items or members than a step can tell apart
abbrev pub is_long : Data → Bool
is_long (array ds) = is_some (get_item 65536 ds)
is_long (object ms) = is_some (name_at 65536 ms)
is_long _ = false

-- At the path something stands that is wanted otherwise: no value that is read has it there, and each that is read and has
-- something there has what is of the wanted kind, or null, true or false. Where the word says all that is wanted, what stands there
-- is not of that kind. That only something inside does not fit is said where no further step can be told.
pub record IsReason (f : Data → Option Plain) (d : Data) (path : List Downward) (w : Wanted) : Type 0 where
  pub found : Data
  pub there : found_at path d ≡ Some found
  pub other : is_all w ≡ true → is_kind w found ≡ false
  pub alone : (e : Data) → found_at path e ≡ Some found → f e ≡ None
  pub needed : (e x : Data) → found_at path e ≡ Some x → is_kind w x ≡ false → is_left_out x ≡ false → f e ≡ None
  pub far : w ≡ wants.Inside → (8 ≤ length path) ⊎ (is_long found ≡ true)

-- ---- a misfit

abbrev pub steps_of : Why → List ℕ
steps_of why = take why.depth why.steps

-- it is told why the value is not read, by steps that all lead on
pub record Fails (f : Data → Option Plain) (d : Data) (why : Why) : Type 0 where
  pub reason : IsReason f d (path_by (steps_of why) d) why.wanted
  pub led : length (path_by (steps_of why) d) ≡ length (steps_of why)

-- it is told why the value does not fit the shape
pub record Refuses (s : Shape) (d : Data) (why : Why) : Type 0 where
  pub fails : Fails (read s) d why

-- what is told where the result is `Unfit`
abbrev pub IfUnfit : {A : Type 0} → Result A Misfit → (Why → Type 0) → Type 0
IfUnfit r P = (why : Why) → r ≡ Err (misfits.Unfit why) → P why

abbrev pub IsUnfitted : Misfit → Type 0
IsUnfitted (misfits.Unfit why) = Unit {0}
IsUnfitted misfits.NoMemory = ⊥

abbrev pub IsUnfit : {A : Type 0} → Result A Misfit → Type 0
IsUnfit (Ok x) = ⊥
IsUnfit (Err m) = IsUnfitted m

-- that is wanted of the value as a whole
abbrev pub IsWhole : Wanted → Why → Type 0
IsWhole w why = (steps_of why ≡ []) × (why.wanted ≡ w)

-- The reason with one step before it. Past eight steps the last are lost, and what is said is that something inside does not fit.
abbrev pub IsUnder : ℕ → Why → Why → Type 0
IsUnder n old new = ((steps_of new ≡ n ∷ steps_of old) × (new.wanted ≡ old.wanted))
    ⊎ ((lost : List ℕ) × (steps_of new ++ lost ≡ n ∷ steps_of old) × (new.wanted ≡ wants.Inside) × (8 ≤ length (steps_of new)))

-- the reason of the item of that number, as one of the list; past 65,536 items it is not told which
abbrev pub IsInItem : ℕ → Why → Why → Type 0
IsInItem n old new = ((65536 ≤ n) × IsWhole wants.Inside new) ⊎ IsUnder n old new

-- the reason of the member of that name, if there is one, as one of the object
abbrev pub IsInMember : List ℕ → Members → Why → Why → Type 0
IsInMember name ms old new = (get_member name ms ≡ None) ⊎ ((n : ℕ) × (name_at n ms ≡ Some name) × IsInItem n old new)

-- the reason of an object, whose member of that name was not read
pub record IsOfMember {A : Type 0} (name : List ℕ) (ms : Members) (member : Result A Misfit) (why : Why) : Type 0 where
  pub inner : Why
  pub was : member ≡ Err (misfits.Unfit inner)
  pub inside : IsInMember name ms inner why

-- the reason of a list, whose item of that number was not read
pub record IsOfItem {A : Type 0} (n : ℕ) (item : Result A Misfit) (why : Why) : Type 0 where
  pub inner : Why
  pub was : item ≡ Err (misfits.Unfit inner)
  pub inside : IsInItem n inner why

-- ---- the reason of a field is that of a record

abbrev pub one_field : List ℕ → Rule → Shape → Shape
one_field name r s = fields (field name r s no_fields)

abbrev pub one_supported : List ℕ → Shape → Shape
one_supported name s = fields (supported name s no_fields)

-- the fields of a record
abbrev pub fields_of : Shape → Fields
fields_of (fields fs) = fs
fields_of (fields_and s fs) = fs
fields_of _ = no_fields

-- the rule that reads the same, where they differ in what is written
abbrev pub read_rule : Rule → Rule
read_rule required = required
read_rule omitted = omitted
read_rule nullable = omitted
read_rule or_empty = or_empty
read_rule or_false = or_false
read_rule unless_empty = or_empty
read_rule unless_false = or_false

-- what the first field of that name is, with the rule that it is read by
abbrev pub named_field : List ℕ → Fields → Option (Rule × Shape)
named_field name no_fields = None
named_field name (field k r s fs) = if bytes_eq name k then Some (read_rule r, s) else named_field name fs
named_field name (flat s fs) = named_field name fs
named_field name (supported k s fs) = named_field name fs
named_field name (again k r c fs) = named_field name fs

abbrev pub named_supported : List ℕ → Fields → Option Shape
named_supported name no_fields = None
named_supported name (field k r s fs) = named_supported name fs
named_supported name (flat s fs) = named_supported name fs
named_supported name (supported k s fs) = if bytes_eq name k then Some s else named_supported name fs
named_supported name (again k r c fs) = named_supported name fs

-- members of that shape stand among the others
abbrev pub HasFlat : Shape → Fields → Type 0
HasFlat s no_fields = ⊥
HasFlat s (field k r t fs) = HasFlat s fs
HasFlat s (flat t fs) = (s ≡ t) ⊎ HasFlat s fs
HasFlat s (supported k t fs) = HasFlat s fs
HasFlat s (again k r c fs) = HasFlat s fs

-- a record, whose other members are a map to that shape
abbrev pub IsMapBeside : Shape → List (List ℕ) → Shape → Type 0
IsMapBeside s names (fields_and t fs) = (s ≡ t) × (field_names fs ≡ names)
IsMapBeside s names _ = ⊥

-- the reason of one of these fields
abbrev pub AnyRefuses : Fields → Data → Why → Type 0
AnyRefuses no_fields d why = ⊥
AnyRefuses (field name r s fs) d why = Refuses (one_field name r s) d why ⊎ AnyRefuses fs d why
AnyRefuses (flat s fs) d why = Refuses s d why ⊎ AnyRefuses fs d why
AnyRefuses (supported name s fs) d why = Refuses (one_supported name s) d why ⊎ AnyRefuses fs d why
AnyRefuses (again name r c fs) d why = AnyRefuses fs d why

-- ---- the reason of a value as a whole

-- the words that may be said of it, where it does not fit the shape
abbrev pub suits : Shape → Wanted → Bool
suits nil wants.Null = true
suits truth wants.Boolean = true
suits (integer low high) wants.Unsigned = true
suits (integer low high) wants.Integer = true
suits (bits high) wants.Unsigned = true
suits (text test) wants.Text = true
suits (text test) wants.Name = true
suits (text test) wants.Uri = true
suits (list_of test s) wants.List = true
suits (list_of test s) wants.Length = true
suits (map_of test s) wants.Object = true
suits (map_of test s) wants.Keys = true
suits (fields fs) wants.Object = true
suits (fields_and s fs) wants.Object = true
suits (recursive fs) wants.Object = true
suits (union ss) wants.Form = true
suits (tagged name vs) wants.Form = true
suits _ _ = false

-- The word suits the shape, and the value does not fit it: where the word says all that is wanted, it is not of that kind.
abbrev pub Lacks : Shape → Data → Wanted → Type 0
Lacks s d w = (suits s w ≡ true) × (is_all w ≡ true → is_kind w d ≡ false) × (read s d ≡ None)
