-- What the steps of reading and of writing change.
use Rattle.std.specs.Prelude.{◌≡◌, ◌≢◌, ◌≤◌, ◌++◌, ℕ, List, Option, Some, None, option_map, String, string_bytes}
use Rattle.std.specs.BTreeMap.{BTreeMap}
use Rattle.std.specs.declared.alloc.Global.{Global}
use Rattle.serde_json.specs.Data.{Data, Members, member}
use Rattle.serde_json.specs.Find.{get_member}
use Rattle.serde_json.specs.View.{view, members_view}
use Rattle.serde_json.specs.declared.value.Value.{Value}

-- the members of an object that is taken apart
abbrev pub members_shown : BTreeMap (String Global) Value → Members
members_shown m = members_view m.entries

-- what the object has under the name
abbrev pub IsMember : List ℕ → BTreeMap (String Global) Value → Option Value → Type 0
IsMember name m o = option_map view o ≡ get_member name (members_shown m)

-- every other name finds what it found
abbrev pub SameOthers : List ℕ → BTreeMap (String Global) Value → BTreeMap (String Global) Value → Type 0
SameOthers name old new =
    (other : List ℕ) → other ≢ name → get_member other (members_shown new) ≡ get_member other (members_shown old)

-- ---- members taken in one pass

-- the first value stays
abbrev pub kept : Option Data → Data → Option Data
kept (Some e) d = Some e
kept None d = Some d

-- the first value of that name, kept already or still among the rest
abbrev pub first_member : List ℕ → Option Data → Members → Option Data
first_member key (Some d) rest = Some d
first_member key None rest = get_member key rest

-- what is kept under the key takes the place of this member
abbrev pub KeepsMember : List ℕ → List ℕ → Data → Option Data → Option Data → Type 0
KeepsMember key name d old new = (rest : Members) → first_member key new rest ≡ first_member key old (member name d rest)

abbrev pub KeepsValue : List ℕ → List ℕ → Value → Option Value → Option Value → Type 0
KeepsValue key name v old new = KeepsMember key name (view v) (option_map view old) (option_map view new)

-- ---- texts written piece by piece

-- the new text is the old one and this after it
abbrev pub Appends : String Global → String Global → List ℕ → Type 0
Appends old new piece = string_bytes new ≡ string_bytes old ++ piece

-- a byte that stands in a JSON string as it is
abbrev pub IsPlain : ℕ → Type 0
IsPlain b = (32 ≤ b) × (b ≢ 34) × (b ≢ 92)
