-- What a value of a type is, as plain data.
use Rattle.std.specs.Prelude.{ℕ, suc, ◌+◌, List, [], ◌∷◌, Bool, false, ◌||◌, Option, Some, None}
use Rattle.std.specs.declared.cmp.Ordering.{Ordering}
use Rattle.std.specs.declared.cmp.Ordering.TheVariants.{Greater}
use Rattle.std.specs.Ordering.{nat_cmp, match_ordering}
use Rattle.std.specs.Cmp.Lexicographic.{slice_cmp}
use Rattle.serde_json.specs.Data.{Data}
use Rattle.serde_json.specs.Written.{has_float}

mutual
  pub data Plain : Type 0 where
    -- a value that is kept as it is
    leaf : Data → Plain
    -- what is not there
    absent : Plain
    -- what may be absent, and is there
    present : Plain → Plain
    -- the fields of a record, the items of a list or the entries of a map, in order
    parts : Parts → Plain
    -- a key of a map, with its value
    entry : List ℕ → Plain → Plain
    -- the variant of that number, from 0
    choice : ℕ → Plain → Plain

  pub data Parts : Type 0 where
    no_parts : Parts
    part : Plain → Parts → Parts

abbrev pub parts_of : List Plain → Parts
parts_of [] = no_parts
parts_of (p ∷ ps) = part p (parts_of ps)

abbrev pub maybe_of : Option Plain → Plain
maybe_of None = absent
maybe_of (Some p) = present p

-- how deep plain data nests
abbrev mutual
  pub plain_depth : Plain → ℕ
  plain_depth (present p) = suc (plain_depth p)
  plain_depth (parts ps) = suc (parts_depth ps)
  plain_depth (entry k p) = suc (plain_depth p)
  plain_depth (choice n p) = suc (plain_depth p)
  plain_depth _ = 0

  pub parts_depth : Parts → ℕ
  parts_depth no_parts = 0
  parts_depth (part p ps) = plain_depth p + parts_depth ps

-- whether plain data holds a float
abbrev mutual
  pub plain_has_float : Plain → Bool
  plain_has_float (leaf d) = has_float d
  plain_has_float absent = false
  plain_has_float (present p) = plain_has_float p
  plain_has_float (parts ps) = parts_have_float ps
  plain_has_float (entry k p) = plain_has_float p
  plain_has_float (choice n p) = plain_has_float p

  pub parts_have_float : Parts → Bool
  parts_have_float no_parts = false
  parts_have_float (part p ps) = plain_has_float p || parts_have_float ps

-- ---- the entries of a map, in the order of their keys

-- where the key stands to that of the entry
abbrev pub order_of : List ℕ → Plain → Ordering
order_of k (entry l p) = slice_cmp nat_cmp k l
order_of k _ = Greater

-- the entry with that value
abbrev pub with_value : Plain → Plain → Plain
with_value (leaf d) q = leaf d
with_value absent q = absent
with_value (present p) q = present p
with_value (parts ps) q = parts ps
with_value (entry k p) q = entry k q
with_value (choice n p) q = choice n p

-- the entries, with p at k
abbrev pub put_entry : List ℕ → Plain → Parts → Parts
put_entry k p no_parts = part (entry k p) no_parts
put_entry k p (part q ps) = match_ordering (order_of k q) (part (entry k p) (part q ps)) (part (with_value q p) ps) (part q (put_entry k p ps))

-- the entries of a list of keys and values, where the key is shown as a text and the value as plain data
abbrev pub entries_of : {K X : Type 0} → (K → List ℕ) → (X → Plain) → List (K × X) → Parts
entries_of text show [] = no_parts
entries_of text show (e ∷ es) = put_entry (text e.0) (show e.1) (entries_of text show es)
