-- Items and members, read one after another.
use Rattle.std.proofs.Common.{◌≡◌, ◌<◌, ◌≤◌, ◌-◌, ℕ, zero, suc, Bool, List, [], ◌∷◌, ◌++◌, length, Option, Some, None, refl, ap, ◌∙◌, arith}
use Rattle.std.specs.Option.{option_map, option_and_then}
use Rattle.json.specs.Token.{Token}
use Rattle.json.specs.Json as json
use Rattle.json.specs.Json.{Json, Parse, parse_map, after_end_array, read_key, items, members, value, if_last}
use Rattle.json.proofs.Grammar.{value_is, value-begin_array, value-begin_object, after_end_array-shorter, read_key-shorter}
use Rattle.serde_json.specs.Data.{Data, null, boolean, number, string, array, object, Items, no_items, item, Members, no_members, put}
use Rattle.serde_json.specs.Read.{number_of, converted}
use Rattle.lsp_text.specs.Floats.{number_by, of_json_by, of_items_by, of_members_by}
use Rattle.lsp_text.specs.declared.floats.Floats.{Floats}
use Rattle.serde_json.specs.View.{view, items_view}
use Rattle.serde_json.specs.declared.value.Value.{Value}

-- what is left after it
abbrev with_rest : {A : Type 0} → List Token → Option A → Option (A × List Token)
with_rest {A = A} s o = option_map {U = A × List Token} (λ a. (a, s)) o

abbrev pub some_with : {A : Type 0} → A → List Token → Option (A × List Token)
some_with a s = Some (a, s)

same_inside : {T : Type 0} (x y : T) → Some x ≡ Some y → x ≡ y
same_inside x y e = cc

map_rest : {A B : Type 0} (f : A → B) (o : Option A) (s : List Token) → with_rest s (option_map f o) ≡ parse_map f (with_rest s o)
map_rest f None s = refl
map_rest f (Some a) s = refl

-- the items, with these values before them
abbrev pub after_values : List Value → Items → Items
after_values [] ds = ds
after_values (v ∷ vs) ds = item (view v) (after_values vs ds)

after_values-push : (vs : List Value) (v : Value) (ds : Items) → after_values vs (item (view v) ds) ≡ after_values (vs ++ v ∷ []) ds
after_values-push [] v ds = refl
after_values-push (x ∷ vs) v ds = ap (item (view x)) (after_values-push vs v ds)

after_values-end : (vs : List Value) → after_values vs no_items ≡ items_view vs
after_values-end [] = refl
after_values-end (v ∷ vs) = ap (item (view v)) (after_values-end vs)

pushed : (vs : List Value) (v : Value) (o : Option (Items × List Token)) → parse_map (after_values vs) (parse_map (item (view v)) o) ≡ parse_map (after_values (vs ++ v ∷ [])) o
pushed vs v None = refl
pushed vs v (Some p) = ap (λ ds. some_with ds p.1) (after_values-push vs v p.0)

module _ (floats : Floats) where
  a_value : (j : Json) (s : List Token) (o : Option Data) (d : Data) (r : List Token) → of_json_by floats j ≡ o → with_rest s o ≡ Some (d, r)
      → (k : Json) × (some_with j s ≡ some_with k r) × (of_json_by floats k ≡ Some d)
  a_value j s None d r is e = absurd (cc)
  a_value j s (Some b) d r is e =
      let same = same_inside {T = Data × List Token} (b, s) (d, r) e in
      (j, ap (λ (p : Data × List Token). some_with j p.1) same, is ∙ ap (λ (p : Data × List Token). Some p.0) same)

  -- a value that was read is one that the grammar reads, and that the numbers allow
  found : (o : Option (Json × List Token)) (d : Data) (r : List Token) → converted (of_json_by floats) o ≡ Some (d, r) → (j : Json) × (o ≡ Some (j, r)) × (of_json_by floats j ≡ Some d)
  found None d r e = absurd (cc)
  found (Some p) d r e = a_value p.0 p.1 (of_json_by floats p.0) d r refl e

  -- ---- single tokens

  pub null_read : (depth : ℕ) (rest : List Token) → converted (of_json_by floats) (value depth (Token.null ∷ rest)) ≡ Some (null, rest)
  null_read depth rest = ap (converted (of_json_by floats)) (value_is depth (Token.null ∷ rest))

  pub boolean_read : (b : Bool) (depth : ℕ) (rest : List Token) → converted (of_json_by floats) (value depth (Token.boolean b ∷ rest)) ≡ Some (boolean b, rest)
  boolean_read b depth rest = ap (converted (of_json_by floats)) (value_is depth (Token.boolean b ∷ rest))

  pub string_read : (s : List ℕ) (depth : ℕ) (rest : List Token) → converted (of_json_by floats) (value depth (Token.string s ∷ rest)) ≡ Some (string s, rest)
  string_read s depth rest = ap (converted (of_json_by floats)) (value_is depth (Token.string s ∷ rest))

  pub number_read : (s : List ℕ) (d : Data) → option_map (number_by floats) (number_of s) ≡ Some d → (depth : ℕ) (rest : List Token) → converted (of_json_by floats) (value depth (Token.number s ∷ rest)) ≡ Some (d, rest)
  number_read s d is depth rest = ap (converted (of_json_by floats)) (value_is depth (Token.number s ∷ rest)) ∙ ap (with_rest rest) is

  -- ---- arrays

  with_item : (j : Json) (d : Data) (o : Option (json.Items × List Token)) → of_json_by floats j ≡ Some d → converted (of_items_by floats) (parse_map (json.item j) o) ≡ parse_map (item d) (converted (of_items_by floats) o)
  with_item j d None is = refl
  with_item j d (Some p) is = rw is (map_rest (item d) (of_items_by floats p.0) p.1)

  item_step : (p : Parse Json) (more : Parse json.Items) (d : Data) (ts r : List Token) → converted (of_json_by floats) (p ts) ≡ Some (d, r)
      → converted (of_items_by floats) (option_and_then (λ q. parse_map (json.item q.0) (more q.1)) (p ts)) ≡ parse_map (item d) (converted (of_items_by floats) (more r))
  item_step p more d ts r e =
      let one = found (p ts) d r e in
      rw one.1 (with_item one.0 d (more r) one.2)

  one_more : (p : Parse Json) (n : ℕ) (d : Data) (ts r : List Token) → 0 < n → after_end_array ts ≡ None → converted (of_json_by floats) (p ts) ≡ Some (d, r)
      → converted (of_items_by floats) (items p n ts) ≡ parse_map (item d) (converted (of_items_by floats) (items p (n - 1) r))
  unfolding items
  one_more p zero d ts r some unclosed e = absurd (omega arith)
  one_more p (suc n) d ts r some unclosed e =
      let step : n ≡ suc n - 1 = omega arith in
      rw unclosed (item_step p (items p n) d ts r e) ∙ ap (λ m. parse_map (item d) (converted (of_items_by floats) (items p m r))) step

  none_more : (p : Parse Json) (n : ℕ) (ts r : List Token) → 0 < n → after_end_array ts ≡ Some r → converted (of_items_by floats) (items p n ts) ≡ Some (no_items, r)
  unfolding items
  none_more p zero ts r some e = absurd (omega arith)
  none_more p (suc n) ts r some e = rw e refl

  -- a value more of an array
  pub item_read : (p : Parse Json) (vs : List Value) (v : Value) (n : ℕ) (ts r : List Token) → 0 < n → after_end_array ts ≡ None → converted (of_json_by floats) (p ts) ≡ Some (view v, r)
      → parse_map (after_values vs) (converted (of_items_by floats) (items p n ts)) ≡ parse_map (after_values (vs ++ v ∷ [])) (converted (of_items_by floats) (items p (n - 1) r))
  item_read p vs v n ts r some unclosed e = ap (parse_map (after_values vs)) (one_more p n (view v) ts r some unclosed e) ∙ pushed vs v _

  -- the end of an array
  pub items_over : (p : Parse Json) (vs : List Value) (n : ℕ) (ts r : List Token) → length ts ≤ n → after_end_array ts ≡ Some r
      → parse_map (after_values vs) (converted (of_items_by floats) (items p n ts)) ≡ Some (items_view vs, r)
  items_over p vs n ts r within e =
      let less = after_end_array-shorter ts r e in
      ap (parse_map (after_values vs)) (none_more p n ts r (omega arith) e) ∙ ap (λ ds. some_with ds r) (after_values-end vs)

  array_of : (o : Option (json.Items × List Token)) → converted (of_json_by floats) (parse_map json.array o) ≡ parse_map array (converted (of_items_by floats) o)
  array_of None = refl
  array_of (Some p) = map_rest array (of_items_by floats p.0) p.1

  -- an array is its items
  pub array_read : (depth : ℕ) (ts r : List Token) (ds : Items) → 0 < depth → converted (of_items_by floats) (items (value (depth - 1)) (length ts) ts) ≡ Some (ds, r)
      → converted (of_json_by floats) (value depth (Token.begin_array ∷ ts)) ≡ Some (array ds, r)
  array_read depth ts r ds some e =
      ap (converted (of_json_by floats)) (value-begin_array depth ts some) ∙ array_of (items (value (depth - 1)) (length ts) ts) ∙ ap (parse_map array) e

  -- ---- objects

  -- the members, put after these
  abbrev pub members_after : Members → json.Members → Option Members
  members_after ms js = of_members_by floats js ms

  with_member : (k : List ℕ) (j : Json) (d : Data) (ms : Members) (o : Option (json.Members × List Token)) → of_json_by floats j ≡ Some d
      → converted (members_after ms) (parse_map (json.member k j) o) ≡ converted (members_after (put k d ms)) o
  with_member k j d ms None is = refl
  with_member k j d ms (Some p) is = rw is refl

  member_step : (p : Parse Json) (more : Parse json.Members) (k : List ℕ) (d : Data) (ms : Members) (ts r : List Token) → converted (of_json_by floats) (p ts) ≡ Some (d, r)
      → converted (members_after ms) (option_and_then (λ q. parse_map (json.member k q.0) (more q.1)) (p ts)) ≡ converted (members_after (put k d ms)) (more r)
  member_step p more k d ms ts r e =
      let one = found (p ts) d r e in
      rw one.1 (with_member k one.0 d ms (more r) one.2)

  -- a member more of an object
  pub member_read : (p : Parse Json) (ms : Members) (n : ℕ) (k : List ℕ) (ts s r : List Token) (d : Data) → 0 < n → read_key ts ≡ Some (Some k, s) → converted (of_json_by floats) (p s) ≡ Some (d, r)
      → converted (members_after ms) (members p n ts) ≡ converted (members_after (put k d ms)) (members p (n - 1) r)
  unfolding members
  member_read p ms zero k ts s r d some named e = absurd (omega arith)
  member_read p ms (suc n) k ts s r d some named e =
      let step : n ≡ suc n - 1 = omega arith in
      rw named (member_step p (members p n) k d ms s r e) ∙ ap (λ m. converted (members_after (put k d ms)) (members p m r)) step

  -- the end of an object
  pub members_over : (p : Parse Json) (ms : Members) (n : ℕ) (ts r : List Token) → length ts ≤ n → read_key ts ≡ Some (None, r)
      → converted (members_after ms) (members p n ts) ≡ Some (ms, r)
  unfolding members
  members_over p ms zero ts r within e =
      let less = read_key-shorter ts None r e in
      absurd (omega arith)
  members_over p ms (suc n) ts r within e = rw e refl

  object_of : (o : Option (json.Members × List Token)) → converted (of_json_by floats) (parse_map json.object o) ≡ parse_map object (converted (members_after no_members) o)
  object_of None = refl
  object_of (Some p) = map_rest object (of_members_by floats p.0 no_members) p.1

  -- an object is its members
  pub object_read : (depth : ℕ) (ts r : List Token) (ms : Members) → 0 < depth → converted (members_after no_members) (members (value (depth - 1)) (length ts) ts) ≡ Some (ms, r)
      → converted (of_json_by floats) (value depth (Token.begin_object ∷ ts)) ≡ Some (object ms, r)
  object_read depth ts r ms some e =
      ap (converted (of_json_by floats)) (value-begin_object depth ts some) ∙ object_of (members (value (depth - 1)) (length ts) ts) ∙ ap (parse_map object) e

  -- ---- a text

  -- a text is the value that all of its tokens are
  pub whole_read : (o : Option (Json × List Token)) (d : Data) → converted (of_json_by floats) o ≡ Some (d, []) → option_and_then (of_json_by floats) (option_and_then (λ p. if_last p.0 p.1) o) ≡ Some d
  whole_read o d e =
      let one = found o d [] e in
      rw one.1 one.2
