-- What stands for floats holds none, and nothing else of a value changes.
use Rattle.std.proofs.Common.{◌≡◌, ℕ, zero, suc, ℤ, pos, negsuc, List, Bool, true, false, ◌||◌, cond, Option, Some, None, Ordering, Less, Equal, Greater, refl, sym, ap, ◌∙◌, true≢false}
use Rattle.std.specs.Int.{w64}
use Rattle.std.specs.Float.{float_to_unsigned, float_to_signed}
use Rattle.std.specs.Ordering.{nat_cmp, match_ordering}
use Rattle.std.specs.Option.{option_map, option_and_then}
use Rattle.std.specs.Cmp.Lexicographic.{slice_cmp}
use Rattle.json.specs.Json as json
use Rattle.json.specs.Json.{Json, if_last}
use Rattle.json.specs.Lex.{tokens}
use Rattle.serde_json.specs.Data.{Num, unsigned, negative, float, Data, null, boolean, number, string, array, object, Items, no_items, item, Members, no_members, member, put}
use Rattle.serde_json.specs.Find.{get, get_member, at, get_item, is_float, of_integer}
use Rattle.serde_json.specs.Read.{number_of, of_json, of_items, of_members, read}
use Rattle.serde_json.specs.Written.{has_float, items_have_float, members_have_float}
use Rattle.lsp_text.specs.Floats.{is_unsigned, is_signed, number_without_float, without_floats, items_without_floats, members_without_floats, read_by, number_by, of_json_by, of_items_by, of_members_by, OnlyFloatsGo}
use Rattle.lsp_text.specs.declared.floats.Floats.{Floats}
use Rattle.lsp_text.specs.declared.floats.Floats.TheVariants.{Refused, Read}
use Rattle.lsp_text.proofs.Clean.{neither}

-- ---- a number

integer_clean : (z : ℤ) → is_float (of_integer z) ≡ false
integer_clean (pos n) = refl
integer_clean (negsuc n) = refl

-- an integer without a sign, one with a sign, or null
abbrev pub chosen : Bool → Bool → ℕ → ℤ → Data
chosen a b n z = cond a (number (unsigned n)) (cond b (number (of_integer z)) null)

pub chosen_clean : (a b : Bool) (n : ℕ) (z : ℤ) → has_float (chosen a b n z) ≡ false
chosen_clean true b n z = refl
chosen_clean false true n z = integer_clean z
chosen_clean false false n z = refl

chosen_items : (a b : Bool) (n : ℕ) (z : ℤ) (i : ℕ) → at i (chosen a b n z) ≡ None
chosen_items true b n z i = refl
chosen_items false true n z i = refl
chosen_items false false n z i = refl

chosen_members : (a b : Bool) (n : ℕ) (z : ℤ) (k : List ℕ) → get k (chosen a b n z) ≡ None
chosen_members true b n z k = refl
chosen_members false true n z k = refl
chosen_members false false n z k = refl

number_clean : (n : Num) → has_float (number_without_float n) ≡ false
number_clean (unsigned n) = refl
number_clean (negative z) = refl
number_clean (float x) = chosen_clean (is_unsigned x) (is_signed x) (float_to_unsigned w64 x) (float_to_signed w64 x)

number_unchanged : (n : Num) → is_float n ≡ false → number_without_float n ≡ number n
number_unchanged (unsigned n) h = refl
number_unchanged (negative z) h = refl
number_unchanged (float x) h = absurd (true≢false h)

number_items : (n : Num) (i : ℕ) → at i (number_without_float n) ≡ None
number_items (unsigned n) i = refl
number_items (negative z) i = refl
number_items (float x) i = chosen_items (is_unsigned x) (is_signed x) (float_to_unsigned w64 x) (float_to_signed w64 x) i

number_members : (n : Num) (k : List ℕ) → get k (number_without_float n) ≡ None
number_members (unsigned n) k = refl
number_members (negative z) k = refl
number_members (float x) k = chosen_members (is_unsigned x) (is_signed x) (float_to_unsigned w64 x) (float_to_signed w64 x) k

-- ---- a value

both_clean : (a b : Bool) → a ≡ false → b ≡ false → (a || b) ≡ false
both_clean a b h k = ap (λ x. x || b) h ∙ k

mutual
  none_left : (d : Data) → has_float (without_floats d) ≡ false
  none_left null = refl
  none_left (boolean b) = refl
  none_left (number n) = number_clean n
  none_left (string s) = refl
  none_left (array ds) = items_none_left ds
  none_left (object ms) = members_none_left ms

  items_none_left : (ds : Items) → items_have_float (items_without_floats ds) ≡ false
  items_none_left no_items = refl
  items_none_left (item d ds) = both_clean _ _ (none_left d) (items_none_left ds)

  members_none_left : (ms : Members) → members_have_float (members_without_floats ms) ≡ false
  members_none_left no_members = refl
  members_none_left (member k d ms) = both_clean _ _ (none_left d) (members_none_left ms)

mutual
  pub unchanged : (d : Data) → has_float d ≡ false → without_floats d ≡ d
  unchanged null h = refl
  unchanged (boolean b) h = refl
  unchanged (number n) h = number_unchanged n h
  unchanged (string s) h = refl
  unchanged (array ds) h = ap array (items_unchanged ds h)
  unchanged (object ms) h = ap object (members_unchanged ms h)

  items_unchanged : (ds : Items) → items_have_float ds ≡ false → items_without_floats ds ≡ ds
  items_unchanged no_items h = refl
  items_unchanged (item d ds) h =
      let each = neither (has_float d) (items_have_float ds) h in
      ap (λ e. item e (items_without_floats ds)) (unchanged d each.0) ∙ ap (item d) (items_unchanged ds each.1)

  members_unchanged : (ms : Members) → members_have_float ms ≡ false → members_without_floats ms ≡ ms
  members_unchanged no_members h = refl
  members_unchanged (member k d ms) h =
      let each = neither (has_float d) (members_have_float ms) h in
      ap (λ e. member k e (members_without_floats ms)) (unchanged d each.0) ∙ ap (member k d) (members_unchanged ms each.1)

item_stays : (i : ℕ) (ds : Items) → get_item i (items_without_floats ds) ≡ option_map without_floats (get_item i ds)
item_stays zero no_items = refl
item_stays (suc i) no_items = refl
item_stays zero (item d ds) = refl
item_stays (suc i) (item d ds) = item_stays i ds

items_stay : (i : ℕ) (d : Data) → at i (without_floats d) ≡ option_map without_floats (at i d)
items_stay i null = refl
items_stay i (boolean b) = refl
items_stay i (number n) = number_items n i
items_stay i (string s) = refl
items_stay i (array ds) = item_stays i ds
items_stay i (object ms) = refl

member_by_order : (o : Ordering) (d : Data) (found found2 : Option Data) → found2 ≡ option_map without_floats found
    → match_ordering o found2 (Some (without_floats d)) found2 ≡ option_map without_floats (match_ordering o found (Some d) found)
member_by_order Less d found found2 is = is
member_by_order Equal d found found2 is = refl
member_by_order Greater d found found2 is = is

member_stays : (k : List ℕ) (ms : Members) → get_member k (members_without_floats ms) ≡ option_map without_floats (get_member k ms)
member_stays k no_members = refl
member_stays k (member l d ms) = member_by_order (slice_cmp nat_cmp k l) d (get_member k ms) _ (member_stays k ms)

members_stay : (k : List ℕ) (d : Data) → get k (without_floats d) ≡ option_map without_floats (get k d)
members_stay k null = refl
members_stay k (boolean b) = refl
members_stay k (number n) = number_members n k
members_stay k (string s) = refl
members_stay k (array ds) = refl
members_stay k (object ms) = member_stays k ms

pub only_floats : OnlyFloatsGo
only_floats = record { unchanged = unchanged; none_left = none_left; items = items_stay; members = members_stay }

-- ---- a text

put_by_order : (o : Ordering) (k l : List ℕ) (d e : Data) (ms : Members) (more : Members) → members_without_floats more ≡ put k (without_floats d) (members_without_floats ms)
    → members_without_floats (match_ordering o (member k d (member l e ms)) (member l d ms) (member l e more))
    ≡ match_ordering o (member k (without_floats d) (member l (without_floats e) (members_without_floats ms))) (member l (without_floats d) (members_without_floats ms)) (member l (without_floats e) (put k (without_floats d) (members_without_floats ms)))
put_by_order Less k l d e ms more is = refl
put_by_order Equal k l d e ms more is = refl
put_by_order Greater k l d e ms more is = ap (member l (without_floats e)) is

put_without : (k : List ℕ) (d : Data) (ms : Members) → members_without_floats (put k d ms) ≡ put k (without_floats d) (members_without_floats ms)
put_without k d no_members = refl
put_without k d (member l e ms) = put_by_order (slice_cmp nat_cmp k l) k l d e ms (put k d ms) (put_without k d ms)

number_read : (o : Option Num) → option_map (number_by Read) o ≡ option_map without_floats (option_map number o)
number_read None = refl
number_read (Some n) = refl

array_read : (o : Option Items) → option_map array (option_map items_without_floats o) ≡ option_map without_floats (option_map array o)
array_read None = refl
array_read (Some ds) = refl

object_read : (o : Option Members) → option_map object (option_map members_without_floats o) ≡ option_map without_floats (option_map object o)
object_read None = refl
object_read (Some ms) = refl

item_read : (o : Option Data) (p : Option Items)
    → option_and_then (λ d. option_map (item d) (option_map items_without_floats p)) (option_map without_floats o) ≡ option_map items_without_floats (option_and_then (λ d. option_map (item d) p) o)
item_read None p = refl
item_read (Some d) None = refl
item_read (Some d) (Some ds) = refl

member_read : (F G : Members → Option Members) → ((found : Members) → F (members_without_floats found) ≡ option_map members_without_floats (G found)) → (k : List ℕ) (found : Members) (o : Option Data)
    → option_and_then (λ d. F (put k d (members_without_floats found))) (option_map without_floats o) ≡ option_map members_without_floats (option_and_then (λ d. G (put k d found)) o)
member_read F G same k found None = refl
member_read F G same k found (Some d) = ap F (sym (put_without k d found)) ∙ same (put k d found)

mutual
  json_read : (j : Json) → of_json_by Read j ≡ option_map without_floats (of_json j)
  json_read json.null = refl
  json_read (json.boolean b) = refl
  json_read (json.number s) = number_read (number_of s)
  json_read (json.string s) = refl
  json_read (json.array js) = ap (option_map array) (items_read js) ∙ array_read (of_items js)
  json_read (json.object ms) = ap (option_map object) (members_read ms no_members) ∙ object_read (of_members ms no_members)

  items_read : (js : json.Items) → of_items_by Read js ≡ option_map items_without_floats (of_items js)
  items_read json.no_items = refl
  items_read (json.item j js) =
      ap (λ p. option_and_then (λ d. option_map (item d) p) (of_json_by Read j)) (items_read js)
      ∙ ap (option_and_then (λ d. option_map (item d) (option_map items_without_floats (of_items js)))) (json_read j) ∙ item_read (of_json j) (of_items js)

  members_read : (ms : json.Members) (found : Members) → of_members_by Read ms (members_without_floats found) ≡ option_map members_without_floats (of_members ms found)
  members_read json.no_members found = refl
  members_read (json.member k j ms) found =
      ap (option_and_then (λ d. of_members_by Read ms (put k d (members_without_floats found)))) (json_read j)
      ∙ member_read (of_members_by Read ms) (of_members ms) (members_read ms) k found (of_json j)

number_refused : (o : Option Num) → option_map (number_by Refused) o ≡ option_map number o
number_refused None = refl
number_refused (Some n) = refl

member_refused : (F G : Members → Option Members) → ((found : Members) → F found ≡ G found) → (k : List ℕ) (found : Members) (o : Option Data)
    → option_and_then (λ d. F (put k d found)) o ≡ option_and_then (λ d. G (put k d found)) o
member_refused F G same k found None = refl
member_refused F G same k found (Some d) = same (put k d found)

mutual
  json_refused : (j : Json) → of_json_by Refused j ≡ of_json j
  json_refused json.null = refl
  json_refused (json.boolean b) = refl
  json_refused (json.number s) = number_refused (number_of s)
  json_refused (json.string s) = refl
  json_refused (json.array js) = ap (option_map array) (items_refused js)
  json_refused (json.object ms) = ap (option_map object) (members_refused ms no_members)

  items_refused : (js : json.Items) → of_items_by Refused js ≡ of_items js
  items_refused json.no_items = refl
  items_refused (json.item j js) =
      ap (λ p. option_and_then (λ d. option_map (item d) p) (of_json_by Refused j)) (items_refused js)
      ∙ ap (option_and_then (λ d. option_map (item d) (of_items js))) (json_refused j)

  members_refused : (ms : json.Members) (found : Members) → of_members_by Refused ms found ≡ of_members ms found
  members_refused json.no_members found = refl
  members_refused (json.member k j ms) found =
      ap (option_and_then (λ d. of_members_by Refused ms (put k d found))) (json_refused j)
      ∙ member_refused (of_members_by Refused ms) (of_members ms) (members_refused ms) k found (of_json j)

refused_by : (o : Option Json) → option_and_then of_json o ≡ option_and_then (of_json_by Refused) o
refused_by None = refl
refused_by (Some j) = sym (json_refused j)

let_in_by : (o : Option Json) → option_map without_floats (option_and_then of_json o) ≡ option_and_then (of_json_by Read) o
let_in_by None = refl
let_in_by (Some j) = sym (json_read j)

-- the grammar's tree of all tokens of a text
abbrev tree_of : List ℕ → Option Json
tree_of text = option_and_then (λ p. if_last p.0 p.1) (json.value 127 (tokens text))

-- a text is read by that tree
pub read_by-is : (floats : Floats) (text : List ℕ) → read_by floats text ≡ option_and_then (of_json_by floats) (option_and_then (λ p. if_last p.0 p.1) (json.value 127 (tokens text)))
read_by-is Refused text = refused_by (tree_of text)
read_by-is Read text = let_in_by (tree_of text)
