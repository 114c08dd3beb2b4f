-- A record that holds itself is read, written and tested as one level of it.
use Rattle.std.proofs.Common.{◌≡◌, ℕ, zero, suc, ◌<◌, ◌≤◌, List, ◌∷◌, ◌++◌, Bool, true, false, not, ◌&&◌, Option, Some, None, option_map, Ordering, Less, Equal, Greater, nat_cmp, refl, sym, ap, ◌∙◌, arith, max}
use Rattle.std.specs.Cmp.Lexicographic.{slice_cmp}
use Rattle.std.specs.Ordering.{match_ordering}
use Rattle.serde_json.specs.Data.{Data, null, array, object, Items, no_items, item, Members, no_members, member, depth, items_depth, members_depth, put}
use Rattle.serde_json.specs.Find.{get, get_member}
use Rattle.lsp_shape.specs.Plain.{Plain, present, parts, Parts, no_parts, part, plain_depth, parts_depth}
use Rattle.lsp_shape.specs.Shape.{Rule, required, omitted, nullable, or_empty, or_false, unless_empty, unless_false, Count, one, many, Shape, fields, recursive, Fields, no_fields, field, flat, supported, again, unrolled, names, field_names, are_distinct}
use Rattle.lsp_shape.specs.Read.{read, read_fields, read_record, read_member, read_count, read_maybe, read_items, read_list, and_part, reads_none, iterate, read_supported}
use Rattle.lsp_shape.specs.Write.{write, write_fields, write_record, write_member, write_count, write_items, write_maybe, put_present, put_unless, is_empty, is_false, writes_null}
use Rattle.lsp_shape.specs.Values.{are_fields, is_parts, is_none, is_count, by_rule, is_maybe, every, is_of, clear_fields, clear_parts, clear_count, clear_member, clear_maybe, clear_present, is_any, is_null, clear, settled_member, is_settled, are_settled}

-- F asks only about what is smaller
module _ (A B : Type 0) (measure : A → ℕ) (base : A → B) (F : (A → B) → A → B) (smaller : (x : A) (a b : A → B) → ((y : A) → measure y < measure x → a y ≡ b y) → F a x ≡ F b x) where
  same_at : (n m : ℕ) (x : A) → measure x < n → measure x < m → iterate {A = A → B} n base F x ≡ iterate {A = A → B} m base F x
  same_at zero m x h k = absurd (omega arith)
  same_at (suc n) zero x h k = absurd (omega arith)
  same_at (suc n) (suc m) x h k = smaller x (iterate {A = A → B} n base F) (iterate {A = A → B} m base F) (λ y below. same_at n m y (omega arith) (omega arith))

  abbrev pub whole : A → B
  whole x = iterate {A = A → B} (suc (measure x)) base F x

  pub one_level : (x : A) → whole x ≡ F whole x
  one_level x = smaller x (iterate {A = A → B} (measure x) base F) whole (λ y below. same_at (measure x) (suc (measure y)) y below (omega arith))

-- ---- reading

found : (o : Ordering) (rest : Option Data) (e d : Data) (n : ℕ) → (rest ≡ Some d → depth d ≤ n) → match_ordering o rest (Some e) rest ≡ Some d → depth d ≤ max (depth e) n
found Less rest e d n later is = let h : depth d ≤ n = later is in omega arith
found Equal rest e d n later is = let h : e ≡ d = cc in let k : depth e ≡ depth d = ap depth h in omega arith
found Greater rest e d n later is = let h : depth d ≤ n = later is in omega arith

pub depth-get_member : (k : List ℕ) (ms : Members) (d : Data) → get_member k ms ≡ Some d → depth d ≤ members_depth ms
depth-get_member k no_members d is = cc
depth-get_member k (member l e ms) d is = found (slice_cmp nat_cmp k l) (get_member k ms) e d (members_depth ms) (depth-get_member k ms d) is

SameRead : (Data → Option Plain) → (Data → Option Plain) → ℕ → Type 0
SameRead a b n = (d : Data) → depth d ≤ n → a d ≡ b d

items_same : (a b : Data → Option Plain) (ds : Items) → ((d : Data) → depth d ≤ items_depth ds → a d ≡ b d) → read_items a ds ≡ read_items b ds
items_same a b no_items e = refl
items_same a b (item d ds) e = rw (e d (omega arith), items_same a b ds (λ c h. e c (omega arith))) refl

count_same : (c : Count) (a b : Data → Option Plain) (d : Data) → ((e : Data) → depth e ≤ depth d → a e ≡ b e) → read_count c a d ≡ read_count c b d
count_same one a b d e = e d (omega arith)
count_same many a b (array ds) e = ap (option_map parts) (items_same a b ds (λ c h. e c (omega arith)))
count_same many a b _ e = refl

maybe_same : (a b : Data → Option Plain) (d : Data) → a d ≡ b d → read_maybe a d ≡ read_maybe b d
maybe_same a b null e = refl
maybe_same a b _ e = ap (option_map present) e

member_same : (r : Rule) (a b : Data → Option Plain) (o : Option Data) → ((d : Data) → o ≡ Some d → a d ≡ b d) → read_member r a o ≡ read_member r b o
member_same required a b None e = refl
member_same required a b (Some d) e = e d refl
member_same omitted a b None e = refl
member_same omitted a b (Some d) e = maybe_same a b d (e d refl)
member_same nullable a b None e = refl
member_same nullable a b (Some d) e = maybe_same a b d (e d refl)
member_same or_empty a b None e = refl
member_same or_empty a b (Some d) e = e d refl
member_same or_false a b None e = refl
member_same or_false a b (Some d) e = e d refl
member_same unless_empty a b None e = refl
member_same unless_empty a b (Some d) e = e d refl
member_same unless_false a b None e = refl
member_same unless_false a b (Some d) e = e d refl

fields_same : (fs : Fields) (a b : Data → Option Plain) (ms : Members) → ((d : Data) → depth d ≤ members_depth ms → a d ≡ b d) → read_fields fs a (object ms) ≡ read_fields fs b (object ms)
fields_same no_fields a b ms e = refl
fields_same (field name r s fs) a b ms e = ap (and_part (read_member r (read s) (get_member name ms))) (fields_same fs a b ms e)
fields_same (flat s fs) a b ms e = ap (and_part (read s (object ms))) (fields_same fs a b ms e)
fields_same (supported name s fs) a b ms e = ap (and_part (read_supported (read s) (get_member name ms))) (fields_same fs a b ms e)
fields_same (again name r c fs) a b ms e =
    let here = member_same r (read_count c a) (read_count c b) (get_member name ms)
    (λ d is. let below : depth d ≤ members_depth ms = depth-get_member name ms d is in count_same c a b d (λ x h. e x (omega arith))) in
    rw (here, fields_same fs a b ms e) refl

record_same : (fs : Fields) (d : Data) (a b : Data → Option Plain) → ((e : Data) → depth e < depth d → a e ≡ b e) → read_record (read_fields fs a) d ≡ read_record (read_fields fs b) d
record_same fs (object ms) a b e = ap (option_map parts) (fields_same fs a b ms (λ d h. e d (omega arith)))
record_same fs _ a b e = refl

-- what a record that holds itself reads as
pub read-recursive : (fs : Fields) (d : Data) → read (recursive fs) d ≡ read_record (read_fields fs (read (recursive fs))) d
read-recursive fs d = one_level Data (Option Plain) depth reads_none (λ self. read_record (read_fields fs self)) (record_same fs) d

-- ---- writing

write_items_same : (a b : Plain → Data) (ps : Parts) → ((q : Plain) → plain_depth q ≤ parts_depth ps → a q ≡ b q) → write_items a ps ≡ write_items b ps
write_items_same a b no_parts e = refl
write_items_same a b (part p ps) e = rw (e p (omega arith), write_items_same a b ps (λ q h. e q (omega arith))) refl

write_count_same : (c : Count) (a b : Plain → Data) (p : Plain) → ((q : Plain) → plain_depth q ≤ plain_depth p → a q ≡ b q) → write_count c a p ≡ write_count c b p
write_count_same one a b p e = e p (omega arith)
write_count_same many a b (parts ps) e = ap array (write_items_same a b ps (λ q h. e q (omega arith)))
write_count_same many a b _ e = refl

present_same : (name : List ℕ) (a b : Plain → Data) (p : Plain) (ms : Members) → ((q : Plain) → plain_depth q ≤ plain_depth p → a q ≡ b q) → put_present name a p ms ≡ put_present name b p ms
present_same name a b (present p) ms e = ap (λ d. put name d ms) (e p (omega arith))
present_same name a b _ ms e = refl

write_maybe_same : (a b : Plain → Data) (p : Plain) → ((q : Plain) → plain_depth q ≤ plain_depth p → a q ≡ b q) → write_maybe a p ≡ write_maybe b p
write_maybe_same a b (present p) e = e p (omega arith)
write_maybe_same a b _ e = refl

write_member_same : (name : List ℕ) (r : Rule) (a b : Plain → Data) (p : Plain) (ms : Members) → ((q : Plain) → plain_depth q ≤ plain_depth p → a q ≡ b q) → write_member name r a p ms ≡ write_member name r b p ms
write_member_same name omitted a b p ms e = present_same name a b p ms e
write_member_same name nullable a b p ms e = ap (λ d. put name d ms) (write_maybe_same a b p e)
write_member_same name unless_empty a b p ms e = ap (λ d. put_unless (is_empty p) name d ms) (e p (omega arith))
write_member_same name unless_false a b p ms e = ap (λ d. put_unless (is_false p) name d ms) (e p (omega arith))
write_member_same name _ a b p ms e = ap (λ d. put name d ms) (e p (omega arith))

counted_deeper : (c : Count) (a b : Plain → Data) (p : Plain) → ((q : Plain) → plain_depth q ≤ plain_depth p → a q ≡ b q) → (q : Plain) → plain_depth q ≤ plain_depth p → write_count c a q ≡ write_count c b q
counted_deeper c a b p e q h = write_count_same c a b q (λ x k. e x (omega arith))

write_fields_same : (fs : Fields) (a b : Plain → Data) (ps : Parts) (ms : Members) → ((q : Plain) → plain_depth q ≤ parts_depth ps → a q ≡ b q) → write_fields fs a ps ms ≡ write_fields fs b ps ms
write_fields_same no_fields a b ps ms e = refl
write_fields_same (field name r s fs) a b no_parts ms e = refl
write_fields_same (field name r s fs) a b (part p ps) ms e = write_fields_same fs a b ps _ (λ q h. e q (omega arith))
write_fields_same (flat s fs) a b no_parts ms e = refl
write_fields_same (flat s fs) a b (part p ps) ms e = write_fields_same fs a b ps _ (λ q h. e q (omega arith))
write_fields_same (supported name s fs) a b no_parts ms e = refl
write_fields_same (supported name s fs) a b (part p ps) ms e = write_fields_same fs a b ps _ (λ q h. e q (omega arith))
write_fields_same (again name r c fs) a b no_parts ms e = refl
write_fields_same (again name r c fs) a b (part p ps) ms e =
    let here = write_member_same name r (write_count c a) (write_count c b) p ms (counted_deeper c a b p (λ q h. e q (omega arith))) in
    ap (write_fields fs a ps) here ∙ write_fields_same fs a b ps _ (λ q h. e q (omega arith))

write_record_same : (fs : Fields) (p : Plain) (a b : Plain → Data) → ((q : Plain) → plain_depth q < plain_depth p → a q ≡ b q) → write_record (write_fields fs a) p ≡ write_record (write_fields fs b) p
write_record_same fs (parts ps) a b e = ap object (write_fields_same fs a b ps no_members (λ q h. e q (omega arith)))
write_record_same fs _ a b e = refl

pub write-recursive : (fs : Fields) (p : Plain) → write (recursive fs) p ≡ write_record (write_fields fs (write (recursive fs))) p
write-recursive fs p = one_level Plain Data plain_depth writes_null (λ self. write_record (write_fields fs self)) (write_record_same fs) p

-- ---- tests of plain data

every_same : (a b : Plain → Bool) (ps : Parts) → ((q : Plain) → plain_depth q ≤ parts_depth ps → a q ≡ b q) → every a ps ≡ every b ps
every_same a b no_parts e = refl
every_same a b (part p ps) e = rw (e p (omega arith), every_same a b ps (λ q h. e q (omega arith))) refl

is_count_same : (c : Count) (a b : Plain → Bool) (p : Plain) → ((q : Plain) → plain_depth q ≤ plain_depth p → a q ≡ b q) → is_count c a p ≡ is_count c b p
is_count_same one a b p e = e p (omega arith)
is_count_same many a b (parts ps) e = every_same a b ps (λ q h. e q (omega arith))
is_count_same many a b _ e = refl

is_maybe_same : (a b : Plain → Bool) (p : Plain) → ((q : Plain) → plain_depth q ≤ plain_depth p → a q ≡ b q) → is_maybe a p ≡ is_maybe b p
is_maybe_same a b (present p) e = e p (omega arith)
is_maybe_same a b _ e = refl

by_rule_same : (r : Rule) (a b : Plain → Bool) (p : Plain) → ((q : Plain) → plain_depth q ≤ plain_depth p → a q ≡ b q) → by_rule r a p ≡ by_rule r b p
by_rule_same omitted a b p e = is_maybe_same a b p e
by_rule_same nullable a b p e = is_maybe_same a b p e
by_rule_same _ a b p e = e p (omega arith)

are_fields_same : (fs : Fields) (a b : Plain → Bool) (ps : Parts) → ((q : Plain) → plain_depth q ≤ parts_depth ps → a q ≡ b q) → are_fields fs a ps ≡ are_fields fs b ps
are_fields_same no_fields a b ps e = refl
are_fields_same (field name r s fs) a b no_parts e = refl
are_fields_same (field name r s fs) a b (part p ps) e = ap (λ t. by_rule r (is_of s) p && t) (are_fields_same fs a b ps (λ q h. e q (omega arith)))
are_fields_same (flat s fs) a b no_parts e = refl
are_fields_same (flat s fs) a b (part p ps) e = ap (λ t. is_of s p && t) (are_fields_same fs a b ps (λ q h. e q (omega arith)))
are_fields_same (supported name s fs) a b no_parts e = refl
are_fields_same (supported name s fs) a b (part p ps) e = ap (λ t. is_maybe (is_of s) p && t) (are_fields_same fs a b ps (λ q h. e q (omega arith)))
are_fields_same (again name r c fs) a b no_parts e = refl
are_fields_same (again name r c fs) a b (part p ps) e =
    let here = by_rule_same r (is_count c a) (is_count c b) p (λ q h. is_count_same c a b q (λ x k. e x (omega arith))) in
    rw (here, are_fields_same fs a b ps (λ q h. e q (omega arith))) refl

is_parts_same : (fs : Fields) (p : Plain) (a b : Plain → Bool) → ((q : Plain) → plain_depth q < plain_depth p → a q ≡ b q) → is_parts (are_fields fs a) p ≡ is_parts (are_fields fs b) p
is_parts_same fs (parts ps) a b e = are_fields_same fs a b ps (λ q h. e q (omega arith))
is_parts_same fs _ a b e = refl

-- the test of a record that holds itself, without that of its names
abbrev pub is_itself : Fields → Plain → Bool
is_itself fs p = iterate {A = Plain → Bool} (suc (plain_depth p)) is_none (λ self. is_parts (are_fields fs self)) p

pub is_itself-one_level : (fs : Fields) (p : Plain) → is_itself fs p ≡ is_parts (are_fields fs (is_itself fs)) p
is_itself-one_level fs p = one_level Plain Bool plain_depth is_none (λ self. is_parts (are_fields fs self)) (is_parts_same fs) p

-- ---- what reads back

clear_count_same : (c : Count) (a b : Plain → Bool) (p : Plain) → ((q : Plain) → plain_depth q ≤ plain_depth p → a q ≡ b q) → clear_count c a p ≡ clear_count c b p
clear_count_same one a b p e = e p (omega arith)
clear_count_same many a b (parts ps) e = every_same a b ps (λ q h. e q (omega arith))
clear_count_same many a b _ e = refl

clear_maybe_same : (w : Plain → Data) (a b : Plain → Bool) (p : Plain) → ((q : Plain) → plain_depth q ≤ plain_depth p → a q ≡ b q) → clear_maybe a w p ≡ clear_maybe b w p
clear_maybe_same w a b (present p) e = ap (λ t. not (is_null (w p)) && t) (e p (omega arith))
clear_maybe_same w a b _ e = refl

clear_member_same : (r : Rule) (w : Plain → Data) (a b : Plain → Bool) (p : Plain) → ((q : Plain) → plain_depth q ≤ plain_depth p → a q ≡ b q) → clear_member r a w p ≡ clear_member r b w p
clear_member_same omitted w a b p e = clear_maybe_same w a b p e
clear_member_same nullable w a b p e = clear_maybe_same w a b p e
clear_member_same _ w a b p e = e p (omega arith)

clear_fields_same : (fs : Fields) (w : Plain → Data) (a b : Plain → Bool) (ps : Parts) → ((q : Plain) → plain_depth q ≤ parts_depth ps → a q ≡ b q) → clear_fields fs a w ps ≡ clear_fields fs b w ps
clear_fields_same no_fields w a b ps e = refl
clear_fields_same (field name r s fs) w a b no_parts e = refl
clear_fields_same (field name r s fs) w a b (part p ps) e = ap (λ t. clear_member r (clear s) (write s) p && t) (clear_fields_same fs w a b ps (λ q h. e q (omega arith)))
clear_fields_same (flat s fs) w a b no_parts e = refl
clear_fields_same (flat s fs) w a b (part p ps) e = ap (λ t. clear s p && t) (clear_fields_same fs w a b ps (λ q h. e q (omega arith)))
clear_fields_same (supported name s fs) w a b no_parts e = refl
clear_fields_same (supported name s fs) w a b (part p ps) e = ap (λ t. clear_present (clear s) p && t) (clear_fields_same fs w a b ps (λ q h. e q (omega arith)))
clear_fields_same (again name r c fs) w a b no_parts e = refl
clear_fields_same (again name r c fs) w a b (part p ps) e =
    let here = clear_member_same r (write_count c w) (clear_count c a) (clear_count c b) p (λ q h. clear_count_same c a b q (λ x k. e x (omega arith))) in
    rw (here, clear_fields_same fs w a b ps (λ q h. e q (omega arith))) refl

clear_parts_same : (fs : Fields) (w : Plain → Data) (p : Plain) (a b : Plain → Bool) → ((q : Plain) → plain_depth q < plain_depth p → a q ≡ b q) → clear_parts (clear_fields fs a w) p ≡ clear_parts (clear_fields fs b w) p
clear_parts_same fs w (parts ps) a b e = clear_fields_same fs w a b ps (λ q h. e q (omega arith))
clear_parts_same fs w _ a b e = refl

pub clear-recursive : (fs : Fields) (p : Plain) → clear (recursive fs) p ≡ clear_parts (clear_fields fs (clear (recursive fs)) (write (recursive fs))) p
clear-recursive fs p = one_level Plain Bool plain_depth is_any (λ self. clear_parts (clear_fields fs self (write (recursive fs)))) (clear_parts_same fs (write (recursive fs))) p

-- ---- as a record of a shape that holds none

read_fields-unrolled : (s : Shape) (fs : Fields) (f : Data → Option Plain) (d : Data) → read_fields fs (read s) d ≡ read_fields (unrolled s fs) f d
read_fields-unrolled s no_fields f d = refl
read_fields-unrolled s (field name r t fs) f d = ap (and_part (read_member r (read t) (get name d))) (read_fields-unrolled s fs f d)
read_fields-unrolled s (flat t fs) f d = ap (and_part (read t d)) (read_fields-unrolled s fs f d)
read_fields-unrolled s (supported name t fs) f d = ap (and_part (read_supported (read t) (get name d))) (read_fields-unrolled s fs f d)
read_fields-unrolled s (again name r one fs) f d = ap (and_part (read_member r (read s) (get name d))) (read_fields-unrolled s fs f d)
read_fields-unrolled s (again name r many fs) f d = ap (and_part (read_member r (read_list (λ n. true) (read s)) (get name d))) (read_fields-unrolled s fs f d)

record_unrolled : (s : Shape) (fs : Fields) (d : Data) → read_record (read_fields fs (read s)) d ≡ read (fields (unrolled s fs)) d
record_unrolled s fs (object ms) = ap (option_map parts) (read_fields-unrolled s fs reads_none (object ms))
record_unrolled s fs _ = refl

pub read-unrolled : (fs : Fields) (d : Data) → read (recursive fs) d ≡ read (fields (unrolled (recursive fs) fs)) d
read-unrolled fs d = read-recursive fs d ∙ record_unrolled (recursive fs) fs d

write_fields-unrolled : (s : Shape) (fs : Fields) (w : Plain → Data) (ps : Parts) (ms : Members) → write_fields fs (write s) ps ms ≡ write_fields (unrolled s fs) w ps ms
write_fields-unrolled s no_fields w ps ms = refl
write_fields-unrolled s (field name r t fs) w no_parts ms = refl
write_fields-unrolled s (field name r t fs) w (part p ps) ms = write_fields-unrolled s fs w ps _
write_fields-unrolled s (flat t fs) w no_parts ms = refl
write_fields-unrolled s (flat t fs) w (part p ps) ms = write_fields-unrolled s fs w ps _
write_fields-unrolled s (supported name t fs) w no_parts ms = refl
write_fields-unrolled s (supported name t fs) w (part p ps) ms = write_fields-unrolled s fs w ps _
write_fields-unrolled s (again name r one fs) w no_parts ms = refl
write_fields-unrolled s (again name r one fs) w (part p ps) ms = write_fields-unrolled s fs w ps _
write_fields-unrolled s (again name r many fs) w no_parts ms = refl
write_fields-unrolled s (again name r many fs) w (part p ps) ms = write_fields-unrolled s fs w ps _

write_record-unrolled : (s : Shape) (fs : Fields) (p : Plain) → write_record (write_fields fs (write s)) p ≡ write (fields (unrolled s fs)) p
write_record-unrolled s fs (parts ps) = ap object (write_fields-unrolled s fs writes_null ps no_members)
write_record-unrolled s fs _ = refl

pub write-unrolled : (fs : Fields) (p : Plain) → write (recursive fs) p ≡ write (fields (unrolled (recursive fs) fs)) p
write-unrolled fs p = write-recursive fs p ∙ write_record-unrolled (recursive fs) fs p

names-unrolled : (s : Shape) (fs : Fields) → field_names (unrolled s fs) ≡ field_names fs
names-unrolled s no_fields = refl
names-unrolled s (field name r t fs) = ap (λ ns. name ∷ ns) (names-unrolled s fs)
names-unrolled s (flat t fs) = ap (λ ns. names t ++ ns) (names-unrolled s fs)
names-unrolled s (supported name t fs) = ap (λ ns. name ∷ ns) (names-unrolled s fs)
names-unrolled s (again name r one fs) = ap (λ ns. name ∷ ns) (names-unrolled s fs)
names-unrolled s (again name r many fs) = ap (λ ns. name ∷ ns) (names-unrolled s fs)

distinct-unrolled : (s : Shape) (fs : Fields) → are_distinct (unrolled s fs) ≡ are_distinct fs
distinct-unrolled s no_fields = refl
distinct-unrolled s (field name r t fs) = rw (names-unrolled s fs, distinct-unrolled s fs) refl
distinct-unrolled s (flat t fs) = rw (names-unrolled s fs, distinct-unrolled s fs) refl
distinct-unrolled s (supported name t fs) = rw (names-unrolled s fs, distinct-unrolled s fs) refl
distinct-unrolled s (again name r one fs) = rw (names-unrolled s fs, distinct-unrolled s fs) refl
distinct-unrolled s (again name r many fs) = rw (names-unrolled s fs, distinct-unrolled s fs) refl

are_fields-unrolled : (s : Shape) (fs : Fields) (is : Plain → Bool) (ps : Parts) → are_fields fs (is_of s) ps ≡ are_fields (unrolled s fs) is ps
are_fields-unrolled s no_fields is ps = refl
are_fields-unrolled s (field name r t fs) is no_parts = refl
are_fields-unrolled s (field name r t fs) is (part p ps) = ap (λ b. by_rule r (is_of t) p && b) (are_fields-unrolled s fs is ps)
are_fields-unrolled s (flat t fs) is no_parts = refl
are_fields-unrolled s (flat t fs) is (part p ps) = ap (λ b. is_of t p && b) (are_fields-unrolled s fs is ps)
are_fields-unrolled s (supported name t fs) is no_parts = refl
are_fields-unrolled s (supported name t fs) is (part p ps) = ap (λ b. is_maybe (is_of t) p && b) (are_fields-unrolled s fs is ps)
are_fields-unrolled s (again name r one fs) is no_parts = refl
are_fields-unrolled s (again name r one fs) is (part p ps) = ap (λ b. by_rule r (is_of s) p && b) (are_fields-unrolled s fs is ps)
are_fields-unrolled s (again name r many fs) is no_parts = refl
are_fields-unrolled s (again name r many fs) is (part p ps) = ap (λ b. by_rule r (is_parts (every (is_of s))) p && b) (are_fields-unrolled s fs is ps)

is_parts-unrolled : (s : Shape) (fs : Fields) (p : Plain) → is_parts (are_fields fs (is_of s)) p ≡ is_parts (are_fields (unrolled s fs) is_none) p
is_parts-unrolled s fs (parts ps) = are_fields-unrolled s fs is_none ps
is_parts-unrolled s fs _ = refl

is_of_at : (fs : Fields) (b : Bool) → are_distinct fs ≡ b → (p : Plain) → (b && is_itself fs p) ≡ (b && is_parts (are_fields fs (is_of (recursive fs))) p)
is_of_at fs true d p = is_itself-one_level fs p ∙ ap (λ (c : Bool). is_parts (are_fields fs (λ q. c && is_itself fs q)) p) (sym d)
is_of_at fs false d p = refl

pub is_of-unrolled : (fs : Fields) (p : Plain) → is_of (recursive fs) p ≡ is_of (fields (unrolled (recursive fs) fs)) p
is_of-unrolled fs p =
    is_of_at fs (are_distinct fs) refl p ∙ ap (λ b. are_distinct fs && b) (is_parts-unrolled (recursive fs) fs p)
    ∙ ap (λ b. b && is_parts (are_fields (unrolled (recursive fs) fs) is_none) p) (sym (distinct-unrolled (recursive fs) fs))

-- ---- what is trimmed once and for all

settled_present_same : (a b : Plain → Bool) (p : Plain) → ((q : Plain) → plain_depth q ≤ plain_depth p → a q ≡ b q) → clear_present a p ≡ clear_present b p
settled_present_same a b (present p) e = e p (omega arith)
settled_present_same a b _ e = refl

settled_member_same : (r : Rule) (a b : Plain → Bool) (p : Plain) → ((q : Plain) → plain_depth q ≤ plain_depth p → a q ≡ b q) → settled_member r a p ≡ settled_member r b p
settled_member_same omitted a b p e = settled_present_same a b p e
settled_member_same nullable a b p e = settled_present_same a b p e
settled_member_same _ a b p e = e p (omega arith)

are_settled_same : (fs : Fields) (a b : Plain → Bool) (ps : Parts) → ((q : Plain) → plain_depth q ≤ parts_depth ps → a q ≡ b q) → are_settled fs a ps ≡ are_settled fs b ps
are_settled_same no_fields a b ps e = refl
are_settled_same (field name r s fs) a b no_parts e = refl
are_settled_same (field name r s fs) a b (part p ps) e = ap (λ t. settled_member r (is_settled s) p && t) (are_settled_same fs a b ps (λ q h. e q (omega arith)))
are_settled_same (flat s fs) a b no_parts e = refl
are_settled_same (flat s fs) a b (part p ps) e = ap (λ t. is_settled s p && t) (are_settled_same fs a b ps (λ q h. e q (omega arith)))
are_settled_same (supported name s fs) a b no_parts e = refl
are_settled_same (supported name s fs) a b (part p ps) e = ap (λ t. clear_present (is_settled s) p && t) (are_settled_same fs a b ps (λ q h. e q (omega arith)))
are_settled_same (again name r c fs) a b no_parts e = refl
are_settled_same (again name r c fs) a b (part p ps) e =
    let here = settled_member_same r (clear_count c a) (clear_count c b) p (λ q h. clear_count_same c a b q (λ x k. e x (omega arith))) in
    rw (here, are_settled_same fs a b ps (λ q h. e q (omega arith))) refl

settled_parts_same : (fs : Fields) (p : Plain) (a b : Plain → Bool) → ((q : Plain) → plain_depth q < plain_depth p → a q ≡ b q) → clear_parts (are_settled fs a) p ≡ clear_parts (are_settled fs b) p
settled_parts_same fs (parts ps) a b e = are_settled_same fs a b ps (λ q h. e q (omega arith))
settled_parts_same fs _ a b e = refl

pub settled-recursive : (fs : Fields) (p : Plain) → is_settled (recursive fs) p ≡ clear_parts (are_settled fs (is_settled (recursive fs))) p
settled-recursive fs p = one_level Plain Bool plain_depth is_any (λ self. clear_parts (are_settled fs self)) (settled_parts_same fs) p
