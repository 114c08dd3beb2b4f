-- What is written of plain data of a shape reads back as that data.
use Rattle.std.proofs.Common.{◌≡◌, ℕ, zero, suc, ◌+◌, ◌≤◌, List, [], ◌∷◌, ◌++◌, Bool, true, false, not, ◌&&◌, bytes_eq, Option, Some, None, option_map, is_some, true≢false, refl, sym, ap, ◌∙◌, arith}
use Rattle.std.proofs.lemmas.Bool.{and_parts, not-true, false≢true}
use Rattle.std.specs.Option.{option_and_then}
use Rattle.serde_json.specs.Data.{Data, string, object, Members, no_members}
use Rattle.serde_json.specs.Find.{get_member, as_object, as_str}
use Rattle.serde_json.proofs.Views.{get_member-put, get_member-put_other}
use Rattle.lsp_shape.specs.Plain.{Plain, leaf, absent, present, parts, entry, choice, Parts, no_parts, part, plain_depth, parts_depth}
use Rattle.lsp_shape.specs.Shape.{Rule, omitted, Count, one, many, Shape, nil, truth, integer, bits, text, any, list_of, maybe, map_of, fields, fields_and, recursive, union, tagged, Fields, no_fields, field, flat, supported, again, Shapes, no_shapes, or_shape, Variants, no_variants, variant, has_name, names, field_names, variant_names, is_open, are_distinct, are_apart}
use Rattle.lsp_shape.specs.Read.{read, read_fields, read_first, read_tagged, read_member, read_supported, read_count, read_entries, and_part, and_rest, text_is, reads_none, fits}
use Rattle.lsp_shape.specs.Write.{write, write_fields, write_nth, write_tagged, write_member, write_count, write_part, write_entries, put_all, members_in, writes_null}
use Rattle.lsp_shape.specs.Values.{is_of, are_fields, is_nth, is_nth_variant, is_none, is_any, is_count, by_rule, is_maybe, is_entry, every, first_and, leaves_room, are_told_apart, tags, clear, clear_fields, clear_nth, clear_nth_variant, clear_member, clear_present, clear_count, clear_entry}
use Rattle.lsp_shape.proofs.Names.{Agree, Fresh, has_first, has_later, has_name-append_left, has_name-append_right, has_name-between, differ, apart, apart_other, same_bytes, are_same}
use Rattle.lsp_shape.proofs.PutAll.{get-put_all_fresh, get-put_all_other}
use Rattle.lsp_shape.proofs.Written.{shape_written, fields_written, other_member, member_kept, and_both}
use Rattle.lsp_shape.proofs.Leaves.{Back, BackBelow, back_nil, back_truth, back_integer, back_bits, back_text, back_any, maybe_back}
use Rattle.lsp_shape.proofs.Members.{member_back, supported_member_back}
use Rattle.lsp_shape.proofs.Lists.{list_back, entries_back, no_key_of, entries_put, entries_put_all}
use Rattle.lsp_shape.proofs.Recursive.{read-recursive, write-recursive, is_itself, is_itself-one_level, clear-recursive}

-- among other members, what is read is told by those at the names of the shape
abbrev Among : Shape → Type 0
Among s = (p : Plain) → is_open s ≡ true → is_of s p ≡ true → clear s p ≡ true → (ms : Members) → Agree (names s) ms (members_in (write s p)) → read s (object ms) ≡ Some p

abbrev FieldsBack : Fields → Type 0
FieldsBack fs = (n : ℕ) (f : Data → Option Plain) (w : Plain → Data) (is cl : Plain → Bool) → BackBelow n f w is cl → (ps : Parts) → parts_depth ps ≤ n
    → are_distinct fs ≡ true → are_fields fs is ps ≡ true → clear_fields fs cl w ps ≡ true → (start ms : Members) → Fresh (field_names fs) start → Agree (field_names fs) ms (write_fields fs w ps start)
    → read_fields fs f (object ms) ≡ Some ps

-- the number of a variant, counted from that number
abbrev count_up : ℕ → ℕ → ℕ
count_up i zero = i
count_up i (suc n) = count_up (suc i) n

count_up-add : (i n : ℕ) → count_up i n ≡ i + n
count_up-add i zero = omega arith
count_up-add i (suc n) = count_up-add (suc i) n ∙ (omega arith)

abbrev ShapesBack : Shapes → Type 0
ShapesBack ss = (n : ℕ) (p : Plain) → is_nth ss n p ≡ true → clear_nth ss n p ≡ true → (i : ℕ) → read_first ss i (write_nth ss n p) ≡ Some (choice (count_up i n) p)

abbrev VariantsBack : Variants → Type 0
VariantsBack vs = (tag : List ℕ) (n : ℕ) (p : Plain) → is_nth_variant vs tag n p ≡ true → clear_nth_variant vs n p ≡ true → are_told_apart (tags vs) ≡ true
    → (ms : Members) → Agree (tag ∷ variant_names vs) ms (members_in (write_tagged vs tag n p)) → (i : ℕ) → read_tagged vs i (option_and_then as_str (get_member tag ms)) (object ms) ≡ Some (choice (count_up i n) p)

-- ---- fields

one_of_fields : (n : ℕ) (name : List ℕ) (fs : Fields) (f : Data → Option Plain) (w : Plain → Data) (is cl : Plain → Bool) → BackBelow n f w is cl → FieldsBack fs
    → (get_here : Option Data → Option Plain) (write_here : Members → Members) (p : Plain) (ps : Parts) → parts_depth ps ≤ n
    → are_distinct fs ≡ true → has_name name (field_names fs) ≡ false → are_fields fs is ps ≡ true → clear_fields fs cl w ps ≡ true
    → (start ms : Members) → get_here (get_member name (write_here start)) ≡ Some p → ((q : List ℕ) → (q ≡ name → ⊥) → get_member q (write_here start) ≡ get_member q start)
    → Fresh (name ∷ field_names fs) start → Agree (name ∷ field_names fs) ms (write_fields fs w ps (write_here start))
    → and_part (get_here (get_member name ms)) (read_fields fs f (object ms)) ≡ Some (part p ps)
one_of_fields n name fs f w is cl back later get_here write_here p ps h d gone i c start ms here others fresh agree =
    let unchanged = (fields_written fs is w ps (write_here start) d i).1 name gone in
    let value : get_here (get_member name ms) ≡ Some p = ap get_here (agree name (has_first name (field_names fs)) ∙ unchanged) ∙ here in
    let rest = later n f w is cl back ps h d i c (write_here start) ms
    (λ q k. others q (differ q name (field_names fs) gone k) ∙ fresh q (has_later q name (field_names fs) k))
    (λ q k. agree q (has_later q name (field_names fs) k)) in
    rw (value, rest) refl

flat_back : (s : Shape) (fs : Fields) → Among s → FieldsBack fs → (n : ℕ) (f : Data → Option Plain) (w : Plain → Data) (is cl : Plain → Bool) → BackBelow n f w is cl → (p : Plain) (ps : Parts) → parts_depth ps ≤ n
    → (is_open s && are_apart (names s) (field_names fs) && are_distinct fs) ≡ true → (is_of s p && are_fields fs is ps) ≡ true → (clear s p && clear_fields fs cl w ps) ≡ true
    → (start ms : Members) → Fresh (names s ++ field_names fs) start → Agree (names s ++ field_names fs) ms (write_fields fs w ps (put_all (members_in (write s p)) start))
    → and_part (read s (object ms)) (read_fields fs f (object ms)) ≡ Some (part p ps)
flat_back s fs among later n f w is cl back p ps h d i c start ms fresh agree =
    let t = and_parts (is_open s && are_apart (names s) (field_names fs)) (are_distinct fs) d in
    let u = and_parts (is_open s) (are_apart (names s) (field_names fs)) t.0 in
    let j = and_parts (is_of s p) (are_fields fs is ps) i in
    let e = and_parts (clear s p) (clear_fields fs cl w ps) c in
    let own = members_in (write s p) in
    let written = shape_written s p u.0 j.0 in
    let unchanged = (fields_written fs is w ps (put_all own start) t.1 j.1).1 in
    let here = among p u.0 j.0 e.0 ms (λ q k.
    agree q (has_name-append_left q (names s) (field_names fs) k) ∙ unchanged q (apart q (names s) (field_names fs) u.1 k)
    ∙ get-put_all_fresh q own start written.ascending (fresh q (has_name-append_left q (names s) (field_names fs) k))) in
    let rest = later n f w is cl back ps h t.1 j.1 e.1 (put_all own start) ms
    (λ q k. get-put_all_other q own start written.ascending (written.only q (apart_other q (names s) (field_names fs) u.1 k)) ∙ fresh q (has_name-append_right q (names s) (field_names fs) k))
    (λ q k. agree q (has_name-append_right q (names s) (field_names fs) k)) in
    rw (here, rest) refl

flat_fields_back : (s : Shape) (fs : Fields) → Among s → FieldsBack fs → FieldsBack (flat s fs)
flat_fields_back s fs among later n f w is cl back no_parts h d i c start ms fresh agree = absurd (false≢true i)
flat_fields_back s fs among later n f w is cl back (part p ps) h d i c start ms fresh agree = flat_back s fs among later n f w is cl back p ps (omega arith) d i c start ms fresh agree

no_fields_back : FieldsBack no_fields
no_fields_back n f w is cl back no_parts h d i c start ms fresh agree = refl
no_fields_back n f w is cl back (part p ps) h d i c start ms fresh agree = absurd (false≢true i)

field_back : (name : List ℕ) (r : Rule) (s : Shape) (fs : Fields) → Back s → FieldsBack fs → FieldsBack (field name r s fs)
field_back name r s fs own later n f w is cl back no_parts h d i c start ms fresh agree = absurd (false≢true i)
field_back name r s fs own later n f w is cl back (part p ps) h d i c start ms fresh agree =
    let t = and_parts (not (has_name name (field_names fs))) (are_distinct fs) d in
    let j = and_parts (by_rule r (is_of s) p) (are_fields fs is ps) i in
    let e = and_parts (clear_member r (clear s) (write s) p) (clear_fields fs cl w ps) c in
    let here = member_back r (plain_depth p) (read s) (write s) (is_of s) (clear s) (λ q k. own q) p (omega arith) j.0 e.0 name start (fresh name (has_first name (field_names fs))) in
    one_of_fields n name fs f w is cl back later (read_member r (read s)) (write_member name r (write s) p) p ps (omega arith) t.1 (not-true (has_name name (field_names fs)) t.0) j.1 e.1 start ms here
    (λ q other. other_member name q r (write s) p start other) fresh agree

supported_back : (name : List ℕ) (s : Shape) (fs : Fields) → Back s → FieldsBack fs → FieldsBack (supported name s fs)
supported_back name s fs own later n f w is cl back no_parts h d i c start ms fresh agree = absurd (false≢true i)
supported_back name s fs own later n f w is cl back (part p ps) h d i c start ms fresh agree =
    let t = and_parts (is_open s && not (has_name name (field_names fs))) (are_distinct fs) d in
    let u = and_parts (is_open s) (not (has_name name (field_names fs))) t.0 in
    let j = and_parts (is_maybe (is_of s) p) (are_fields fs is ps) i in
    let e = and_parts (clear_present (clear s) p) (clear_fields fs cl w ps) c in
    let whole = λ (q : Plain) (k : is_of s q ≡ true). ap (λ (v : Data). is_some (as_object v)) (shape_written s q u.0 k).whole in
    let here = supported_member_back (read s) (write s) (is_of s) (clear s) own whole p j.0 e.0 name start (fresh name (has_first name (field_names fs))) in
    one_of_fields n name fs f w is cl back later (read_supported (read s)) (write_member name omitted (write s) p) p ps (omega arith) t.1 (not-true (has_name name (field_names fs)) u.1) j.1 e.1 start ms here
    (λ q other. other_member name q omitted (write s) p start other) fresh agree

count_back : (c : Count) (n : ℕ) (f : Data → Option Plain) (w : Plain → Data) (is cl : Plain → Bool) → BackBelow n f w is cl → BackBelow n (read_count c f) (write_count c w) (is_count c is) (clear_count c cl)
count_back one n f w is cl back = back
count_back many n f w is cl back = λ p h i c. list_back (λ m. true) n f w is cl back p h i c

again_back : (name : List ℕ) (r : Rule) (k : Count) (fs : Fields) → FieldsBack fs → FieldsBack (again name r k fs)
again_back name r k fs later n f w is cl back no_parts h d i c start ms fresh agree = absurd (false≢true i)
again_back name r k fs later n f w is cl back (part p ps) h d i c start ms fresh agree =
    let t = and_parts (not (has_name name (field_names fs))) (are_distinct fs) d in
    let j = and_parts (by_rule r (is_count k is) p) (are_fields fs is ps) i in
    let e = and_parts (clear_member r (clear_count k cl) (write_count k w) p) (clear_fields fs cl w ps) c in
    let here = member_back r n (read_count k f) (write_count k w) (is_count k is) (clear_count k cl) (count_back k n f w is cl back) p (omega arith) j.0 e.0 name start (fresh name (has_first name (field_names fs))) in
    one_of_fields n name fs f w is cl back later (read_member r (read_count k f)) (write_member name r (write_count k w) p) p ps (omega arith) t.1 (not-true (has_name name (field_names fs)) t.0) j.1 e.1 start ms here
    (λ q other. other_member name q r (write_count k w) p start other) fresh agree

nothing_back : (n : ℕ) → BackBelow n reads_none writes_null is_none is_any
nothing_back n p h i c = absurd (false≢true i)

-- ---- shapes of members

fields_among : (fs : Fields) → FieldsBack fs → Among (fields fs)
fields_among fs back (parts ps) o i c ms agree =
    let t = and_parts (are_distinct fs) (are_fields fs is_none ps) i in
    ap (option_map parts) (back (parts_depth ps) reads_none writes_null is_none is_any (nothing_back (parts_depth ps)) ps (omega arith) t.0 t.1 c no_members ms (λ q h. refl) agree)
fields_among fs back (leaf d) o i c ms agree = absurd (false≢true (and_parts (are_distinct fs) false i).1)
fields_among fs back absent o i c ms agree = absurd (false≢true (and_parts (are_distinct fs) false i).1)
fields_among fs back (present p) o i c ms agree = absurd (false≢true (and_parts (are_distinct fs) false i).1)
fields_among fs back (entry k p) o i c ms agree = absurd (false≢true (and_parts (are_distinct fs) false i).1)
fields_among fs back (choice n p) o i c ms agree = absurd (false≢true (and_parts (are_distinct fs) false i).1)

tagged_among : (tag : List ℕ) (vs : Variants) → VariantsBack vs → Among (tagged tag vs)
tagged_among tag vs back (choice n p) o i c ms agree =
    let t = and_parts (are_told_apart (tags vs)) (is_nth_variant vs tag n p) i in
    let here : read_tagged vs 0 (option_and_then as_str (get_member tag ms)) (object ms) ≡ Some (choice (count_up 0 n) p) = back tag n p t.1 c t.0 ms agree 0 in
    let same : count_up 0 n ≡ n = count_up-add 0 n ∙ (omega arith) in
    here ∙ ap (λ m. Some (choice m p)) same
tagged_among tag vs back (leaf d) o i c ms agree = absurd (false≢true (and_parts (are_told_apart (tags vs)) false i).1)
tagged_among tag vs back absent o i c ms agree = absurd (false≢true (and_parts (are_told_apart (tags vs)) false i).1)
tagged_among tag vs back (present p) o i c ms agree = absurd (false≢true (and_parts (are_told_apart (tags vs)) false i).1)
tagged_among tag vs back (entry k p) o i c ms agree = absurd (false≢true (and_parts (are_told_apart (tags vs)) false i).1)
tagged_among tag vs back (parts ps) o i c ms agree = absurd (false≢true (and_parts (are_told_apart (tags vs)) false i).1)

-- a variant's tag is one of the tags
tag_written : (vs : Variants) (tag : List ℕ) (n : ℕ) (p : Plain) → is_nth_variant vs tag n p ≡ true
    → (t : List ℕ) × (has_name t (tags vs) ≡ true) × (get_member tag (members_in (write_tagged vs tag n p)) ≡ Some (string t))
tag_written no_variants tag n p i = absurd (false≢true i)
tag_written (variant name s vs) tag zero p i = (name, has_first name (tags vs), get_member-put tag (string name) _)
tag_written (variant name s vs) tag (suc n) p i = let t = tag_written vs tag n p i in (t.0, has_later t.0 name (tags vs) t.1, t.2)

other_tag : (t name : List ℕ) (ns : List (List ℕ)) → has_name name ns ≡ false → has_name t ns ≡ true → bytes_eq t name ≡ false
other_tag t name ns gone here = at (bytes_eq t name) refl
  where
    at : (b : Bool) → bytes_eq t name ≡ b → b ≡ false
    at true e = absurd (differ t name ns gone here (are_same t name e))
    at false e = refl

variant_back : (name : List ℕ) (s : Shape) (vs : Variants) → Among s → VariantsBack vs → VariantsBack (variant name s vs)
variant_back name s vs among later tag zero p i c apart_tags ms agree k =
    let t = and_parts (leaves_room tag s) (is_of s p) i in
    let u = and_parts (is_open s) (not (has_name tag (names s))) t.0 in
    let own = members_in (write s p) in
    let told : get_member tag ms ≡ Some (string name) = agree tag (has_first tag _) ∙ get_member-put tag (string name) own in
    let here = among p u.0 t.1 c ms (λ q h.
    agree q (has_later q tag _ (has_name-append_left q (names s) (variant_names vs) h))
    ∙ get_member-put_other q tag (string name) own (differ q tag (names s) (not-true (has_name tag (names s)) u.1) h)) in
    rw (told, same_bytes name, here) refl
variant_back name s vs among later tag (suc n) p i c apart_tags ms agree k =
    let a = and_parts (not (has_name name (tags vs))) (are_told_apart (tags vs)) apart_tags in
    let t = tag_written vs tag n p i in
    let told : get_member tag ms ≡ Some (string t.0) = agree tag (has_first tag _) ∙ t.2 in
    let rest = later tag n p i c a.1 ms (λ q h. agree q (has_name-between q tag (names s) (variant_names vs) h)) (suc k) in
    let other : text_is name (option_and_then as_str (get_member tag ms)) ≡ false =
    ap (λ o. text_is name (option_and_then as_str o)) told ∙ other_tag t.0 name (tags vs) (not-true (has_name name (tags vs)) a.0) t.1 in
    rw other rest

-- ---- all shapes

abbrev Both : Shape → Type 0
Both s = Back s × Among s

closed : (s : Shape) → is_open s ≡ false → Back s → Both s
closed s e back = (back, λ p o. absurd (true≢false (sym o ∙ e)))

-- an object that is written whole
opened : (s : Shape) → is_open s ≡ true → Among s → Both s
opened s o among = (λ p i c. ap (read s) (shape_written s p o i).whole ∙ among p o i c _ (λ q h. refl), among)

-- the fields of a record leave its map as it is
not_within : (q : List ℕ) (ms ns : List (List ℕ)) → (has_name q ms ≡ true → has_name q ns ≡ true) → has_name q ns ≡ false → has_name q ms ≡ false
not_within q ms ns within gone = at (has_name q ms) refl
  where
    at : (b : Bool) → has_name q ms ≡ b → b ≡ false
    at true e = absurd (true≢false (sym (within e) ∙ gone))
    at false e = refl

abbrev KeepsEntries : Fields → Type 0
KeepsEntries fs = (ns : List (List ℕ)) → ((q : List ℕ) → has_name q (field_names fs) ≡ true → has_name q ns ≡ true) → (test : List ℕ → Bool) (f : Data → Option Plain) (is : Plain → Bool) (w : Plain → Data) (ps : Parts) (ms : Members)
    → are_distinct fs ≡ true → are_fields fs is ps ≡ true → read_entries ns test f (write_fields fs w ps ms) ≡ read_entries ns test f ms

field_keeps : (name : List ℕ) (r : Rule) (v : Plain → Data) (own : Plain → Bool) (fs : Fields) → KeepsEntries fs → (ns : List (List ℕ)) → ((q : List ℕ) → has_name q (name ∷ field_names fs) ≡ true → has_name q ns ≡ true)
    → (test : List ℕ → Bool) (f : Data → Option Plain) (is : Plain → Bool) (w : Plain → Data) (ps : Parts) (ms : Members) → (not (has_name name (field_names fs)) && are_distinct fs) ≡ true → first_and own (are_fields fs is) ps ≡ true
    → read_entries ns test f (write_part (write_member name r v) (write_fields fs w) ps ms) ≡ read_entries ns test f ms
field_keeps name r v own fs later ns within test f is w no_parts ms d i = refl
field_keeps name r v own fs later ns within test f is w (part p ps) ms d i =
    later ns (λ q h. within q (has_later q name (field_names fs) h)) test f is w ps (write_member name r v p ms)
    (and_parts (not (has_name name (field_names fs))) (are_distinct fs) d).1 (and_parts (own p) (are_fields fs is ps) i).1
    ∙ member_kept (λ os. read_entries ns test f os ≡ read_entries ns test f ms) name r v p ms refl (λ e. entries_put ns test f name e ms (within name (has_first name (field_names fs))))

flat_keeps : (s : Shape) (fs : Fields) → KeepsEntries fs → KeepsEntries (flat s fs)
flat_keeps s fs later ns within test f is w no_parts ms d i = refl
flat_keeps s fs later ns within test f is w (part p ps) ms d i =
    let t = and_parts (is_open s && are_apart (names s) (field_names fs)) (are_distinct fs) d in
    let j = and_parts (is_of s p) (are_fields fs is ps) i in
    let written = shape_written s p (and_parts (is_open s) (are_apart (names s) (field_names fs)) t.0).0 j.0 in
    later ns (λ q h. within q (has_name-append_right q (names s) (field_names fs) h)) test f is w ps (put_all (members_in (write s p)) ms) t.1 j.1
    ∙ entries_put_all ns test f (members_in (write s p)) ms
    (λ q gone. written.only q (not_within q (names s) ns (λ h. within q (has_name-append_left q (names s) (field_names fs) h)) gone))

fields_keep : (fs : Fields) → KeepsEntries fs
fields_keep no_fields ns within test f is w ps ms d i = refl
fields_keep (field name r s fs) ns within test f is w ps ms d i = field_keeps name r (write s) (by_rule r (is_of s)) fs (fields_keep fs) ns within test f is w ps ms d i
fields_keep (flat s fs) ns within test f is w ps ms d i = flat_keeps s fs (fields_keep fs) ns within test f is w ps ms d i
fields_keep (supported name s fs) ns within test f is w ps ms d i = let e = and_both (is_open s) _ _ d in field_keeps name omitted (write s) (is_maybe (is_of s)) fs (fields_keep fs) ns within test f is w ps ms e i
fields_keep (again name r c fs) ns within test f is w ps ms d i = field_keeps name r (write_count c w) (by_rule r (is_count c is)) fs (fields_keep fs) ns within test f is w ps ms d i

both_parts : (a b : Option Parts) (es ps : Parts) → a ≡ Some es → b ≡ Some ps → option_map parts (and_rest a b) ≡ Some (parts (part (parts es) ps))
both_parts a b es ps p q = rw (p, q) refl

rest_back : (s : Shape) (fs : Fields) → Back s → FieldsBack fs → (es ps : Parts) → are_distinct fs ≡ true → every (is_entry (λ k. true) (is_of s)) es ≡ true → are_fields fs is_none ps ≡ true
    → every (clear_entry (field_names fs) (clear s)) es ≡ true → clear_fields fs is_any writes_null ps ≡ true
    → read (fields_and s fs) (object (write_fields fs writes_null ps (write_entries (write s) es))) ≡ Some (parts (part (parts es) ps))
rest_back s fs own back es ps d i j c e =
    let map = write_entries (write s) es in
    let all = write_fields fs writes_null ps map in
    let rest = fields_keep fs (field_names fs) (λ q h. h) (λ k. true) (read s) is_none writes_null ps map d j
    ∙ entries_back (field_names fs) (λ k. true) (read s) (write s) (is_of s) (clear s) own es i c in
    let named = back (parts_depth ps) reads_none writes_null is_none is_any (nothing_back (parts_depth ps)) ps (omega arith) d j e map all
    (no_key_of (field_names fs) (write s) (clear s) (λ k. true) (is_of s) es i c) (λ q h. refl) in
    both_parts _ _ es ps rest named

fields_and_back : (s : Shape) (fs : Fields) → Back s → FieldsBack fs → Back (fields_and s fs)
fields_and_back s fs own back (parts (part (parts es) ps)) i c =
    let t = and_parts (are_distinct fs) _ i in
    let j = and_parts (every (is_entry (λ k. true) (is_of s)) es) (are_fields fs is_none ps) t.1 in
    let e = and_parts (every (clear_entry (field_names fs) (clear s)) es) (clear_fields fs is_any writes_null ps) c in
    rest_back s fs own back es ps t.0 j.0 j.1 e.0 e.1
fields_and_back s fs own back (parts no_parts) i c = absurd (false≢true (and_parts (are_distinct fs) false i).1)
fields_and_back s fs own back (parts (part (leaf d) ps)) i c = absurd (false≢true (and_parts (are_distinct fs) false i).1)
fields_and_back s fs own back (parts (part absent ps)) i c = absurd (false≢true (and_parts (are_distinct fs) false i).1)
fields_and_back s fs own back (parts (part (present p) ps)) i c = absurd (false≢true (and_parts (are_distinct fs) false i).1)
fields_and_back s fs own back (parts (part (entry k p) ps)) i c = absurd (false≢true (and_parts (are_distinct fs) false i).1)
fields_and_back s fs own back (parts (part (choice n p) ps)) i c = absurd (false≢true (and_parts (are_distinct fs) false i).1)
fields_and_back s fs own back (leaf d) i c = absurd (false≢true (and_parts (are_distinct fs) false i).1)
fields_and_back s fs own back absent i c = absurd (false≢true (and_parts (are_distinct fs) false i).1)
fields_and_back s fs own back (present p) i c = absurd (false≢true (and_parts (are_distinct fs) false i).1)
fields_and_back s fs own back (entry k p) i c = absurd (false≢true (and_parts (are_distinct fs) false i).1)
fields_and_back s fs own back (choice n p) i c = absurd (false≢true (and_parts (are_distinct fs) false i).1)

-- one level, where the levels below read back
level_back : (fs : Fields) → FieldsBack fs → are_distinct fs ≡ true → (n : ℕ) → BackBelow n (read (recursive fs)) (write (recursive fs)) (is_itself fs) (clear (recursive fs)) → (ps : Parts) → parts_depth ps ≤ n
    → is_itself fs (parts ps) ≡ true → clear (recursive fs) (parts ps) ≡ true → read (recursive fs) (write (recursive fs) (parts ps)) ≡ Some (parts ps)
level_back fs back d n below ps h i c =
    let whole = write_fields fs (write (recursive fs)) ps no_members in
    ap (read (recursive fs)) (write-recursive fs (parts ps)) ∙ read-recursive fs (object whole)
    ∙ ap (option_map parts) (back n (read (recursive fs)) (write (recursive fs)) (is_itself fs) (clear (recursive fs)) below ps h d
    (sym (is_itself-one_level fs (parts ps)) ∙ i) (sym (clear-recursive fs (parts ps)) ∙ c) no_members whole (λ q k. refl) (λ q k. refl))

levels_back : (fs : Fields) → FieldsBack fs → are_distinct fs ≡ true → (n : ℕ) → BackBelow n (read (recursive fs)) (write (recursive fs)) (is_itself fs) (clear (recursive fs))
levels_back fs back d zero (parts ps) h i c = absurd (omega arith)
levels_back fs back d (suc n) (parts ps) h i c = level_back fs back d n (levels_back fs back d n) ps (omega arith) i c
levels_back fs back d n (leaf x) h i c = absurd (false≢true i)
levels_back fs back d n absent h i c = absurd (false≢true i)
levels_back fs back d n (present p) h i c = absurd (false≢true i)
levels_back fs back d n (entry k p) h i c = absurd (false≢true i)
levels_back fs back d n (choice m p) h i c = absurd (false≢true i)

recursive_back : (fs : Fields) → FieldsBack fs → Back (recursive fs)
recursive_back fs back p i c =
    let t = and_parts (are_distinct fs) (is_itself fs p) i in
    levels_back fs back t.0 (plain_depth p) p (omega arith) t.1 c

union_back : (ss : Shapes) → ShapesBack ss → Back (union ss)
union_back ss back (choice n p) i c =
    let same : count_up 0 n ≡ n = count_up-add 0 n ∙ (omega arith) in
    back n p i c 0 ∙ ap (λ m. Some (choice m p)) same
union_back ss back (leaf d) i c = absurd (false≢true i)
union_back ss back absent i c = absurd (false≢true i)
union_back ss back (present p) i c = absurd (false≢true i)
union_back ss back (parts ps) i c = absurd (false≢true i)
union_back ss back (entry k p) i c = absurd (false≢true i)

map_back : (test : List ℕ → Bool) (s : Shape) → Back s → Back (map_of test s)
map_back test s own (parts ps) i c = ap (option_map parts) (entries_back [] test (read s) (write s) (is_of s) (clear s) own ps i c)
map_back test s own _ i c = absurd (false≢true i)

unfit_is : (o : Option Plain) → not (is_some o) ≡ true → o ≡ None
unfit_is None e = refl
unfit_is (Some p) e = absurd (false≢true e)

shape_back : (s : Shape) (ss : Shapes) → Back s → ShapesBack ss → ShapesBack (or_shape s ss)
shape_back s ss own later zero p i c k = rw (own p i c) refl
shape_back s ss own later (suc n) p i c k =
    let e = and_parts (not (fits s (write_nth ss n p))) (clear_nth ss n p) c in
    rw (unfit_is (read s (write_nth ss n p)) e.0) (later n p i e.1 (suc k))

mutual
  both_back : (s : Shape) → Both s
  both_back nil = closed nil refl back_nil
  both_back truth = closed truth refl back_truth
  both_back (integer low high) = closed (integer low high) refl (back_integer low high)
  both_back (bits high) = closed (bits high) refl (back_bits high)
  both_back (text test) = closed (text test) refl (back_text test)
  both_back any = closed any refl back_any
  both_back (list_of test s) = closed (list_of test s) refl (λ p i c. list_back test (plain_depth p) (read s) (write s) (is_of s) (clear s) (λ q h. (both_back s).0 q) p (omega arith) i c)
  both_back (maybe s) = closed (maybe s) refl (λ p i c. maybe_back (plain_depth p) (read s) (write s) (is_of s) (clear s) (λ q h. (both_back s).0 q) p (omega arith) i c)
  both_back (map_of test s) = closed (map_of test s) refl (map_back test s (both_back s).0)
  both_back (fields fs) = opened (fields fs) refl (fields_among fs (fields_back fs))
  both_back (fields_and s fs) = closed (fields_and s fs) refl (fields_and_back s fs (both_back s).0 (fields_back fs))
  both_back (recursive fs) = closed (recursive fs) refl (recursive_back fs (fields_back fs))
  both_back (union ss) = closed (union ss) refl (union_back ss (shapes_back ss))
  both_back (tagged tag vs) = opened (tagged tag vs) refl (tagged_among tag vs (variants_back vs))

  fields_back : (fs : Fields) → FieldsBack fs
  fields_back no_fields = no_fields_back
  fields_back (field name r s fs) = field_back name r s fs (both_back s).0 (fields_back fs)
  fields_back (flat s fs) = flat_fields_back s fs (both_back s).1 (fields_back fs)
  fields_back (supported name s fs) = supported_back name s fs (both_back s).0 (fields_back fs)
  fields_back (again name r c fs) = again_back name r c fs (fields_back fs)

  shapes_back : (ss : Shapes) → ShapesBack ss
  shapes_back no_shapes = λ n p i c k. absurd (false≢true i)
  shapes_back (or_shape s ss) = shape_back s ss (both_back s).0 (shapes_back ss)

  variants_back : (vs : Variants) → VariantsBack vs
  variants_back no_variants = λ tag n p i c a ms agree k. absurd (false≢true i)
  variants_back (variant name s vs) = variant_back name s vs (both_back s).1 (variants_back vs)

-- what is written of plain data of the shape reads back as it
pub reads_back : (s : Shape) → Back s
reads_back s = (both_back s).0
