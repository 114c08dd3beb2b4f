-- What is written of the items of a list or the entries of a map reads back.
use Rattle.std.proofs.Common.{◌≡◌, ℕ, ◌+◌, ◌≤◌, List, Bool, true, false, not, ◌&&◌, cond, Option, Some, None, true≢false, refl, sym, ap, ◌∙◌, arith, Ordering, Less, Equal, Greater, nat_cmp}
use Rattle.std.proofs.lemmas.Bool.{and_parts, not-true, false≢true}
use Rattle.std.specs.Cmp.Lexicographic.{slice_cmp}
use Rattle.std.specs.Ordering.{match_ordering}
use Rattle.serde_json.specs.Data.{Data, Members, no_members, member, put}
use Rattle.serde_json.specs.Find.{get_member}
use Rattle.lsp_shape.specs.Plain.{Plain, leaf, absent, present, parts, entry, choice, Parts, no_parts, part, plain_depth, parts_depth}
use Rattle.lsp_shape.specs.Shape.{has_name}
use Rattle.lsp_shape.specs.Read.{read_items, and_part, item_count, read_list, read_entries, read_entry}
use Rattle.lsp_shape.specs.Write.{write_items, write_list, write_entries, put_all}
use Rattle.lsp_shape.specs.Values.{every, part_count, counted, is_parts, clear_parts, is_entry, clear_entry}
use Rattle.lsp_shape.proofs.Leaves.{BackBelow}
use Rattle.lsp_shape.proofs.Ascending.{text_order}
use Rattle.lsp_shape.proofs.PutAll.{skips, first_is}

pub items_back : (n : ℕ) (f : Data → Option Plain) (w : Plain → Data) (is cl : Plain → Bool) → BackBelow n f w is cl → (ps : Parts) → parts_depth ps ≤ n → every is ps ≡ true → every cl ps ≡ true
    → read_items f (write_items w ps) ≡ Some ps
items_back n f w is cl back no_parts h i c = refl
items_back n f w is cl back (part p ps) h i c =
    let j = and_parts (is p) (every is ps) i in
    let d = and_parts (cl p) (every cl ps) c in
    let here : plain_depth p ≤ n = omega arith in
    let more : parts_depth ps ≤ n = omega arith in
    rw (back p here j.0 d.0, items_back n f w is cl back ps more j.1 d.1) refl

items_counted : (w : Plain → Data) (ps : Parts) → item_count (write_items w ps) ≡ part_count ps
items_counted w no_parts = refl
items_counted w (part p ps) = ap (λ n. n + 1) (items_counted w ps)

pub list_back : (test : ℕ → Bool) (n : ℕ) (f : Data → Option Plain) (w : Plain → Data) (is cl : Plain → Bool) → BackBelow n f w is cl → (p : Plain) → plain_depth p ≤ n
    → is_parts (counted test is) p ≡ true → clear_parts (every cl) p ≡ true → read_list test f (write_list w p) ≡ Some p
list_back test n f w is cl back (leaf d) h i c = absurd (false≢true i)
list_back test n f w is cl back absent h i c = absurd (false≢true i)
list_back test n f w is cl back (present p) h i c = absurd (false≢true i)
list_back test n f w is cl back (parts ps) h i c =
    let t = and_parts (test (part_count ps)) (every is ps) i in
    let deep : parts_depth ps ≤ n = omega arith in
    rw (items_counted w ps, t.0, items_back n f w is cl back ps deep t.1 c) refl
list_back test n f w is cl back (entry k p) h i c = absurd (false≢true i)
list_back test n f w is cl back (choice m p) h i c = absurd (false≢true i)

one_entry : (ns : List (List ℕ)) (test : List ℕ → Bool) (f : Data → Option Plain) (k : List ℕ) (d : Data) (p : Plain) (ms : Members) (ps : Parts) → has_name k ns ≡ false → test k ≡ true → f d ≡ Some p
    → read_entries ns test f ms ≡ Some ps → read_entries ns test f (member k d ms) ≡ Some (part (entry k p) ps)
one_entry ns test f k d p ms ps other passes here later = rw (other, passes, here, later) refl

pub entries_back : (ns : List (List ℕ)) (test : List ℕ → Bool) (f : Data → Option Plain) (w : Plain → Data) (is cl : Plain → Bool) → ((p : Plain) → is p ≡ true → cl p ≡ true → f (w p) ≡ Some p) → (ps : Parts)
    → every (is_entry test is) ps ≡ true → every (clear_entry ns cl) ps ≡ true → read_entries ns test f (write_entries w ps) ≡ Some ps
entries_back ns test f w is cl back no_parts i c = refl
entries_back ns test f w is cl back (part (leaf d) ps) i c = absurd (false≢true i)
entries_back ns test f w is cl back (part absent ps) i c = absurd (false≢true i)
entries_back ns test f w is cl back (part (present p) ps) i c = absurd (false≢true i)
entries_back ns test f w is cl back (part (parts qs) ps) i c = absurd (false≢true i)
entries_back ns test f w is cl back (part (entry k p) ps) i c =
    let j = and_parts (test k && is p) (every (is_entry test is) ps) i in
    let d = and_parts (not (has_name k ns) && cl p) (every (clear_entry ns cl) ps) c in
    let key = and_parts (test k) (is p) j.0 in
    let own = and_parts (not (has_name k ns)) (cl p) d.0 in
    one_entry ns test f k (w p) p _ ps (not-true (has_name k ns) own.0) key.0 (back p key.1 own.1) (entries_back ns test f w is cl back ps j.1 d.1)
entries_back ns test f w is cl back (part (choice m p) ps) i c = absurd (false≢true i)

-- a record's map has no member that a field names
pub no_key_of : (ns : List (List ℕ)) (w : Plain → Data) (cl : Plain → Bool) (test : List ℕ → Bool) (is : Plain → Bool) (ps : Parts) → every (is_entry test is) ps ≡ true → every (clear_entry ns cl) ps ≡ true
    → (q : List ℕ) → has_name q ns ≡ true → get_member q (write_entries w ps) ≡ None
no_key_of ns w cl test is no_parts i c q h = refl
no_key_of ns w cl test is (part (leaf d) ps) i c q h = absurd (false≢true i)
no_key_of ns w cl test is (part absent ps) i c q h = absurd (false≢true i)
no_key_of ns w cl test is (part (present p) ps) i c q h = absurd (false≢true i)
no_key_of ns w cl test is (part (parts qs) ps) i c q h = absurd (false≢true i)
no_key_of ns w cl test is (part (entry k p) ps) i c q h =
    let j = and_parts (test k && is p) (every (is_entry test is) ps) i in
    let d = and_parts (not (has_name k ns) && cl p) (every (clear_entry ns cl) ps) c in
    let own = and_parts (not (has_name k ns)) (cl p) d.0 in
    skips q k (w p) _ (λ e. true≢false (sym h ∙ ap (λ n. has_name n ns) e ∙ not-true (has_name k ns) own.0))
    ∙ no_key_of ns w cl test is ps j.1 d.1 q h
no_key_of ns w cl test is (part (choice m p) ps) i c q h = absurd (false≢true i)

-- ---- members that are named are not read into the map

named : (ns : List (List ℕ)) (test : List ℕ → Bool) (f : Data → Option Plain) (k : List ℕ) (d : Data) (ms : Members) → has_name k ns ≡ true → read_entries ns test f (member k d ms) ≡ read_entries ns test f ms
named ns test f k d ms h = rw h refl

pub entries_put : (ns : List (List ℕ)) (test : List ℕ → Bool) (f : Data → Option Plain) (k : List ℕ) (d : Data) (ms : Members) → has_name k ns ≡ true → read_entries ns test f (put k d ms) ≡ read_entries ns test f ms
entries_put ns test f k d no_members h = named ns test f k d no_members h
entries_put ns test f k d (member l e ms) h = at (entries_put ns test f k d ms h) (slice_cmp nat_cmp k l) refl
  where
    at : read_entries ns test f (put k d ms) ≡ read_entries ns test f ms → (o : Ordering) → slice_cmp nat_cmp k l ≡ o
        → read_entries ns test f (match_ordering o (member k d (member l e ms)) (member l d ms) (member l e (put k d ms))) ≡ read_entries ns test f (member l e ms)
    at later Less o = named ns test f k d (member l e ms) h
    at later Equal o =
        let same : has_name l ns ≡ true = ap (λ n. has_name n ns) (sym (text_order k l o)) ∙ h in
        named ns test f l d ms same ∙ sym (named ns test f l e ms same)
    at later Greater o = ap (λ r. cond (has_name l ns) r (and_part (read_entry test f l e) r)) later

-- members of which each is named
abbrev pub AllNamed : List (List ℕ) → Members → Type 0
AllNamed ns ms = (q : List ℕ) → has_name q ns ≡ false → get_member q ms ≡ None

first_named : (ns : List (List ℕ)) (k : List ℕ) (d : Data) (ms : Members) → AllNamed ns (member k d ms) → has_name k ns ≡ true
first_named ns k d ms all = at (has_name k ns) refl
  where
    at : (b : Bool) → has_name k ns ≡ b → b ≡ true
    at true e = refl
    at false e = let none : Some d ≡ None = sym (first_is k k d ms refl) ∙ all k e in absurd cc

later_named : (ns : List (List ℕ)) (k : List ℕ) (d : Data) (ms : Members) → AllNamed ns (member k d ms) → AllNamed ns ms
later_named ns k d ms all = λ q h. sym (skips q k d ms (λ e. true≢false (sym (first_named ns k d ms all) ∙ ap (λ n. has_name n ns) (sym e) ∙ h))) ∙ all q h

pub entries_put_all : (ns : List (List ℕ)) (test : List ℕ → Bool) (f : Data → Option Plain) (ms os : Members) → AllNamed ns ms → read_entries ns test f (put_all ms os) ≡ read_entries ns test f os
entries_put_all ns test f no_members os all = refl
entries_put_all ns test f (member k d ms) os all =
    entries_put_all ns test f ms (put k d os) (later_named ns k d ms all) ∙ entries_put ns test f k d os (first_named ns k d ms all)
