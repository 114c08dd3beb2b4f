-- Entries of maps, and the members that they are read from and written as.
use Rattle.std.proofs.Common.{◌≡◌, ℕ, List, [], ◌∷◌, Bool, true, false, cond, Option, Some, None, string_bytes, string_cmp, String, Global, Ordering, Less, Equal, Greater, nat_cmp, refl, sym, ap, ◌∙◌}
use Rattle.std.proofs.lemmas.Cmp.{nat_list_cmp_total, tied_itself}
use Rattle.std.proofs.lemmas.Option.{none-some}
use Rattle.std.specs.Cmp.Lexicographic.{slice_cmp}
use Rattle.std.specs.List.{AllByRecursion}
use Rattle.std.specs.List.Sorted.{IsStrictlySortedBy}
use Rattle.std.specs.Map.{keys_of}
use Rattle.std.specs.Ordering.{match_ordering, ordering_reverse}
use Rattle.std.specs.BTreeMap.{BTreeMap}
use Rattle.std.specs.List.{AllZip}
use Rattle.serde_json.proofs.Views.{view-Object}
use Rattle.serde_json.specs.Data.{Data, object, Members, no_members, member}
use Rattle.serde_json.specs.Find.{get_member}
use Rattle.serde_json.specs.View.{view, members_view}
use Rattle.serde_json.specs.declared.value.Value.{Value, Object}
use Rattle.lsp_shape.specs.Plain.{Plain, leaf, absent, present, entry, parts, choice, parts_of, Parts, no_parts, part, put_entry}
use Rattle.lsp_shape.specs.Shape.{any, every_text, object_shape, has_name}
use Rattle.lsp_shape.specs.Read.{read, read_entries, read_entry, and_part}
use Rattle.lsp_shape.specs.Write.{write, write_leaf, write_entries}
use Rattle.lsp_shape.specs.Values.{every, is_entry, is_leaf}
use Rattle.lsp_shape.specs.Shown.{show_members, show_object}
use Rattle.lsp_shape.proofs.Ascending.{Below, Ascending, text_order}

pub read_entries-members : (es : List (String Global × Value)) → read_entries [] every_text (read any) (members_view es) ≡ Some (parts_of (show_members es))
read_entries-members [] = refl
read_entries-members (e ∷ es) = ap (and_part (Some (entry (string_bytes e.0) (leaf (view e.1))))) (read_entries-members es)

pub write_entries-members : (es : List (String Global × Value)) → write_entries write_leaf (parts_of (show_members es)) ≡ members_view es
write_entries-members [] = refl
write_entries-members (e ∷ es) = ap (member (string_bytes e.0) (view e.1)) (write_entries-members es)

pub every-members : (es : List (String Global × Value)) → every (is_entry every_text (is_leaf (λ d. true))) (parts_of (show_members es)) ≡ true
every-members [] = refl
every-members (e ∷ es) = every-members es

-- the clone of an object
pub members-clone : (es fs : List (String Global × Value)) → AllZip (λ p q. (string_bytes q.0 ≡ string_bytes p.0) × (view q.1 ≡ view p.1)) es fs → members_view es ≡ members_view fs
members-clone [] [] z = refl
members-clone [] (f ∷ fs) z = absurd z
members-clone (e ∷ es) [] z = absurd z
members-clone (e ∷ es) (f ∷ fs) z = rw (z.0.0, z.0.1, members-clone es fs z.1) refl

pub object_read : (m n : BTreeMap (String Global) Value) (d : Data) → d ≡ object (members_view m.entries) → members_view m.entries ≡ members_view n.entries → read object_shape d ≡ Some (show_object n)
object_read m n d e same = rw (e, same, read_entries-members n.entries) refl

pub object_written : (m n : BTreeMap (String Global) Value) → members_view m.entries ≡ members_view n.entries → view (Object n) ≡ write object_shape (show_object m)
object_written m n same = view-Object n ∙ ap object (sym same ∙ sym (write_entries-members m.entries))

pub ruleset object_lemmas = (read_entries-members, write_entries-members, every-members)

-- ---- a map that is read member by member

-- what is read, where these come first
abbrev pub after_parts : Parts → Option Parts → Option Parts
after_parts no_parts o = o
after_parts (part p ps) o = and_part (Some p) (after_parts ps o)

pub after_parts-None : (ps : Parts) → after_parts ps None ≡ None
after_parts-None no_parts = refl
after_parts-None (part p ps) = ap (and_part (Some p)) (after_parts-None ps)

pub after_parts-end : (ps : Parts) → after_parts ps (Some no_parts) ≡ Some ps
after_parts-end no_parts = refl
after_parts-end (part p ps) = ap (and_part (Some p)) (after_parts-end ps)

-- each is an entry, with a key below those of the members
abbrev pub Before : Parts → Members → Type 0
Before no_parts ms = Unit {0}
Before (part (leaf d) ps) ms = ⊥
Before (part absent ps) ms = ⊥
Before (part (present p) ps) ms = ⊥
Before (part (parts qs) ps) ms = ⊥
Before (part (entry k p) ps) ms = Below k ms × Before ps ms
Before (part (choice n p) ps) ms = ⊥

pub before_later : (ps : Parts) (k : List ℕ) (d : Data) (ms : Members) → Before ps (member k d ms) → Before ps ms
before_later no_parts k d ms b = tt
before_later (part (leaf e) ps) k d ms b = absurd b
before_later (part absent ps) k d ms b = absurd b
before_later (part (present p) ps) k d ms b = absurd b
before_later (part (parts qs) ps) k d ms b = absurd b
before_later (part (entry l p) ps) k d ms b = (b.0.1, before_later ps k d ms b.1)
before_later (part (choice n p) ps) k d ms b = absurd b

higher : (k l : List ℕ) → slice_cmp nat_cmp l k ≡ Less → slice_cmp nat_cmp k l ≡ Greater
higher k l e = nat_list_cmp_total.antisymm k l ∙ ap ordering_reverse e

-- an entry with a higher key goes last
pub after_parts-put : (k : List ℕ) (p : Plain) (d : Data) (ms : Members) (ps : Parts) (o : Option Parts) → Before ps (member k d ms) → after_parts (put_entry k p ps) o ≡ after_parts ps (and_part (Some (entry k p)) o)
after_parts-put k p d ms no_parts o b = refl
after_parts-put k p d ms (part (leaf e) ps) o b = absurd b
after_parts-put k p d ms (part absent ps) o b = absurd b
after_parts-put k p d ms (part (present q) ps) o b = absurd b
after_parts-put k p d ms (part (parts qs) ps) o b = absurd b
after_parts-put k p d ms (part (entry l q) ps) o b = rw (higher k l b.0.0) (ap (and_part (Some (entry l q))) (after_parts-put k p d ms ps o b.1))
after_parts-put k p d ms (part (choice n q) ps) o b = absurd b

pub before_put : (k : List ℕ) (p : Plain) (d : Data) (ms : Members) (ps : Parts) → Before ps (member k d ms) → Below k ms → Before (put_entry k p ps) ms
before_put k p d ms no_parts b c = (c, tt)
before_put k p d ms (part (leaf e) ps) b c = absurd b
before_put k p d ms (part absent ps) b c = absurd b
before_put k p d ms (part (present q) ps) b c = absurd b
before_put k p d ms (part (parts qs) ps) b c = absurd b
before_put k p d ms (part (entry l q) ps) b c = rw (higher k l b.0.0) (b.0.1, before_put k p d ms ps b.1 c)
before_put k p d ms (part (choice n q) ps) b c = absurd b

below_members : (k : String Global) (es : List (String Global × Value)) → AllByRecursion (λ y. string_cmp k y ≡ Less) (keys_of es) → Below (string_bytes k) (members_view es)
below_members k [] a = tt
below_members k (e ∷ es) a = (a.0, below_members k es a.1)

pub ascending_members : (es : List (String Global × Value)) → IsStrictlySortedBy string_cmp (keys_of es) → Ascending (members_view es)
unfolding IsStrictlySortedBy
ascending_members [] a = tt
ascending_members (e ∷ es) a = (below_members e.0 es a.0, ascending_members es a.1)

-- ---- members that are found

below_none : (k : List ℕ) (ms : Members) → Below k ms → get_member k ms ≡ None
below_none k no_members b = refl
below_none k (member l d ms) b = rw b.0 (below_none k ms b.1)

-- a member that is found behind the first is found
found_behind : (q k : List ℕ) (d x : Data) (ms : Members) → Below k ms → get_member q ms ≡ Some x → get_member q (member k d ms) ≡ Some x
found_behind q k d x ms b is = at (slice_cmp nat_cmp q k) refl
  where
    at : (o : Ordering) → slice_cmp nat_cmp q k ≡ o → match_ordering o (get_member q ms) (Some d) (get_member q ms) ≡ Some x
    at Less e = is
    at Equal e = absurd (none-some x (sym (below_none k ms b) ∙ ap (λ n. get_member n ms) (sym (text_order q k e)) ∙ is))
    at Greater e = is

found_here : (k : List ℕ) (d : Data) (ms : Members) → get_member k (member k d ms) ≡ Some d
found_here k d ms = rw (tied_itself nat_list_cmp_total k) refl

-- the members that are left, while a map is read
pub record IsReadSoFar (ns : List (List ℕ)) (test : List ℕ → Bool) (f : Data → Option Plain) (all left : Members) (done : Parts) : Type 0 where
  pub same : read_entries ns test f all ≡ after_parts done (read_entries ns test f left)
  pub before : Before done left
  pub ascending : Ascending left
  pub found : (q : List ℕ) (x : Data) → get_member q left ≡ Some x → get_member q all ≡ Some x

module _ (ns : List (List ℕ)) (test : List ℕ → Bool) (f : Data → Option Plain) (all : Members) where
  pub begun : Ascending all → IsReadSoFar ns test f all all no_parts
  begun a = record { same = refl; before = tt; ascending = a; found = λ q x is. is }

  -- a member that is named is passed over
  pub passed_over : (k : List ℕ) (d : Data) (left : Members) (done : Parts) → has_name k ns ≡ true → IsReadSoFar ns test f all (member k d left) done → IsReadSoFar ns test f all left done
  passed_over k d left done h s = record {
    same = s.same ∙ ap (after_parts done) (cond_true (has_name k ns) _ _ h);
    before = before_later done k d left s.before;
    ascending = s.ascending.1;
    found = λ q x is. s.found q x (found_behind q k d x left s.ascending.0 is);
  }
    where
      cond_true : (b : Bool) (x y : Option Parts) → b ≡ true → cond b x y ≡ x
      cond_true b x y e = rw e refl

  next_is : (k : List ℕ) (d : Data) (left : Members) → has_name k ns ≡ false → read_entries ns test f (member k d left) ≡ and_part (read_entry test f k d) (read_entries ns test f left)
  next_is k d left h = rw h refl

  one_entry : (k : List ℕ) (d : Data) (p : Plain) → test k ≡ true → f d ≡ Some p → read_entry test f k d ≡ Some (entry k p)
  one_entry k d p t e = rw (t, e) refl

  -- a member that is read
  pub read_more : (k : List ℕ) (d : Data) (left : Members) (done : Parts) (p : Plain) → has_name k ns ≡ false → test k ≡ true → f d ≡ Some p → IsReadSoFar ns test f all (member k d left) done
      → IsReadSoFar ns test f all left (put_entry k p done)
  read_more k d left done p h t e s = record {
    same = s.same ∙ ap (after_parts done) (next_is k d left h ∙ ap (λ o. and_part o (read_entries ns test f left)) (one_entry k d p t e)) ∙ sym (after_parts-put k p d left done _ s.before);
    before = before_put k p d left done s.before s.ascending.0;
    ascending = s.ascending.1;
    found = λ q x is. s.found q x (found_behind q k d x left s.ascending.0 is);
  }

  no_key : (k : List ℕ) (d : Data) → test k ≡ false → read_entry test f k d ≡ None
  no_key k d t = rw t refl

  not_read : (k : List ℕ) (d : Data) (left : Members) (done : Parts) → has_name k ns ≡ false → read_entry test f k d ≡ None → IsReadSoFar ns test f all (member k d left) done → read_entries ns test f all ≡ None
  not_read k d left done h e s = s.same ∙ ap (after_parts done) (next_is k d left h ∙ ap (λ o. and_part o (read_entries ns test f left)) e) ∙ after_parts-None done

  -- a member whose key does not fit
  pub key_unfit : (k : List ℕ) (d : Data) (left : Members) (done : Parts) → has_name k ns ≡ false → test k ≡ false → IsReadSoFar ns test f all (member k d left) done → read_entries ns test f all ≡ None
  key_unfit k d left done h t s = not_read k d left done h (no_key k d t) s

  pub next_found : (k : List ℕ) (d : Data) (left : Members) (done : Parts) → IsReadSoFar ns test f all (member k d left) done → get_member k all ≡ Some d
  next_found k d left done s = s.found k d (found_here k d left)

  pub ended : (done : Parts) → IsReadSoFar ns test f all no_members done → read_entries ns test f all ≡ Some done
  ended done s = s.same ∙ after_parts-end done
