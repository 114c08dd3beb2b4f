-- Why a value is not read: from a part of it to the whole.
use Rattle.std.proofs.Common.{◌≡◌, ◌⊎◌, inl, inr, ℕ, zero, suc, ◌+◌, ◌≤◌, length, arith, Bor, List, [], ◌∷◌, ◌++◌, Bool, true, false, cond, ℤ, pos, Option, Some, None, option_map, is_some, refl, ap, sym, subst, ◌∙◌, Ordering, Less, Equal, Greater, nat_cmp}
use Rattle.std.specs.Prelude.{Result, Ok, Err, IsErrAnd, bytes_eq, option_and_then}
use Rattle.std.specs.Cmp.Lexicographic.{slice_cmp}
use Rattle.std.specs.Ordering.{match_ordering}
use Rattle.std.proofs.lemmas.Bool.{false≢true}
use Rattle.std.proofs.lemmas.List.{length-append}
use Rattle.std.proofs.lemmas.Option.{none-some, same_Some, some_pair_parts}
use Rattle.serde_json.specs.View.{view}
use Rattle.serde_json.specs.declared.value.Value.{Value}
use Rattle.serde_json.specs.Data.{Data, null, boolean, number, string, array, object, Items, no_items, item, Members, no_members, member}
use Rattle.serde_json.specs.Find.{get, get_member, get_item, at, as_null, as_bool, as_number, as_str, as_array, as_object}
use Rattle.lsp_shape.specs.Plain.{Plain, present, parts, entry, Parts, no_parts, part}
use Rattle.lsp_shape.specs.Shape.{Rule, Count, required, omitted, nullable, or_empty, or_false, unless_empty, unless_false, Shape, truth, nil, integer, bits, text, list_of, list, maybe, map_of, recursive, fields, fields_and, union, tagged, Fields, no_fields, field, flat, supported, again, has_name, field_names}
use Rattle.lsp_shape.specs.Read.{read, read_nil, read_truth, read_integer, read_text, read_fields, read_member, read_supported, read_or_truth, read_maybe, read_items, read_list, item_count, read_entry, read_entries, read_map, and_part, and_rest, read_count, reads_none}
use Rattle.lsp_shape.specs.Why.{Downward, to_member, to_item, below, found_at, name_at, nth_step, step_before, and_further, path_by, is_kind, is_all, is_left_out, is_long, IsReason, steps_of, Fails, Refuses, IfUnfit, IsUnfit, IsWhole, IsForMember, IsUnder, IsInMember, IsInItem, IsOfMember, IsOfItem, one_field, one_supported, fields_of, read_rule, named_field, named_supported, HasFlat, IsMapBeside, AnyRefuses, suits, Lacks}
use Rattle.lsp_shape.specs.declared.why.Misfit.{Misfit}
use Rattle.lsp_shape.specs.declared.why.Misfit.TheVariants as misfits
use Rattle.lsp_shape.specs.declared.why.Wanted.{Wanted}
use Rattle.lsp_shape.specs.declared.why.Wanted.TheVariants as wants
use Rattle.lsp_shape.specs.declared.why.Why.{Why}
use Rattle.lsp_shape.proofs.Ascending.{text_order}
use Rattle.lsp_shape.proofs.Tested.{never_read}
use Rattle.lsp_shape.proofs.Names.{are_same}
use Rattle.lsp_shape.proofs.Options.{then_some, then_assoc, not_some}

pub none_right : (o : Option Plain) (r : Option Parts) → r ≡ None → and_part o r ≡ None
none_right None r a = refl
none_right (Some p) r a = rw a refl

pub none_left : (o : Option Plain) (r : Option Parts) → o ≡ None → and_part o r ≡ None
none_left o r a = rw a refl

true≢false : {A : Type 0} → true ≡ false → A
true≢false e = absurd (false≢true (sym e))

-- ---- paths

found_at-append : (p q : List Downward) (d : Data) → found_at (p ++ q) d ≡ option_and_then (found_at q) (found_at p d)
found_at-append [] q d = refl
found_at-append (s ∷ p) q d = then_assoc (found_at p) (found_at q) (found_at (p ++ q)) (found_at-append p q) (below s d)

further_at : (s : Downward) (o : Option Data) (f g : Data → List Downward) (m : ℕ) → ((x : Data) → (more : List Downward) × (f x ≡ g x ++ more) × (length more ≤ m))
    → (more : List Downward) × (step_before s (option_map f o) ≡ step_before s (option_map g o) ++ more) × (length more ≤ m)
further_at s None f g m h = ([], refl, omega arith)
further_at s (Some x) f g m h = let more = h x in (more.0, ap (λ (p : List Downward). s ∷ p) more.1, more.2)

further : (o : Option Downward) (f g : Data → List Downward) (m : ℕ) → ((x : Data) → (more : List Downward) × (f x ≡ g x ++ more) × (length more ≤ m))
    → (d : Data) → (more : List Downward) × (and_further o f d ≡ and_further o g d ++ more) × (length more ≤ m)
further None f g m h d = ([], refl, omega arith)
further (Some s) f g m h d = further_at s (below s d) f g m h

-- a path has no more steps than numbers
step_short : (s : Downward) (o : Option (List Downward)) (m : ℕ) → ((p : List Downward) → o ≡ Some p → length p ≤ m) → length (step_before s o) ≤ suc m
step_short s None m h = omega arith
step_short s (Some p) m h = let e = h p refl in omega (arith, e)

map_within : (f : Data → List Downward) (o : Option Data) (m : ℕ) → ((x : Data) → length (f x) ≤ m) → (p : List Downward) → option_map f o ≡ Some p → length p ≤ m
map_within f None m h p e = absurd (none-some p e)
map_within f (Some x) m h p e = subst (λ (q : List Downward). length q ≤ m) (same_Some (f x) p e) (h x)

further_short : (o : Option Downward) (f : Data → List Downward) (m : ℕ) → ((x : Data) → length (f x) ≤ m) → (d : Data) → length (and_further o f d) ≤ suc m
further_short None f m h d = omega arith
further_short (Some s) f m h d = step_short s (option_map f (below s d)) m (map_within f (below s d) m h)

path_by-short : (ns : List ℕ) (d : Data) → length (path_by ns d) ≤ length ns
path_by-short [] d = omega arith
path_by-short (n ∷ ns) d = further_short (nth_step n d) (path_by ns) (length ns) (path_by-short ns) d

-- with more numbers the path leads on
path_by-append : (ns lost : List ℕ) (d : Data) → (more : List Downward) × (path_by (ns ++ lost) d ≡ path_by ns d ++ more) × (length more ≤ length lost)
path_by-append [] lost d = (path_by lost d, refl, path_by-short lost d)
path_by-append (n ∷ ns) lost d = further (nth_step n d) (path_by (ns ++ lost)) (path_by ns) (length lost) (path_by-append ns lost) d

-- where all numbers lead on, so do the first of them
led_before : (ns lost : List ℕ) (d : Data) → length (path_by (ns ++ lost) d) ≡ length (ns ++ lost) → length (path_by ns d) ≡ length ns
led_before ns lost d led =
    let m = path_by-append ns lost d in
    let sum : length (path_by ns d) + length m.0 ≡ length ns + length lost = sym (length-append (path_by ns d) m.0) ∙ sym (ap length m.1) ∙ led ∙ length-append ns lost in
    let rest = m.2 in
    let short = path_by-short ns d in
    omega (arith, sum, rest, short)

longer : {A : Type 0} (s : Downward) (p : List Downward) → (8 ≤ length p) ⊎ A → (8 ≤ length (s ∷ p)) ⊎ A
longer s p (inl h) = inl (omega (arith, h))
longer s p (inr a) = inr a

-- what has one of that number has those before it
name_before : (m n : ℕ) (ms : Members) (k : List ℕ) → m ≤ n → name_at n ms ≡ Some k → is_some (name_at m ms) ≡ true
name_before m n no_members k h e = absurd (none-some k e)
name_before zero n (member l d ms) k h e = refl
name_before (suc m) zero (member l d ms) k h e = absurd (omega (arith, h))
name_before (suc m) (suc n) (member l d ms) k h e = name_before m n ms k (omega (arith, h)) e

item_before : (m n : ℕ) (ds : Items) (x : Data) → m ≤ n → get_item n ds ≡ Some x → is_some (get_item m ds) ≡ true
item_before m n no_items x h e = absurd (none-some x e)
item_before zero n (item d ds) x h e = refl
item_before (suc m) zero (item d ds) x h e = absurd (omega (arith, h))
item_before (suc m) (suc n) (item d ds) x h e = item_before m n ds x (omega (arith, h)) e

abbrev is_inside : Wanted → Bool
is_inside wants.Inside = true
is_inside _ = false

-- another word
other_word : {A : Type 0} (w : Wanted) → is_inside w ≡ false → w ≡ wants.Inside → A
other_word w e same = absurd (false≢true (sym e ∙ ap is_inside same))

-- ---- reasons

module _ (f : Data → Option Plain) (d : Data) where
  pub moved : (p q : List Downward) (v w : Wanted) → p ≡ q → v ≡ w → IsReason f d q w → IsReason f d p v
  moved p q v w e g r = rw (e, g) r

  -- what is wanted of the value as a whole
  pub here : (w : Wanted) → f d ≡ None → (is_all w ≡ true → is_kind w d ≡ false)
      → ((e : Data) → is_kind w e ≡ false → is_left_out e ≡ false → f e ≡ None) → (w ≡ wants.Inside → is_long d ≡ true) → IsReason f d [] w
  here w none other needed long = record {
    found = d;
    there = refl;
    other = other;
    alone = λ e same. ap (option_and_then f) same ∙ none;
    needed = λ e x same k l. ap (option_and_then f) same ∙ needed x k l;
    far = λ is. inr (long is);
  }

  -- something in what stands there
  pub cut : (p q : List Downward) (w : Wanted) → 8 ≤ length p → IsReason f d (p ++ q) w → IsReason f d p wants.Inside
  cut p q w deep r =
      let b = then_some (found_at q) (found_at p d) r.found (sym (found_at-append p q d) ∙ r.there) in
      record {
        found = b.0;
        there = b.1;
        other = λ e. absurd (false≢true e);
        alone = λ e same. r.alone e (found_at-append p q e ∙ ap (option_and_then (found_at q)) same ∙ b.2);
        needed = λ e x same k l. true≢false k;
        far = λ is. inl deep;
      }

-- one step down
stepped : (f g : Data → Option Plain) (s : Downward) (d x : Data) (p : List Downward) (w : Wanted) → below s d ≡ Some x
    → ((e y : Data) → below s e ≡ Some y → f y ≡ None → g e ≡ None) → IsReason f x p w → IsReason g d (s ∷ p) w
stepped f g s d x p w is h r = record {
  found = r.found;
  there = ap (option_and_then (found_at p)) is ∙ r.there;
  other = r.other;
  alone = λ e same. let b = then_some (found_at p) (below s e) r.found same in h e b.0 b.1 (r.alone b.0 b.2);
  needed = λ e y same k l. let b = then_some (found_at p) (below s e) y same in h e b.0 b.1 (r.needed b.0 y b.2 k l);
  far = λ is. longer s p (r.far is);
}

-- ---- reasons of a misfit

pub fails_none : {f : Data → Option Plain} {d : Data} {why : Why} → Fails f d why → f d ≡ None
fails_none u = u.reason.alone _ u.reason.there

pub refuses_none : {s : Shape} {d : Data} {why : Why} → Refuses s d why → read s d ≡ None
refuses_none r = fails_none r.fails

-- what is not read by one is not read by the other
pub leads : {f g : Data → Option Plain} {d : Data} {why : Why} → ((e : Data) → f e ≡ None → g e ≡ None) → Fails f d why → Fails g d why
leads h u = record {
  reason = record {
    found = u.reason.found;
    there = u.reason.there;
    other = u.reason.other;
    alone = λ e same. h e (u.reason.alone e same);
    needed = λ e x same k l. h e (u.reason.needed e x same k l);
    far = u.reason.far;
  };
  led = u.led;
}

pub refuses_leads : {s t : Shape} {d : Data} {why : Why} → ((e : Data) → read s e ≡ None → read t e ≡ None) → Refuses s d why → Refuses t d why
refuses_leads h r = record { fails = leads h r.fails }

all_lead : (d : Data) (ms ns : List ℕ) → ms ≡ ns → length (path_by ns d) ≡ length ns → length (path_by ms d) ≡ length ms
all_lead d ms ns e led = subst (λ (ks : List ℕ). length (path_by ks d) ≡ length ks) (sym e) led

pub fails_whole : {f : Data → Option Plain} {d : Data} {why : Why} (w : Wanted) → IsWhole w why → f d ≡ None → (is_all w ≡ true → is_kind w d ≡ false)
    → ((e : Data) → is_kind w e ≡ false → is_left_out e ≡ false → f e ≡ None) → (w ≡ wants.Inside → is_long d ≡ true) → Fails f d why
fails_whole {f} {d} {why} w a none other needed long = record {
  reason = moved f d (path_by (steps_of why) d) [] why.wanted w (ap (λ (ns : List ℕ). path_by ns d) a.0) a.1 (here f d w none other needed long);
  led = all_lead d (steps_of why) [] a.0 refl;
}

under_fails : (g : Data → Option Plain) (d : Data) (n : ℕ) (old new : Why) → IsUnder n old new
    → length (path_by (n ∷ steps_of old) d) ≡ length (n ∷ steps_of old) → IsReason g d (path_by (n ∷ steps_of old) d) old.wanted → Fails g d new
under_fails g d n old new (inl a) led r = record {
  reason = moved g d (path_by (steps_of new) d) (path_by (n ∷ steps_of old) d) new.wanted old.wanted (ap (λ (ns : List ℕ). path_by ns d) a.0) a.1 r;
  led = all_lead d (steps_of new) (n ∷ steps_of old) a.0 led;
}
under_fails g d n old new (inr a) led r =
    let more = path_by-append (steps_of new) a.0 d in
    let same : path_by (n ∷ steps_of old) d ≡ path_by (steps_of new) d ++ more.0 = ap (λ (ns : List ℕ). path_by ns d) (sym a.1) ∙ more.1 in
    let all : length (path_by (steps_of new) d) ≡ length (steps_of new) = led_before (steps_of new) a.0 d (all_lead d (steps_of new ++ a.0) (n ∷ steps_of old) a.1 led) in
    let eight = a.3 in
    record {
      reason = moved g d (path_by (steps_of new) d) (path_by (steps_of new) d) new.wanted wants.Inside refl a.2
          (cut g d (path_by (steps_of new) d) more.0 old.wanted (omega (arith, all, eight)) (moved g d (path_by (steps_of new) d ++ more.0) (path_by (n ∷ steps_of old) d) old.wanted old.wanted (sym same) refl r));
      led = all;
    }

-- the reason of a member or an item, as one of the whole
below_fails : (f g : Data → Option Plain) (s : Downward) (n : ℕ) (d x : Data) (old new : Why) → ((ns : List ℕ) → path_by (n ∷ ns) d ≡ s ∷ path_by ns x) → below s d ≡ Some x
    → ((e y : Data) → below s e ≡ Some y → f y ≡ None → g e ≡ None) → Fails f x old → IsUnder n old new → Fails g d new
below_fails f g s n d x old new path is h u b =
    let r = stepped f g s d x (path_by (steps_of old) x) old.wanted is h u.reason in
    under_fails g d n old new b (ap length (path (steps_of old)) ∙ ap suc u.led) (moved g d (path_by (n ∷ steps_of old) d) (s ∷ path_by (steps_of old) x) old.wanted old.wanted (path (steps_of old)) refl r)

untold_fails : (g : Data → Option Plain) (d : Data) (why : Why) → g d ≡ None → is_long d ≡ true → IsWhole wants.Inside why → Fails g d why
untold_fails g d why none long a = fails_whole wants.Inside a none (λ e. absurd (false≢true e)) (λ e k l. true≢false k) (λ is. long)

path_in : (n : ℕ) (name : List ℕ) (ms : Members) (x : Data) → name_at n ms ≡ Some name → get_member name ms ≡ Some x → (ns : List ℕ) → path_by (n ∷ ns) (object ms) ≡ to_member name ∷ path_by ns x
path_in n name ms x a b ns = rw (a, b) refl

pub member_fails : (f g : Data → Option Plain) (name : List ℕ) (ms : Members) (x : Data) (old new : Why) → get_member name ms ≡ Some x
    → ((e y : Data) → get name e ≡ Some y → f y ≡ None → g e ≡ None) → Fails f x old → IsInMember name ms old new → Fails g (object ms) new
member_fails f g name ms x old new is h u (inl a) = absurd (none-some x (sym a ∙ is))
member_fails f g name ms x old new is h u (inr a) = at_it a.2
  where
    at_it : IsInItem a.0 old new → Fails g (object ms) new
    at_it (inl b) = untold_fails g (object ms) new (h (object ms) x is (fails_none u)) (name_before 65536 a.0 ms name b.0 a.1) b.1
    at_it (inr b) = below_fails f g (to_member name) a.0 (object ms) x old new (path_in a.0 name ms x a.1 is) is h u b

path_to : (n : ℕ) (ds : Items) (x : Data) → get_item n ds ≡ Some x → (ns : List ℕ) → path_by (n ∷ ns) (array ds) ≡ to_item n ∷ path_by ns x
path_to n ds x b ns = rw b refl

pub item_fails : (f g : Data → Option Plain) (n : ℕ) (ds : Items) (x : Data) (old new : Why) → get_item n ds ≡ Some x
    → ((e y : Data) → at n e ≡ Some y → f y ≡ None → g e ≡ None) → Fails f x old → IsInItem n old new → Fails g (array ds) new
item_fails f g n ds x old new is h u (inl a) = untold_fails g (array ds) new (h (array ds) x is (fails_none u)) (item_before 65536 n ds x a.0 is) a.1
item_fails f g n ds x old new is h u (inr a) = below_fails f g (to_item n) n (array ds) x old new (path_to n ds x is) is h u a

-- ---- where null, or more, is read otherwise

reached : (q : Data → Bool) → ((ms : Members) → q (object ms) ≡ false) → ((ds : Items) → q (array ds) ≡ false)
    → (path : List Downward) (e y : Data) → (path ≡ [] → q y ≡ false) → found_at path e ≡ Some y → q e ≡ false
reached q o a [] e y none same = ap q (same_Some e y same) ∙ none refl
reached q o a (to_member name ∷ path) (object ms) y none same = o ms
reached q o a (to_member name ∷ path) e y none same = absurd (none-some y same)
reached q o a (to_item n ∷ path) (array ds) y none same = a ds
reached q o a (to_item n ∷ path) e y none same = absurd (none-some y same)

guarded : (f g : Data → Option Plain) (q : Data → Bool) (d : Data) (why : Why) → ((ms : Members) → q (object ms) ≡ false) → ((ds : Items) → q (array ds) ≡ false)
    → ((x : Data) → is_left_out x ≡ false → q x ≡ false) → ((e : Data) → q e ≡ false → f e ≡ None → g e ≡ None) → q d ≡ false → Fails f d why → Fails g d why
guarded f g q d why o a left h there u =
    let r = u.reason in
    let path : List Downward = path_by (steps_of why) d in
    record {
      reason = record {
        found = r.found;
        there = r.there;
        other = r.other;
        alone = λ e same. h e (reached q o a path e r.found (λ p. same_test r.found (ap (λ (s : List Downward). found_at s d) (sym p) ∙ r.there)) same) (r.alone e same);
        needed = λ e x same k l. h e (reached q o a path e x (λ p. left x l) same) (r.needed e x same k l);
        far = r.far;
      };
      led = u.led;
    }
  where
    same_test : (y : Data) → Some d ≡ Some y → q y ≡ false
    same_test y same = let is : d ≡ y = same_Some d y same in ap q (sym is) ∙ there

present_none : (f : Data → Option Plain) (e : Data) → is_some (as_null e) ≡ false → f e ≡ None → read_maybe f e ≡ None
present_none f null n h = true≢false n
present_none f (boolean b) n h = ap (option_map present) h
present_none f (number b) n h = ap (option_map present) h
present_none f (string b) n h = ap (option_map present) h
present_none f (array b) n h = ap (option_map present) h
present_none f (object b) n h = ap (option_map present) h

not_left_out : (x : Data) → is_left_out x ≡ false → is_some (as_null x) ≡ false
not_left_out null e = true≢false e
not_left_out (boolean b) e = refl
not_left_out (number b) e = refl
not_left_out (string b) e = refl
not_left_out (array b) e = refl
not_left_out (object b) e = refl

-- a value that is not null
pub maybe_refuses : {s : Shape} {d : Data} {why : Why} → is_some (as_null d) ≡ false → Refuses s d why → Refuses (maybe s) d why
maybe_refuses {s} {d} {why} n r = record {
  fails = guarded (read s) (read_maybe (read s)) (λ x. is_some (as_null x)) d why (λ ms. refl) (λ ds. refl) not_left_out (present_none (read s)) n r.fails;
}

pub no_truth_read : (f : Data → Option Plain) (e : Data) → is_some (as_bool e) ≡ false → read_or_truth f e ≡ read_maybe f e
no_truth_read f null n = refl
no_truth_read f (boolean b) n = true≢false n
no_truth_read f (number b) n = refl
no_truth_read f (string b) n = refl
no_truth_read f (array b) n = refl
no_truth_read f (object b) n = refl

not_truth_left_out : (x : Data) → is_left_out x ≡ false → is_some (as_bool x) ≡ false
not_truth_left_out null e = refl
not_truth_left_out (boolean b) e = true≢false e
not_truth_left_out (number b) e = refl
not_truth_left_out (string b) e = refl
not_truth_left_out (array b) e = refl
not_truth_left_out (object b) e = refl

-- a value that is not true or false
pub supported_fails : {s : Shape} {d : Data} {why : Why} → as_bool d ≡ None → Refuses (maybe s) d why → Fails (read_or_truth (read s)) d why
supported_fails {s} {d} {why} n r =
    guarded (read (maybe s)) (read_or_truth (read s)) (λ x. is_some (as_bool x)) d why (λ ms. refl) (λ ds. refl) not_truth_left_out (λ e b h. no_truth_read (read s) e b ∙ h) (ap is_some n) r.fails

-- ---- maps of members

-- the test of names matters only by what it says of each
same_map_read : (ns : List (List ℕ)) (test : List ℕ → Bool) (f : Data → Option Plain) → ((k : List ℕ) → test k ≡ true) → (e : Data)
    → read_map (read_entries ns (λ k. true) f) e ≡ read_map (read_entries ns test f) e
same_map_read ns test f every (object ms) = ap (option_map parts) (same_entries ms)
  where
    same_entries : (ms : Members) → read_entries ns (λ k. true) f ms ≡ read_entries ns test f ms
    same_entries no_members = refl
    same_entries (member k d ms) = rw (every k, same_entries ms) refl
same_map_read ns test f every null = refl
same_map_read ns test f every (boolean b) = refl
same_map_read ns test f every (number b) = refl
same_map_read ns test f every (string b) = refl
same_map_read ns test f every (array b) = refl

-- ---- records

map_none : {o : Option Parts} → option_map parts o ≡ None → o ≡ None
map_none {o = None} e = refl
map_none {o = Some ps} e = absurd (none-some (parts ps) (sym e))

head_none : (o : Option Plain) → and_part o (Some no_parts) ≡ None → o ≡ None
head_none None e = refl
head_none (Some p) e = absurd (none-some (part p no_parts) (sym e))

not_a_record : (fs : Fields) (e : Data) → read_fields fs reads_none e ≡ None → read (fields fs) e ≡ None
not_a_record fs (object ms) h = ap (option_map parts) h
not_a_record fs null h = refl
not_a_record fs (boolean b) h = refl
not_a_record fs (number b) h = refl
not_a_record fs (string b) h = refl
not_a_record fs (array b) h = refl

record_leads : (fs gs : Fields) → ((e : Data) → read_fields fs reads_none e ≡ None → read_fields gs reads_none e ≡ None) → (e : Data) → read (fields fs) e ≡ None → read (fields gs) e ≡ None
record_leads fs gs k (object ms) h = ap (option_map parts) (k (object ms) (map_none h))
record_leads fs gs k null h = refl
record_leads fs gs k (boolean b) h = refl
record_leads fs gs k (number b) h = refl
record_leads fs gs k (string b) h = refl
record_leads fs gs k (array b) h = refl

wider : (fs gs : Fields) {d : Data} {why : Why} → ((e : Data) → read_fields fs reads_none e ≡ None → read_fields gs reads_none e ≡ None) → Refuses (fields fs) d why → Refuses (fields gs) d why
wider fs gs k r = record { fails = leads (record_leads fs gs k) r.fails }

module _ (name : List ℕ) (r : Rule) (s : Shape) (fs : Fields) {d : Data} {why : Why} where
  -- the reason of the first field, and of a later one
  at_field : Refuses (one_field name r s) d why → Refuses (fields (field name r s fs)) d why
  at_field = wider (field name r s no_fields) (field name r s fs) (λ e h. none_left (read_member r (read s) (get name e)) (read_fields fs reads_none e) (head_none (read_member r (read s) (get name e)) h))

  past_field : Refuses (fields fs) d why → Refuses (fields (field name r s fs)) d why
  past_field = wider fs (field name r s fs) (λ e h. none_right (read_member r (read s) (get name e)) (read_fields fs reads_none e) h)

module _ (s : Shape) (fs : Fields) {d : Data} {why : Why} where
  at_flat : Refuses s d why → Refuses (fields (flat s fs)) d why
  at_flat = refuses_leads (λ e h. not_a_record (flat s fs) e (none_left (read s e) (read_fields fs reads_none e) h))

  past_flat : Refuses (fields fs) d why → Refuses (fields (flat s fs)) d why
  past_flat = wider fs (flat s fs) (λ e h. none_right (read s e) (read_fields fs reads_none e) h)

module _ (name : List ℕ) (s : Shape) (fs : Fields) {d : Data} {why : Why} where
  at_supported : Refuses (one_supported name s) d why → Refuses (fields (supported name s fs)) d why
  at_supported = wider (supported name s no_fields) (supported name s fs) (λ e h. none_left (read_supported (read s) (get name e)) (read_fields fs reads_none e) (head_none (read_supported (read s) (get name e)) h))

  past_supported : Refuses (fields fs) d why → Refuses (fields (supported name s fs)) d why
  past_supported = wider fs (supported name s fs) (λ e h. none_right (read_supported (read s) (get name e)) (read_fields fs reads_none e) h)

past_again : (name : List ℕ) (r : Rule) (c : Count) (fs : Fields) {d : Data} {why : Why} → Refuses (fields fs) d why → Refuses (fields (again name r c fs)) d why
past_again name r c fs = wider fs (again name r c fs) (λ e h. none_right (read_member r (read_count c reads_none) (get name e)) (read_fields fs reads_none e) h)

-- a field's reason is the record's
pub record_refuses : (fs : Fields) (d : Data) (why : Why) → AnyRefuses fs d why → Refuses (fields fs) d why
record_refuses no_fields d why a = absurd a
record_refuses (field name r s fs) d why (inl a) = at_field name r s fs a
record_refuses (field name r s fs) d why (inr a) = past_field name r s fs (record_refuses fs d why a)
record_refuses (flat s fs) d why (inl a) = at_flat s fs a
record_refuses (flat s fs) d why (inr a) = past_flat s fs (record_refuses fs d why a)
record_refuses (supported name s fs) d why (inl a) = at_supported name s fs a
record_refuses (supported name s fs) d why (inr a) = past_supported name s fs (record_refuses fs d why a)
record_refuses (again name r c fs) d why a = past_again name r c fs (record_refuses fs d why a)

-- a field that is written otherwise is read the same
same_member : (r : Rule) (f : Data → Option Plain) (o : Option Data) → read_member (read_rule r) f o ≡ read_member r f o
same_member required f o = refl
same_member omitted f o = refl
same_member or_empty f o = refl
same_member or_false f o = refl
same_member nullable f None = refl
same_member nullable f (Some d) = refl
same_member unless_empty f None = refl
same_member unless_empty f (Some d) = refl
same_member unless_false f None = refl
same_member unless_false f (Some d) = refl

by_rule : (k : List ℕ) (q : Rule) (t : Shape) {d : Data} {why : Why} → Refuses (one_field k (read_rule q) t) d why → Refuses (one_field k q t) d why
by_rule k q t = wider (field k (read_rule q) t no_fields) (field k q t no_fields) (λ e h. ap (λ (o : Option Plain). and_part o (Some no_parts)) (sym (same_member q (read t) (get k e))) ∙ h)

same_field : (name k : List ℕ) (r q : Rule) (s t : Shape) {d : Data} {why : Why} → name ≡ k → q ≡ r → t ≡ s → Refuses (one_field name r s) d why → Refuses (one_field k q t) d why
same_field name k r q s t e f h a = rw (← e, f, h) a

-- the field of that name
named_refuses : (fs : Fields) (name : List ℕ) (r : Rule) (s : Shape) (d : Data) (why : Why) → named_field name fs ≡ Some (r, s) → Refuses (one_field name r s) d why → AnyRefuses fs d why
named_refuses no_fields name r s d why is a = absurd (none-some (r, s) is)
named_refuses (field k q t fs) name r s d why is a = split (λ g. named_refuses fs name r s d why g a) (bytes_eq name k) refl is
  where
    split : (named_field name fs ≡ Some (r, s) → AnyRefuses fs d why) → (b : Bool) → bytes_eq name k ≡ b → cond b (Some (read_rule q, t)) (named_field name fs) ≡ Some (r, s) → Refuses (one_field k q t) d why ⊎ AnyRefuses fs d why
    split further true e g =
        let same = some_pair_parts (read_rule q) r t s g in
        inl (by_rule k q t (same_field name k r (read_rule q) s t (are_same name k e) same.0 same.1 a))
    split further false e g = inr (further g)
named_refuses (flat t fs) name r s d why is a = inr (named_refuses fs name r s d why is a)
named_refuses (supported k t fs) name r s d why is a = inr (named_refuses fs name r s d why is a)
named_refuses (again k q c fs) name r s d why is a = named_refuses fs name r s d why is a

supported_of : (fs : Fields) (name : List ℕ) (s : Shape) (d : Data) (why : Why) → named_supported name fs ≡ Some s → Refuses (one_supported name s) d why → AnyRefuses fs d why
supported_of no_fields name s d why is a = absurd (none-some s is)
supported_of (field k q t fs) name s d why is a = inr (supported_of fs name s d why is a)
supported_of (flat t fs) name s d why is a = inr (supported_of fs name s d why is a)
supported_of (supported k t fs) name s d why is a = split (λ g. supported_of fs name s d why g a) (bytes_eq name k) refl is
  where
    split : (named_supported name fs ≡ Some s → AnyRefuses fs d why) → (b : Bool) → bytes_eq name k ≡ b → cond b (Some t) (named_supported name fs) ≡ Some s → Refuses (one_supported k t) d why ⊎ AnyRefuses fs d why
    split later true e g = inl (rw (← are_same name k e, same_Some t s g) a)
    split later false e g = inr (later g)
supported_of (again k q c fs) name s d why is a = supported_of fs name s d why is a

flat_of : (fs : Fields) (s : Shape) (d : Data) (why : Why) → HasFlat s fs → Refuses s d why → AnyRefuses fs d why
flat_of no_fields s d why has a = absurd has
flat_of (field k q t fs) s d why has a = inr (flat_of fs s d why has a)
flat_of (flat t fs) s d why (inl same) a = inl (subst (λ (t : Shape). Refuses t d why) same a)
flat_of (flat t fs) s d why (inr has) a = inr (flat_of fs s d why has a)
flat_of (supported k t fs) s d why has a = inr (flat_of fs s d why has a)
flat_of (again k q c fs) s d why has a = flat_of fs s d why has a

rest_right : (o : Option Parts) → and_rest o None ≡ None
rest_right None = refl
rest_right (Some ps) = refl

rest_leads : (s : Shape) (fs : Fields) (e : Data) → read (fields fs) e ≡ None → read (fields_and s fs) e ≡ None
rest_leads s fs (object ms) h = ap (option_map parts) (ap (and_rest (read_entries (field_names fs) (λ k. true) (read s) ms)) (map_none h) ∙ rest_right (read_entries (field_names fs) (λ k. true) (read s) ms))
rest_leads s fs null h = refl
rest_leads s fs (boolean b) h = refl
rest_leads s fs (number b) h = refl
rest_leads s fs (string b) h = refl
rest_leads s fs (array b) h = refl

others_lead : (s : Shape) (fs : Fields) (e : Data) → read_map (read_entries (field_names fs) (λ k. true) (read s)) e ≡ None → read (fields_and s fs) e ≡ None
others_lead s fs (object ms) h = ap (λ (o : Option Parts). option_map parts (and_rest o (read_fields fs reads_none (object ms)))) (map_none h)
others_lead s fs null h = refl
others_lead s fs (boolean b) h = refl
others_lead s fs (number b) h = refl
others_lead s fs (string b) h = refl
others_lead s fs (array b) h = refl

-- the reason of a field of the shape is the shape's
any_refuses : (t : Shape) (d : Data) (why : Why) → AnyRefuses (fields_of t) d why → Refuses t d why
any_refuses (fields fs) d why a = record_refuses fs d why a
any_refuses (fields_and s fs) d why a = refuses_leads (rest_leads s fs) (record_refuses fs d why a)
any_refuses _ d why a = absurd a

pub of_named : {name : List ℕ} {r : Rule} {s : Shape} {d : Data} {why : Why} → Refuses (one_field name r s) d why → (t : Shape) → named_field name (fields_of t) ≡ Some (r, s) → Refuses t d why
of_named {name} {r} {s} {d} {why} a t is = any_refuses t d why (named_refuses (fields_of t) name r s d why is a)

pub of_supported : {name : List ℕ} {s : Shape} {d : Data} {why : Why} → Refuses (one_supported name s) d why → (t : Shape) → named_supported name (fields_of t) ≡ Some s → Refuses t d why
of_supported {name} {s} {d} {why} a t is = any_refuses t d why (supported_of (fields_of t) name s d why is a)

pub of_flat : {s : Shape} {d : Data} {why : Why} → Refuses s d why → (t : Shape) → HasFlat s (fields_of t) → Refuses t d why
of_flat {s} {d} {why} a t has = any_refuses t d why (flat_of (fields_of t) s d why has a)

-- so is that of the members that a record does not name
pub of_rest : (s : Shape) (names : List (List ℕ)) (test : List ℕ → Bool) {d : Data} {why : Why} → Fails (read_map (read_entries names test (read s))) d why
    → (t : Shape) → IsMapBeside s names t → ((k : List ℕ) → test k ≡ true) → Refuses t d why
of_rest s names test {d} {why} a (fields_and t fs) is every = record { fails = leads (λ e h. others_lead t fs e (read_others e h)) a }
  where
    read_others : (e : Data) → read_map (read_entries names test (read s)) e ≡ None → read_map (read_entries (field_names fs) (λ k. true) (read t)) e ≡ None
    read_others e h = rw (is.1, ← is.0) (same_map_read names test (read s) every e ∙ h)
of_rest s names test a _ is every = absurd is

-- ---- members

field_none : (name : List ℕ) (r : Rule) (s : Shape) (e : Data) → read_member r (read s) (get name e) ≡ None → read (one_field name r s) e ≡ None
field_none name r s e h = not_a_record (field name r s no_fields) e (none_left (read_member r (read s) (get name e)) (Some no_parts) h)

pub required_refuses : {name : List ℕ} {s : Shape} {ms : Members} {x : Data} {old new : Why} → get_member name ms ≡ Some x → Refuses s x old → IsInMember name ms old new → Refuses (one_field name required s) (object ms) new
required_refuses {name} {s} {ms} {x} {old} {new} is r a = record {
  fails = member_fails (read s) (read (one_field name required s)) name ms x old new is (λ e y there h. field_none name required s e (ap (read_member required (read s)) there ∙ h)) r.fails a;
}

pub omitted_refuses : {name : List ℕ} {s : Shape} {ms : Members} {x : Data} {old new : Why} → get_member name ms ≡ Some x → Refuses (maybe s) x old → IsInMember name ms old new → Refuses (one_field name omitted s) (object ms) new
omitted_refuses {name} {s} {ms} {x} {old} {new} is r a = record {
  fails = member_fails (read (maybe s)) (read (one_field name omitted s)) name ms x old new is (λ e y there h. field_none name omitted s e (ap (read_member omitted (read s)) there ∙ h)) r.fails a;
}

pub or_empty_refuses : {name : List ℕ} {s : Shape} {ms : Members} {x : Data} {old new : Why} → get_member name ms ≡ Some x → Refuses s x old → IsInMember name ms old new → Refuses (one_field name or_empty s) (object ms) new
or_empty_refuses {name} {s} {ms} {x} {old} {new} is r a = record {
  fails = member_fails (read s) (read (one_field name or_empty s)) name ms x old new is (λ e y there h. field_none name or_empty s e (ap (read_member or_empty (read s)) there ∙ h)) r.fails a;
}

pub or_false_refuses : {name : List ℕ} {s : Shape} {ms : Members} {x : Data} {old new : Why} → get_member name ms ≡ Some x → Refuses s x old → IsInMember name ms old new → Refuses (one_field name or_false s) (object ms) new
or_false_refuses {name} {s} {ms} {x} {old} {new} is r a = record {
  fails = member_fails (read s) (read (one_field name or_false s)) name ms x old new is (λ e y there h. field_none name or_false s e (ap (read_member or_false (read s)) there ∙ h)) r.fails a;
}

pub supported_refuses : {name : List ℕ} {s : Shape} {ms : Members} {x : Data} {old new : Why} → get_member name ms ≡ Some x → Fails (read_or_truth (read s)) x old → IsInMember name ms old new → Refuses (one_supported name s) (object ms) new
supported_refuses {name} {s} {ms} {x} {old} {new} is u a = record {
  fails = member_fails (read_or_truth (read s)) (read (one_supported name s)) name ms x old new is
      (λ e y there h. not_a_record (supported name s no_fields) e (none_left (read_supported (read s) (get name e)) (Some no_parts) (ap (read_supported (read s)) there ∙ h))) u a;
}

-- a member that is missing
missing_refuses : {name : List ℕ} {s : Shape} {ms : Members} {w : Wanted} {why : Why} → IsWhole w why → ((e : Data) → is_kind w e ≡ is_some (get name e)) → get_member name ms ≡ None
    → Refuses (one_field name required s) (object ms) why
missing_refuses {name} {s} {ms} {w} {why} a kind is = record {
  fails = fails_whole w a (field_none name required s (object ms) (ap (read_member required (read s)) is)) (λ e. kind (object ms) ∙ ap is_some is)
      (λ e k l. field_none name required s e (ap (read_member required (read s)) (not_some (get name e) (sym (kind e) ∙ k))))
      (λ inside. true≢false (ap (λ (v : Wanted). is_kind v null) (sym inside) ∙ kind null));
}

-- ---- lists

items_none : (f : Data → Option Plain) (n : ℕ) (ds : Items) (y : Data) → get_item n ds ≡ Some y → f y ≡ None → read_items f ds ≡ None
items_none f n no_items y is h = absurd (none-some y is)
items_none f zero (item d ds) y is h = none_left (f d) (read_items f ds) (ap (option_and_then f) is ∙ h)
items_none f (suc n) (item d ds) y is h = none_right (f d) (read_items f ds) (items_none f n ds y is h)

tested_none : (b : Bool) (o : Option Parts) → o ≡ None → cond b (option_map parts o) None ≡ None
tested_none true o e = ap (option_map parts) e
tested_none false o e = refl

list_none : (test : ℕ → Bool) (f : Data → Option Plain) (n : ℕ) (e y : Data) → at n e ≡ Some y → f y ≡ None → read_list test f e ≡ None
list_none test f n (array ds) y is h = tested_none (test (item_count ds)) (read_items f ds) (items_none f n ds y is h)
list_none test f n null y is h = refl
list_none test f n (boolean b) y is h = refl
list_none test f n (number b) y is h = refl
list_none test f n (string b) y is h = refl
list_none test f n (object b) y is h = refl

pub item_refuses : {test : ℕ → Bool} {s : Shape} {n : ℕ} {ds : Items} {x : Data} {old new : Why} → get_item n ds ≡ Some x → Refuses s x old → IsInItem n old new → Refuses (list_of test s) (array ds) new
item_refuses {test} {s} {n} {ds} {x} {old} {new} is r a = record {
  fails = item_fails (read s) (read (list_of test s)) n ds x old new is (list_none test (read s) n) r.fails a;
}

-- ---- maps

found_first : (f : Data → Option Plain) (ns : List (List ℕ)) (test : List ℕ → Bool) (k : List ℕ) (b : Bool) (o : Option Plain) (rest : Option Parts) → b ≡ false → o ≡ None → cond b rest (and_part o rest) ≡ None
found_first f ns test k b o rest e h = rw (e, h) refl

found_later : (b : Bool) (o : Option Plain) (rest : Option Parts) → rest ≡ None → cond b rest (and_part o rest) ≡ None
found_later true o rest e = e
found_later false o rest e = none_right o rest e

entry_none : (test : List ℕ → Bool) (f : Data → Option Plain) (k : List ℕ) (d : Data) (b : Bool) → f d ≡ None → cond b (option_map (entry k) (f d)) None ≡ None
entry_none test f k d true e = rw e refl
entry_none test f k d false e = refl

entries_none : (ns : List (List ℕ)) (test : List ℕ → Bool) (f : Data → Option Plain) (k : List ℕ) (ms : Members) (y : Data) → has_name k ns ≡ false → get_member k ms ≡ Some y → f y ≡ None → read_entries ns test f ms ≡ None
entries_none ns test f k no_members y apart is h = absurd (none-some y is)
entries_none ns test f k (member l d ms) y apart is h = split (λ g. entries_none ns test f k ms y apart g h) (slice_cmp nat_cmp k l) refl is
  where
    split : (get_member k ms ≡ Some y → read_entries ns test f ms ≡ None) → (o : Ordering) → slice_cmp nat_cmp k l ≡ o → match_ordering o (get_member k ms) (Some d) (get_member k ms) ≡ Some y → read_entries ns test f (member l d ms) ≡ None
    split later Less e g = found_later (has_name l ns) (read_entry test f l d) (read_entries ns test f ms) (later g)
    split later Equal e g = found_first f ns test l (has_name l ns) (read_entry test f l d) (read_entries ns test f ms) (ap (λ (t : List ℕ). has_name t ns) (sym (text_order k l e)) ∙ apart) (entry_none test f l d (test l) (ap (option_and_then f) g ∙ h))
    split later Greater e g = found_later (has_name l ns) (read_entry test f l d) (read_entries ns test f ms) (later g)

map_unread : (ns : List (List ℕ)) (test : List ℕ → Bool) (f : Data → Option Plain) (k : List ℕ) → has_name k ns ≡ false → (e y : Data) → get k e ≡ Some y → f y ≡ None → read_map (read_entries ns test f) e ≡ None
map_unread ns test f k apart (object ms) y is h = ap (option_map parts) (entries_none ns test f k ms y apart is h)
map_unread ns test f k apart null y is h = refl
map_unread ns test f k apart (boolean b) y is h = refl
map_unread ns test f k apart (number b) y is h = refl
map_unread ns test f k apart (string b) y is h = refl
map_unread ns test f k apart (array b) y is h = refl

-- a member of a map
pub entry_fails : (ns : List (List ℕ)) (test : List ℕ → Bool) {s : Shape} (k : List ℕ) (ms : Members) (x : Data) {old new : Why} → has_name k ns ≡ false → get_member k ms ≡ Some x → Refuses s x old → IsInMember k ms old new
    → Fails (read_map (read_entries ns test (read s))) (object ms) new
entry_fails ns test {s} k ms x {old} {new} apart is r a = member_fails (read s) (read_map (read_entries ns test (read s))) k ms x old new is (map_unread ns test (read s) k apart) r.fails a

map_no_object : (f : Members → Option Parts) (e : Data) → is_some (as_object e) ≡ false → read_map f e ≡ None
map_no_object f (object ms) k = true≢false k
map_no_object f null k = refl
map_no_object f (boolean b) k = refl
map_no_object f (number b) k = refl
map_no_object f (string b) k = refl
map_no_object f (array b) k = refl

-- the name of a member of a map
pub key_fails : (f : Members → Option Parts) (ms : Members) {why : Why} → IsWhole wants.Keys why → f ms ≡ None → Fails (read_map f) (object ms) why
key_fails f ms a none = fails_whole wants.Keys a (ap (option_map parts) none) (λ e. absurd (false≢true e)) (λ e k l. map_no_object f e k) (other_word wants.Keys refl)

-- ---- values as a whole

no_null : (e : Data) → is_some (as_null e) ≡ false → read_nil e ≡ None
no_null null k = true≢false k
no_null (boolean b) k = refl
no_null (number b) k = refl
no_null (string b) k = refl
no_null (array b) k = refl
no_null (object b) k = refl

no_truth : (e : Data) → is_some (as_bool e) ≡ false → read_truth e ≡ None
no_truth null k = refl
no_truth (boolean b) k = true≢false k
no_truth (number b) k = refl
no_truth (string b) k = refl
no_truth (array b) k = refl
no_truth (object b) k = refl

no_number : (low high : ℤ) (e : Data) → is_some (as_number e) ≡ false → read_integer low high e ≡ None
no_number low high null k = refl
no_number low high (boolean b) k = refl
no_number low high (number b) k = true≢false k
no_number low high (string b) k = refl
no_number low high (array b) k = refl
no_number low high (object b) k = refl

no_text : (test : List ℕ → Bool) (e : Data) → is_some (as_str e) ≡ false → read_text test e ≡ None
no_text test null k = refl
no_text test (boolean b) k = refl
no_text test (number b) k = refl
no_text test (string b) k = true≢false k
no_text test (array b) k = refl
no_text test (object b) k = refl

no_list : (test : ℕ → Bool) (f : Data → Option Plain) (e : Data) → is_some (as_array e) ≡ false → read_list test f e ≡ None
no_list test f null k = refl
no_list test f (boolean b) k = refl
no_list test f (number b) k = refl
no_list test f (string b) k = refl
no_list test f (array b) k = true≢false k
no_list test f (object b) k = refl

no_object : (s : Shape) → suits s wants.Object ≡ true → (e : Data) → is_some (as_object e) ≡ false → read s e ≡ None
no_object (map_of test s) t e k = map_no_object (read_entries [] test (read s)) e k
no_object (fields fs) t e k = no_record e k
  where
    no_record : (e : Data) → is_some (as_object e) ≡ false → read (fields fs) e ≡ None
    no_record null k = refl
    no_record (boolean b) k = refl
    no_record (number b) k = refl
    no_record (string b) k = refl
    no_record (array b) k = refl
    no_record (object b) k = true≢false k
no_object (fields_and s fs) t e k = no_rest e k
  where
    no_rest : (e : Data) → is_some (as_object e) ≡ false → read (fields_and s fs) e ≡ None
    no_rest null k = refl
    no_rest (boolean b) k = refl
    no_rest (number b) k = refl
    no_rest (string b) k = refl
    no_rest (array b) k = refl
    no_rest (object b) k = true≢false k
no_object (recursive fs) t e k = no_level e k
  where
    no_level : (e : Data) → is_some (as_object e) ≡ false → read (recursive fs) e ≡ None
    no_level null k = refl
    no_level (boolean b) k = refl
    no_level (number b) k = refl
    no_level (string b) k = refl
    no_level (array b) k = refl
    no_level (object b) k = true≢false k
no_object _ t e k = absurd (false≢true t)

-- each that is not of the kind that suits the shape does not fit it
pub other_kind : (s : Shape) (w : Wanted) → suits s w ≡ true → (e : Data) → is_kind w e ≡ false → read s e ≡ None
other_kind nil wants.Null t e k = no_null e k
other_kind truth wants.Boolean t e k = no_truth e k
other_kind (integer low high) wants.Unsigned t e k = no_number low high e k
other_kind (integer low high) wants.Integer t e k = no_number low high e k
other_kind (bits high) wants.Unsigned t e k = no_number (pos 0) (pos high) e k
other_kind (text test) wants.Text t e k = no_text test e k
other_kind (text test) wants.Name t e k = no_text test e k
other_kind (text test) wants.Uri t e k = no_text test e k
other_kind (list_of test s) wants.List t e k = no_list test (read s) e k
other_kind (list_of test s) wants.Length t e k = no_list test (read s) e k
other_kind (map_of test s) wants.Keys t e k = map_no_object (read_entries [] test (read s)) e k
other_kind s wants.Object t e k = no_object s t e k
other_kind s wants.Form t e k = true≢false k
other_kind _ _ t e k = absurd (false≢true t)

untold : {A : Type 0} (s : Shape) → suits s wants.Inside ≡ true → A
untold nil t = absurd (false≢true t)
untold truth t = absurd (false≢true t)
untold (integer low high) t = absurd (false≢true t)
untold (bits high) t = absurd (false≢true t)
untold (text test) t = absurd (false≢true t)
untold (list_of test s) t = absurd (false≢true t)
untold (map_of test s) t = absurd (false≢true t)
untold (fields fs) t = absurd (false≢true t)
untold (fields_and s fs) t = absurd (false≢true t)
untold (recursive fs) t = absurd (false≢true t)
untold (union ss) t = absurd (false≢true t)
untold (tagged name vs) t = absurd (false≢true t)
untold _ t = absurd (false≢true t)

pub whole_refuses : {w : Wanted} {why : Why} → IsWhole w why → (s : Shape) (d : Data) → Lacks s d w → Refuses s d why
whole_refuses {w} {why} a s d l = record { fails = fails_whole w a l.2 l.1 (λ e k o. other_kind s w l.0 e k) (λ inside. untold s (ap (suits s) (sym inside) ∙ l.0)) }

pub fails_form : {f : Data → Option Plain} {d : Data} {why : Why} → IsWhole wants.Form why → f d ≡ None → Fails f d why
fails_form a h = fails_whole wants.Form a h (λ e. absurd (false≢true e)) (λ e k l. true≢false k) (other_word wants.Form refl)

-- a list of numbers of some lengths
pub tested_refuses : {test : ℕ → Bool} {s : Shape} {d : Data} {why : Why} → Refuses (list s) d why → Refuses (list_of test s) d why
tested_refuses {test} {s} r = refuses_leads (never_read test (read s)) r

-- ---- a member that is missing, by the word of its name

missing_member : {name : List ℕ} {s : Shape} {ms : Members} {why : Why} (w : Wanted) → IsForMember name w → IsWhole w why → get_member name ms ≡ None → Refuses (one_field name required s) (object ms) why
missing_member (wants.Member n) e a is = missing_refuses a (λ d. ap (λ (k : List ℕ). is_some (get k d)) e) is
missing_member {name} {s} {ms} wants.Keys e a is = record {
  fails = fails_whole wants.Keys a (field_none name required s (object ms) (ap (read_member required (read s)) is)) (λ e. absurd (false≢true e)) (λ e k l. no_object (one_field name required s) refl e k) (other_word wants.Keys refl);
}
missing_member wants.Null e a is = absurd e
missing_member wants.Boolean e a is = absurd e
missing_member wants.Unsigned e a is = absurd e
missing_member wants.Integer e a is = absurd e
missing_member wants.Text e a is = absurd e
missing_member wants.Name e a is = absurd e
missing_member wants.Uri e a is = absurd e
missing_member wants.List e a is = absurd e
missing_member wants.Length e a is = absurd e
missing_member wants.Object e a is = absurd e
missing_member wants.Form e a is = absurd e
missing_member wants.Inside e a is = absurd e

pub missing_told : {name : List ℕ} {s : Shape} {ms : Members} {w : Wanted} {why : Why} → IsForMember name w → IsWhole w why → get_member name ms ≡ None → Refuses (one_field name required s) (object ms) why
missing_told {w} e a is = missing_member w e a is

-- ---- what a result says

pub unfit_none : {A : Type 0} {s : Shape} {d : Data} (r : Result A Misfit) → IfUnfit r (λ why. Refuses s d why) → IsUnfit r → read s d ≡ None
unfit_none (Ok x) a e = absurd e
unfit_none (Err (misfits.Unfit why)) a e = refuses_none (a why refl)
unfit_none (Err misfits.NoMemory) a e = absurd e

-- what an error says
pub said : {A : Type 0} (r : Result A Misfit) (m : Misfit) {why : Why} → r ≡ Err m → r ≡ Err (misfits.Unfit why) → m ≡ misfits.Unfit why
said r m a b = cc

-- no member was found
pub no_member : (found : Option (Bor Value)) (there : Option Data) → option_map (λ x. view x.now) found ≡ there → found ≡ None → there ≡ None
no_member found there e is = sym e ∙ ap (λ (o : Option (Bor Value)). option_map (λ x. view x.now) o) is

-- the member that was found
pub found_member : (found : Option (Bor Value)) (v : Bor Value) (member : Option Data) → option_map (λ x. view x.now) found ≡ member → found ≡ Some v → member ≡ Some (view v.now)
found_member found v there e is = sym e ∙ ap (λ (o : Option (Bor Value)). option_map (λ x. view x.now) o) is

-- the reason of a record of one field, by that of the member
pub required_told : {A : Type 0} {name : List ℕ} {s : Shape} {ms : Members} {x : Data} {member : Result A Misfit} {why : Why} → get_member name ms ≡ Some x → IfUnfit member (λ w. Refuses s x w) → IsOfMember name ms member why
    → Refuses (one_field name required s) (object ms) why
required_told is u o = required_refuses is (u o.inner o.was) o.inside

pub omitted_told : {A : Type 0} {name : List ℕ} {s : Shape} {ms : Members} {x : Data} {member : Result A Misfit} {why : Why} → get_member name ms ≡ Some x → IfUnfit member (λ w. Refuses (maybe s) x w) → IsOfMember name ms member why
    → Refuses (one_field name omitted s) (object ms) why
omitted_told is u o = omitted_refuses is (u o.inner o.was) o.inside

pub or_empty_told : {A : Type 0} {name : List ℕ} {s : Shape} {ms : Members} {x : Data} {member : Result A Misfit} {why : Why} → get_member name ms ≡ Some x → IfUnfit member (λ w. Refuses s x w) → IsOfMember name ms member why
    → Refuses (one_field name or_empty s) (object ms) why
or_empty_told is u o = or_empty_refuses is (u o.inner o.was) o.inside

pub or_false_told : {A : Type 0} {name : List ℕ} {s : Shape} {ms : Members} {x : Data} {member : Result A Misfit} {why : Why} → get_member name ms ≡ Some x → IfUnfit member (λ w. Refuses s x w) → IsOfMember name ms member why
    → Refuses (one_field name or_false s) (object ms) why
or_false_told is u o = or_false_refuses is (u o.inner o.was) o.inside

pub supported_told : {A : Type 0} {name : List ℕ} {s : Shape} {ms : Members} {x : Data} {member : Result A Misfit} {why : Why} → get_member name ms ≡ Some x → IfUnfit member (λ w. Fails (read_or_truth (read s)) x w) → IsOfMember name ms member why
    → Refuses (one_supported name s) (object ms) why
supported_told is u o = supported_refuses is (u o.inner o.was) o.inside

pub item_told : {A : Type 0} {test : ℕ → Bool} {s : Shape} {n : ℕ} {ds : Items} {x : Data} {one : Result A Misfit} {why : Why} → get_item n ds ≡ Some x → IfUnfit one (λ w. Refuses s x w) → IsOfItem n one why
    → Refuses (list_of test s) (array ds) why
item_told is u o = item_refuses is (u o.inner o.was) o.inside

pub entry_told : {A : Type 0} (ns : List (List ℕ)) (test : List ℕ → Bool) {s : Shape} (k : List ℕ) (ms : Members) (x : Data) {member : Result A Misfit} {why : Why} → has_name k ns ≡ false → get_member k ms ≡ Some x
    → IfUnfit member (λ w. Refuses s x w) → IsOfMember k ms member why → Fails (read_map (read_entries ns test (read s))) (object ms) why
entry_told ns test k ms x apart is u o = entry_fails ns test k ms x apart is (u o.inner o.was) o.inside

-- ---- what a question mark passes on

pub passed : {T : Type 0} (r : Result T Misfit) (m : Misfit) (P : Why → Type 0) → IsErrAnd r (λ x. x ≡ m) → ((why : Why) → m ≡ misfits.Unfit why → P why) → (why : Why) → r ≡ Err (misfits.Unfit why) → P why
passed (Ok x) m P a f why is = absurd a
passed (Err e) m P a f why is = let same : e ≡ misfits.Unfit why = cc in f why (sym a ∙ same)

-- the same of what is read of an object
pub passed_in : {T : Type 0} (r : Result T Misfit) (m : Misfit) (t : Shape) {d e : Data} → d ≡ e → IsErrAnd r (λ x. x ≡ m) → ((why : Why) → m ≡ misfits.Unfit why → Refuses t e why) → (why : Why) → r ≡ Err (misfits.Unfit why) → Refuses t d why
passed_in r m t {d} {e} same a f why is = subst (λ (x : Data). Refuses t x why) (sym same) (passed r m (λ w. Refuses t e w) a f why is)
