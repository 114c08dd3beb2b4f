-- The entries of a map, in the order of their keys.
use Rattle.std.proofs.Common.{◌≡◌, ℕ, List, [], ◌∷◌, Bool, true, false, ◌&&◌, cond, bytes_eq, Option, Some, None, option_map, Ordering, Less, Equal, Greater, nat_cmp, true≢false, refl, sym, ap, ◌∙◌}
use Rattle.std.proofs.lemmas.Bool.{and_parts, false≢true}
use Rattle.std.proofs.lemmas.Cmp.{nat_list_cmp_total, tied_itself}
use Rattle.std.proofs.lemmas.Slice.Eq.{bytes_eq-Decides}
use Rattle.std.specs.Cmp.Lexicographic.{slice_cmp}
use Rattle.std.specs.List.{AllByRecursion, IsDistinct}
use Rattle.std.specs.Map.{lookup, keys_of}
use Rattle.std.specs.Ordering.{match_ordering, ordering_reverse}
use Rattle.serde_json.specs.Data.{Data, Members, member, put}
use Rattle.lsp_shape.specs.Plain.{Plain, leaf, absent, present, parts, entry, choice, Parts, no_parts, part, put_entry, order_of, with_value, entries_of}
use Rattle.lsp_shape.specs.Write.{write_entries}
use Rattle.lsp_shape.specs.Values.{every, is_entry}
use Rattle.lsp_shape.proofs.Ascending.{text_order}
use Rattle.lsp_shape.proofs.Names.{both, same_bytes, are_same}

-- ---- entries in order

abbrev pub IsAbove : List ℕ → Plain → Type 0
IsAbove k (entry l p) = slice_cmp nat_cmp k l ≡ Less
IsAbove k _ = ⊥

abbrev pub AllAbove : List ℕ → Parts → Type 0
AllAbove k no_parts = Unit {0}
AllAbove k (part p ps) = IsAbove k p × AllAbove k ps

-- each part is an entry, and its key is below those after it
abbrev pub InOrder : Parts → Type 0
InOrder no_parts = Unit {0}
InOrder (part (leaf d) ps) = ⊥
InOrder (part absent ps) = ⊥
InOrder (part (present p) ps) = ⊥
InOrder (part (parts qs) ps) = ⊥
InOrder (part (entry k p) ps) = AllAbove k ps × InOrder ps
InOrder (part (choice n p) ps) = ⊥

reversed : (k l : List ℕ) → slice_cmp nat_cmp k l ≡ Greater → slice_cmp nat_cmp l k ≡ Less
reversed k l e = nat_list_cmp_total.antisymm l k ∙ ap ordering_reverse e

above_lower : (j k : List ℕ) (p : Plain) → slice_cmp nat_cmp j k ≡ Less → IsAbove k p → IsAbove j p
above_lower j k (entry l p) e b = nat_list_cmp_total.trans j k l e b
above_lower j k _ e b = b

all_above_lower : (j k : List ℕ) (ps : Parts) → slice_cmp nat_cmp j k ≡ Less → AllAbove k ps → AllAbove j ps
all_above_lower j k no_parts e b = tt
all_above_lower j k (part p ps) e b = (above_lower j k p e b.0, all_above_lower j k ps e b.1)

above_with_value : (j : List ℕ) (p q : Plain) → IsAbove j p → IsAbove j (with_value p q)
above_with_value j (leaf d) q b = b
above_with_value j absent q b = b
above_with_value j (present p) q b = b
above_with_value j (parts ps) q b = b
above_with_value j (entry l p) q b = b
above_with_value j (choice n p) q b = b

all_above_put : (j k : List ℕ) (p : Plain) (ps : Parts) → slice_cmp nat_cmp j k ≡ Less → AllAbove j ps → AllAbove j (put_entry k p ps)
all_above_put j k p no_parts e b = (e, tt)
all_above_put j k p (part q ps) e b = at (all_above_put j k p ps e b.1) (order_of k q)
  where
    at : AllAbove j (put_entry k p ps) → (o : Ordering) → AllAbove j (match_ordering o (part (entry k p) (part q ps)) (part (with_value q p) ps) (part q (put_entry k p ps)))
    at later Less = (e, b)
    at later Equal = (above_with_value j q p b.0, b.1)
    at later Greater = (b.0, later)

pub in_order_put : (k : List ℕ) (p : Plain) (ps : Parts) → InOrder ps → InOrder (put_entry k p ps)
in_order_put k p no_parts a = (tt, tt)
in_order_put k p (part (leaf d) ps) a = absurd a
in_order_put k p (part absent ps) a = absurd a
in_order_put k p (part (present q) ps) a = absurd a
in_order_put k p (part (parts qs) ps) a = absurd a
in_order_put k p (part (entry l q) ps) a = at (in_order_put k p ps a.1) (slice_cmp nat_cmp k l) refl
  where
    at : InOrder (put_entry k p ps) → (o : Ordering) → slice_cmp nat_cmp k l ≡ o → InOrder (match_ordering o (part (entry k p) (part (entry l q) ps)) (part (entry l p) ps) (part (entry l q) (put_entry k p ps)))
    at later Less e = ((e, all_above_lower k l ps e a.0), a)
    at later Equal e = (a.0, a.1)
    at later Greater e = (all_above_put l k p ps (reversed k l e) a.0, later)
in_order_put k p (part (choice n q) ps) a = absurd a

-- ---- the value at a key

abbrev value_or : List ℕ → Plain → Option Plain → Option Plain
value_or q (entry k p) o = match_ordering (slice_cmp nat_cmp q k) o (Some p) o
value_or q _ o = o

abbrev pub value_at : List ℕ → Parts → Option Plain
value_at q no_parts = None
value_at q (part p ps) = value_or q p (value_at q ps)

same_text : (q : List ℕ) → slice_cmp nat_cmp q q ≡ Equal
same_text q = tied_itself nat_list_cmp_total q

other_bytes : (q k : List ℕ) → bytes_eq q k ≡ false → q ≡ k → ⊥
other_bytes q k e s = true≢false (sym ((bytes_eq-Decides q k).1 s) ∙ e)

value_here : (q k : List ℕ) (p : Plain) (o : Option Plain) (b : Bool) → bytes_eq q k ≡ b → value_or q (entry k p) o ≡ cond b (Some p) o
value_here q k p o true e = rw (are_same q k e, same_text) refl
value_here q k p o false e = at (slice_cmp nat_cmp q k) refl
  where
    at : (r : Ordering) → slice_cmp nat_cmp q k ≡ r → match_ordering r o (Some p) o ≡ o
    at Less x = refl
    at Equal x = absurd (other_bytes q k e (text_order q k x))
    at Greater x = refl

twice : (b : Bool) (p : Plain) (o u : Option Plain) → cond b (Some p) (cond b u o) ≡ cond b (Some p) o
twice true p o u = refl
twice false p o u = refl

swapped : (b c : Bool) (p q : Plain) (o : Option Plain) → (b ≡ true → c ≡ false) → cond c (Some q) (cond b (Some p) o) ≡ cond b (Some p) (cond c (Some q) o)
swapped true c p q o apart = rw (apart refl) refl
swapped false c p q o apart = refl

differ_bytes : (q k l : List ℕ) → bytes_eq q k ≡ true → slice_cmp nat_cmp k l ≡ Greater → (b : Bool) → bytes_eq q l ≡ b → b ≡ false
differ_bytes q k l h e true x =
    let same : k ≡ l = sym (are_same q k h) ∙ are_same q l x in
    let tied : Greater ≡ Equal = sym e ∙ ap (slice_cmp nat_cmp k) (sym same) ∙ same_text k in absurd cc
differ_bytes q k l h e false x = refl

pub value_at-put : (q k : List ℕ) (p : Plain) (ps : Parts) → InOrder ps → value_at q (put_entry k p ps) ≡ cond (bytes_eq q k) (Some p) (value_at q ps)
value_at-put q k p no_parts a = value_here q k p None _ refl
value_at-put q k p (part (leaf d) ps) a = absurd a
value_at-put q k p (part absent ps) a = absurd a
value_at-put q k p (part (present r) ps) a = absurd a
value_at-put q k p (part (parts qs) ps) a = absurd a
value_at-put q k p (part (entry l r) ps) a = at (value_at-put q k p ps a.1) (slice_cmp nat_cmp k l) refl
  where
    at : value_at q (put_entry k p ps) ≡ cond (bytes_eq q k) (Some p) (value_at q ps) → (o : Ordering) → slice_cmp nat_cmp k l ≡ o
        → value_at q (match_ordering o (part (entry k p) (part (entry l r) ps)) (part (entry l p) ps) (part (entry l r) (put_entry k p ps))) ≡ cond (bytes_eq q k) (Some p) (value_at q (part (entry l r) ps))
    at later Less e = value_here q k p (value_at q (part (entry l r) ps)) _ refl
    at later Equal e =
        let same : k ≡ l = text_order k l e in
        rw same (value_here q l p (value_at q ps) _ refl ∙ sym (twice (bytes_eq q l) p (value_at q ps) (Some r)) ∙ ap (cond (bytes_eq q l) (Some p)) (sym (value_here q l r (value_at q ps) _ refl)))
    at later Greater e =
        let apart = λ (h : bytes_eq q k ≡ true). differ_bytes q k l h e (bytes_eq q l) refl in
        ap (value_or q (entry l r)) later ∙ value_here q l r _ _ refl ∙ swapped (bytes_eq q k) (bytes_eq q l) p r (value_at q ps) apart
        ∙ ap (cond (bytes_eq q k) (Some p)) (sym (value_here q l r (value_at q ps) _ refl))
value_at-put q k p (part (choice n r) ps) a = absurd a

-- ---- the values tell the entries

above_absent : (k : List ℕ) (ps : Parts) → InOrder ps → AllAbove k ps → value_at k ps ≡ None
above_absent k no_parts a b = refl
above_absent k (part (leaf d) ps) a b = absurd a
above_absent k (part absent ps) a b = absurd a
above_absent k (part (present r) ps) a b = absurd a
above_absent k (part (parts qs) ps) a b = absurd a
above_absent k (part (entry l r) ps) a b = rw b.0 (above_absent k ps a.1 b.1)
above_absent k (part (choice n r) ps) a b = absurd a

first_value : (k : List ℕ) (p : Plain) (ps : Parts) → value_at k (part (entry k p) ps) ≡ Some p
first_value k p ps = rw (same_text k) refl

empty_is : (qs : Parts) → InOrder qs → ((q : List ℕ) → None ≡ value_at q qs) → no_parts ≡ qs
empty_is no_parts b h = refl
empty_is (part (leaf d) qs) b h = absurd b
empty_is (part absent qs) b h = absurd b
empty_is (part (present r) qs) b h = absurd b
empty_is (part (parts rs) qs) b h = absurd b
empty_is (part (entry l r) qs) b h = let none : None ≡ Some r = h l ∙ first_value l r qs in absurd cc
empty_is (part (choice n r) qs) b h = absurd b

-- a key below all of the second list is not the first of the first
not_lower : (k l : List ℕ) (p r : Plain) (ps qs : Parts) → InOrder (part (entry l r) qs) → value_at k (part (entry k p) ps) ≡ value_at k (part (entry l r) qs) → slice_cmp nat_cmp k l ≡ Less → ⊥
not_lower k l p r ps qs b h e =
    let none : Some p ≡ None = sym (first_value k p ps) ∙ h ∙ rw e (above_absent k qs b.1 (all_above_lower k l qs e b.0)) in cc

rest_same : (q k l : List ℕ) (p r : Plain) (ps qs : Parts) → k ≡ l → InOrder (part (entry k p) ps) → InOrder (part (entry l r) qs) → value_at q (part (entry k p) ps) ≡ value_at q (part (entry l r) qs)
    → (b : Bool) → bytes_eq q k ≡ b → value_at q ps ≡ value_at q qs
rest_same q k l p r ps qs same a b h true e =
    let here : q ≡ k = are_same q k e in
    let there : q ≡ l = here ∙ same in
    ap (λ n. value_at n ps) here ∙ above_absent k ps a.1 a.0 ∙ sym (ap (λ n. value_at n qs) there ∙ above_absent l qs b.1 b.0)
rest_same q k l p r ps qs same a b h false e =
    let other : bytes_eq q l ≡ false = ap (bytes_eq q) (sym same) ∙ e in
    sym (value_here q k p (value_at q ps) false e) ∙ h ∙ value_here q l r (value_at q qs) false other

joined : (k l : List ℕ) (p r : Plain) (ps qs : Parts) → k ≡ l → Some p ≡ Some r → ps ≡ qs → part (entry k p) ps ≡ part (entry l r) qs
joined k l p r ps qs x y z = let v : p ≡ r = cc in rw (x, v, z) refl

step_same : (k l : List ℕ) (p r : Plain) (ps qs : Parts) → (((q : List ℕ) → value_at q ps ≡ value_at q qs) → ps ≡ qs) → InOrder (part (entry k p) ps) → InOrder (part (entry l r) qs)
    → ((q : List ℕ) → value_at q (part (entry k p) ps) ≡ value_at q (part (entry l r) qs)) → (o : Ordering) → slice_cmp nat_cmp k l ≡ o → part (entry k p) ps ≡ part (entry l r) qs
step_same k l p r ps qs later a b h Less e = absurd (not_lower k l p r ps qs b (h k) e)
step_same k l p r ps qs later a b h Greater e = absurd (not_lower l k r p qs ps a (sym (h l)) (reversed k l e))
step_same k l p r ps qs later a b h Equal e =
    let same : k ≡ l = text_order k l e in
    let value : Some p ≡ Some r = sym (first_value k p ps) ∙ h k ∙ ap (λ n. value_at n (part (entry l r) qs)) same ∙ first_value l r qs in
    joined k l p r ps qs same value (later (λ q. rest_same q k l p r ps qs same a b (h q) _ refl))

-- entries in order with the same values are the same
pub same_entries : (ps qs : Parts) → InOrder ps → InOrder qs → ((q : List ℕ) → value_at q ps ≡ value_at q qs) → ps ≡ qs
same_entries no_parts qs a b h = empty_is qs b h
same_entries (part (leaf d) ps) qs a b h = absurd a
same_entries (part absent ps) qs a b h = absurd a
same_entries (part (present p) ps) qs a b h = absurd a
same_entries (part (parts rs) ps) qs a b h = absurd a
same_entries (part (choice n p) ps) qs a b h = absurd a
same_entries (part (entry k p) ps) no_parts a b h = sym (empty_is (part (entry k p) ps) a (λ q. sym (h q)))
same_entries (part (entry k p) ps) (part (leaf d) qs) a b h = absurd b
same_entries (part (entry k p) ps) (part absent qs) a b h = absurd b
same_entries (part (entry k p) ps) (part (present r) qs) a b h = absurd b
same_entries (part (entry k p) ps) (part (parts rs) qs) a b h = absurd b
same_entries (part (entry k p) ps) (part (choice n r) qs) a b h = absurd b
same_entries (part (entry k p) ps) (part (entry l r) qs) a b h = step_same k l p r ps qs (same_entries ps qs a.1 b.1) a b h _ refl

-- entries of different keys may be put in either order
pub put_either : (k l : List ℕ) (p r : Plain) (ps : Parts) → bytes_eq k l ≡ false → InOrder ps → put_entry k p (put_entry l r ps) ≡ put_entry l r (put_entry k p ps)
put_either k l p r ps apart a =
    same_entries _ _ (in_order_put k p _ (in_order_put l r ps a)) (in_order_put l r _ (in_order_put k p ps a))
    (λ q. value_at-put q k p (put_entry l r ps) (in_order_put l r ps a) ∙ ap (cond (bytes_eq q k) (Some p)) (value_at-put q l r ps a)
    ∙ sym (value_at-put q l r (put_entry k p ps) (in_order_put k p ps a) ∙ ap (cond (bytes_eq q l) (Some r)) (value_at-put q k p ps a)
    ∙ swapped (bytes_eq q k) (bytes_eq q l) p r (value_at q ps) (λ h. not_other q k l h apart (bytes_eq q l) refl)))
  where
    not_other : (q k l : List ℕ) → bytes_eq q k ≡ true → bytes_eq k l ≡ false → (b : Bool) → bytes_eq q l ≡ b → b ≡ false
    not_other q k l h e true x = sym x ∙ ap (λ n. bytes_eq n l) (are_same q k h) ∙ e
    not_other q k l h e false x = refl

-- ---- the entries of a list

module _ {K X : Type 0} (text : K → List ℕ) (show : X → Plain) where
  pub in_order_of : (es : List (K × X)) → InOrder (entries_of text show es)
  in_order_of [] = tt
  in_order_of (e ∷ es) = in_order_put (text e.0) (show e.1) _ (in_order_of es)

  shown_at : (b : Bool) (x : X) (o : Option X) → cond b (Some (show x)) (option_map show o) ≡ option_map show (cond b (Some x) o)
  shown_at true x o = refl
  shown_at false x o = refl

  pub value_at-entries : (q : List ℕ) (es : List (K × X)) → value_at q (entries_of text show es) ≡ option_map show (lookup (λ k. bytes_eq q (text k)) es)
  value_at-entries q [] = refl
  value_at-entries q (e ∷ es) =
      value_at-put q (text e.0) (show e.1) _ (in_order_of es) ∙ ap (cond (bytes_eq q (text e.0)) (Some (show e.1))) (value_at-entries q es)
      ∙ shown_at (bytes_eq q (text e.0)) e.1 _

  -- put in turn, from the first
  abbrev pub puts : List (K × X) → Parts → Parts
  puts [] ps = ps
  puts (e ∷ es) ps = puts es (put_entry (text e.0) (show e.1) ps)

module _ {K X : Type 0} (text : K → List ℕ) (show : X → Plain) (eq : K → K → Bool) (told : (a b : K) → eq a b ≡ bytes_eq (text a) (text b)) where
  puts_put : (es : List (K × X)) (k : K) (p : Plain) (ps : Parts) → InOrder ps → AllByRecursion (λ y. eq k y ≡ false) (keys_of es) → puts text show es (put_entry (text k) p ps) ≡ put_entry (text k) p (puts text show es ps)
  puts_put [] k p ps a apart = refl
  puts_put (e ∷ es) k p ps a apart =
      ap (puts text show es) (sym (put_either (text k) (text e.0) p (show e.1) ps (sym (told k e.0) ∙ apart.0) a)) ∙ puts_put es k p _ (in_order_put (text e.0) (show e.1) ps a) apart.1

  -- where no two keys are equal, the order does not matter
  pub puts-entries_of : (es : List (K × X)) → IsDistinct eq (keys_of es) → puts text show es no_parts ≡ entries_of text show es
  unfolding IsDistinct
  puts-entries_of [] d = refl
  puts-entries_of (e ∷ es) d = puts_put es e.0 (show e.1) no_parts tt d.0 ∙ ap (put_entry (text e.0) (show e.1)) (puts-entries_of es d.1)

  key_found : (test : K → Bool) (es : List (K × X)) (x : X) → lookup test es ≡ Some x → (a : K) × (test a ≡ true)
  key_found test [] x e = let none : None ≡ Some x = e in absurd cc
  key_found test (f ∷ es) x e = first (key_found test es x) (test f.0) refl e
    where
      first : (lookup test es ≡ Some x → (a : K) × (test a ≡ true)) → (b : Bool) → test f.0 ≡ b → cond b (Some f.1) (lookup test es) ≡ Some x → (a : K) × (test a ≡ true)
      first later true t g = (f.0, t)
      first later false t g = later g

  by_text : (a : K) (es : List (K × X)) → lookup (eq a) es ≡ lookup (λ k. bytes_eq (text a) (text k)) es
  by_text a es = λ i. lookup (λ k. told a k i) es

  at_key : (q : List ℕ) (a : K) (es : List (K × X)) → q ≡ text a → lookup (λ k. bytes_eq q (text k)) es ≡ lookup (eq a) es
  at_key q a es e = ap (λ t. lookup (λ k. bytes_eq t (text k)) es) e ∙ sym (by_text a es)

  other_value : (es fs : List (K × X)) (k : K) (x : X) → ((q : K) → lookup (eq q) fs ≡ cond (eq k q) (Some x) (lookup (eq q) es)) → (q : List ℕ) → bytes_eq q (text k) ≡ false
      → (a : K) → bytes_eq q (text a) ≡ true → lookup (λ y. bytes_eq q (text y)) fs ≡ lookup (λ y. bytes_eq q (text y)) es
  other_value es fs k x h q apart a t =
      let is : q ≡ text a = are_same q (text a) t in
      let other : eq k a ≡ false = told k a ∙ ap (bytes_eq (text k)) (sym is) ∙ flipped (text k) q apart (bytes_eq (text k) q) refl in
      at_key q a fs is ∙ h a ∙ ap (λ b. cond b (Some x) (lookup (eq a) es)) other ∙ sym (at_key q a es is)
    where
      flipped : (s t : List ℕ) → bytes_eq t s ≡ false → (b : Bool) → bytes_eq s t ≡ b → b ≡ false
      flipped s t e true u = absurd (other_bytes t s e (sym (are_same s t u)))
      flipped s t e false u = refl

  same_values : (es fs : List (K × X)) (k : K) (x : X) → ((q : K) → lookup (eq q) fs ≡ cond (eq k q) (Some x) (lookup (eq q) es)) → (q : List ℕ) → bytes_eq q (text k) ≡ false
      → (o u : Option X) → lookup (λ y. bytes_eq q (text y)) fs ≡ o → lookup (λ y. bytes_eq q (text y)) es ≡ u → lookup (λ y. bytes_eq q (text y)) fs ≡ lookup (λ y. bytes_eq q (text y)) es
  same_values es fs k x h q apart (Some w) u e f = let a = key_found (λ y. bytes_eq q (text y)) fs w e in other_value es fs k x h q apart a.0 a.1
  same_values es fs k x h q apart None (Some w) e f = let a = key_found (λ y. bytes_eq q (text y)) es w f in other_value es fs k x h q apart a.0 a.1
  same_values es fs k x h q apart None None e f = e ∙ sym f

  updated_at : (es fs : List (K × X)) (k : K) (x : X) → ((q : K) → lookup (eq q) fs ≡ cond (eq k q) (Some x) (lookup (eq q) es)) → (q : List ℕ) (b : Bool) → bytes_eq q (text k) ≡ b
      → option_map show (lookup (λ y. bytes_eq q (text y)) fs) ≡ cond b (Some (show x)) (option_map show (lookup (λ y. bytes_eq q (text y)) es))
  updated_at es fs k x h q true e =
      ap (option_map show) (at_key q k fs (are_same q (text k) e) ∙ h k ∙ ap (λ b. cond b (Some x) (lookup (eq k) es)) (told k k ∙ same_bytes (text k)))
  updated_at es fs k x h q false e = ap (option_map show) (same_values es fs k x h q e _ _ refl refl)

  -- a map that has one more entry, or another value at the key
  pub entries_of-updated : (es fs : List (K × X)) (k : K) (x : X) → ((q : K) → lookup (eq q) fs ≡ cond (eq k q) (Some x) (lookup (eq q) es)) → entries_of text show fs ≡ put_entry (text k) (show x) (entries_of text show es)
  entries_of-updated es fs k x h =
      same_entries _ _ (in_order_of text show fs) (in_order_put (text k) (show x) _ (in_order_of text show es))
      (λ q. value_at-entries text show q fs ∙ updated_at es fs k x h q _ refl
      ∙ sym (value_at-put q (text k) (show x) _ (in_order_of text show es) ∙ ap (cond (bytes_eq q (text k)) (Some (show x))) (value_at-entries text show q es)))

-- ---- what is written of entries

pub write_entries-put : (w : Plain → Data) (k : List ℕ) (p : Plain) (ps : Parts) → write_entries w (put_entry k p ps) ≡ put k (w p) (write_entries w ps)
write_entries-put w k p no_parts = refl
write_entries-put w k p (part (leaf d) ps) = write_entries-put w k p ps
write_entries-put w k p (part absent ps) = write_entries-put w k p ps
write_entries-put w k p (part (present q) ps) = write_entries-put w k p ps
write_entries-put w k p (part (parts qs) ps) = write_entries-put w k p ps
write_entries-put w k p (part (entry l q) ps) = at (write_entries-put w k p ps) (slice_cmp nat_cmp k l)
  where
    at : write_entries w (put_entry k p ps) ≡ put k (w p) (write_entries w ps) → (o : Ordering)
        → write_entries w (match_ordering o (part (entry k p) (part (entry l q) ps)) (part (entry l p) ps) (part (entry l q) (put_entry k p ps)))
        ≡ match_ordering o (member k (w p) (member l (w q) (write_entries w ps))) (member l (w p) (write_entries w ps)) (member l (w q) (put k (w p) (write_entries w ps)))
    at later Less = refl
    at later Equal = refl
    at later Greater = ap (member l (w q)) later
write_entries-put w k p (part (choice n q) ps) = write_entries-put w k p ps

-- one more entry was put into an object
pub wrote_more : (w : Plain → Data) (name k : List ℕ) (p : Plain) (done : Parts) (new old : Members) → new ≡ put name (w p) old → name ≡ k → old ≡ write_entries w done → new ≡ write_entries w (put_entry k p done)
wrote_more w name k p done new old put_is named before = put_is ∙ rw (named, before) (sym (write_entries-put w k p done))

pub every-put : (key_test : List ℕ → Bool) (test : Plain → Bool) (k : List ℕ) (p : Plain) (ps : Parts) → key_test k ≡ true → test p ≡ true → every (is_entry key_test test) ps ≡ true → every (is_entry key_test test) (put_entry k p ps) ≡ true
every-put key_test test k p no_parts a b c = both (key_test k && test p) true (both (key_test k) (test p) a b) refl
every-put key_test test k p (part (leaf d) ps) a b c = absurd (false≢true c)
every-put key_test test k p (part absent ps) a b c = absurd (false≢true c)
every-put key_test test k p (part (present q) ps) a b c = absurd (false≢true c)
every-put key_test test k p (part (parts qs) ps) a b c = absurd (false≢true c)
every-put key_test test k p (part (entry l q) ps) a b c =
    let t = and_parts (key_test l && test q) (every (is_entry key_test test) ps) c in
    at a b t.0 t.1 (every-put key_test test k p ps a b t.1) (slice_cmp nat_cmp k l)
  where
    at : key_test k ≡ true → test p ≡ true → (key_test l && test q) ≡ true → every (is_entry key_test test) ps ≡ true → every (is_entry key_test test) (put_entry k p ps) ≡ true → (o : Ordering)
        → every (is_entry key_test test) (match_ordering o (part (entry k p) (part (entry l q) ps)) (part (entry l p) ps) (part (entry l q) (put_entry k p ps))) ≡ true
    at a b c d later Less = both (key_test k && test p) _ (both (key_test k) (test p) a b) (both (key_test l && test q) _ c d)
    at a b c d later Equal = both (key_test l && test p) _ (both (key_test l) (test p) (and_parts (key_test l) (test q) c).0 b) d
    at a b c d later Greater = both (key_test l && test q) _ c later
every-put key_test test k p (part (choice n q) ps) a b c = absurd (false≢true c)
