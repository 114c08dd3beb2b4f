-- A head by its headers is a section of `httparse`'s grammar.
use Rattle.std.proofs.Common.{◌≡◌, ℕ, zero, suc, ◌<◌, ◌≤◌, List, [], ◌∷◌, ◌++◌, length, take, drop, map, Bool, true, false, nat_eq, cond, Option, Some, None, option_map, subst, refl, sym, ap, ◌∙◌, arith, append_assoc, append-nil, eqb, ◌==◌, true≢false}
use Rattle.std.proofs.lemmas.List.Sums.{prefix_len_passes, prefix_len-le-length}
use Rattle.std.proofs.lemmas.List.Elements.{All-cons, All-nil}
use Rattle.std.proofs.lemmas.Bool.Decides.{Decides-eqb}
use Rattle.std.proofs.lemmas.Slice.Eq.{starts_is}
use Rattle.std.specs.Option.{option_and_then}
use Rattle.std.proofs.lemmas.Grind.{common_steps}
use Rattle.std.specs.List.{prefix_len, starts_with, All, flat_map}
use Rattle.httparse.specs.Grammar.{is_token_byte, is_value_byte, AllPass, IsToken, Field, IsField, print_field, print_section, print_end, LineEnd, crlf, lf, ReadsSection, HasNoSection, trim_ows}
use Rattle.httparse.specs.Spans.{name_and_value, header_bytes, SectionOverflows, FindsSection, IsSectionOf}
use Rattle.httparse.specs.declared.spans.HeaderSpan.{HeaderSpan}
use Rattle.httparse.specs.declared.Status.TheVariants.{Complete}
use Rattle.std.specs.Prelude.{Ok}
use Rattle.std.proofs.lemmas.List.{length-map}
use Rattle.lsp_frame.specs.Laws.{GoodBlocks}
use Rattle.lsp_frame.specs.Blocks.{header_at, named_at, value_at, after_end, headers_in, ended, Header}

-- a run of bytes that pass, and then one that does not
pub run_stops : (test : ℕ → Bool) (xs : List ℕ) (c : ℕ) (ys : List ℕ) → AllPass test xs → test c ≡ false → prefix_len test (xs ++ c ∷ ys) ≡ length xs
run_stops test [] c ys pass stops = rw stops refl
run_stops test (x ∷ xs) c ys pass stops =
    let here : test x ≡ true = pass 0 0 (omega arith) in
    let later : AllPass test xs = λ k d h. pass (suc k) d (omega arith) in
    rw here (omega (arith, run_stops test xs c ys later stops))

pub after_print_end : (e : LineEnd) (rest : List ℕ) → after_end (print_end e ++ rest) ≡ Some rest
after_print_end crlf rest = refl
after_print_end lf rest = refl

newline_ends : (e : LineEnd) (rest : List ℕ) → (c : ℕ) × (tail : List ℕ) × (print_end e ++ rest ≡ c ∷ tail) × (is_value_byte c ≡ false)
newline_ends crlf rest = (13, 10 ∷ rest, refl, refl)
newline_ends lf rest = (10, rest, refl, refl)

-- taking and dropping the run
run_parts : (test : ℕ → Bool) (xs : List ℕ) (c : ℕ) (ys : List ℕ) → AllPass test xs → test c ≡ false
    → (take (prefix_len test (xs ++ c ∷ ys)) (xs ++ c ∷ ys) ≡ xs) × (drop (prefix_len test (xs ++ c ∷ ys)) (xs ++ c ∷ ys) ≡ c ∷ ys)
run_parts test xs c ys pass stops = rw (run_stops test xs c ys pass stops) (grind (arith, common_steps), grind (arith, common_steps))

value_parts : (name raw : List ℕ) (e : LineEnd) (rest : List ℕ) → AllPass is_value_byte raw → value_at name (raw ++ (print_end e ++ rest)) ≡ Some ((name, trim_ows raw), rest)
value_parts name raw e rest pass =
    let n = newline_ends e rest in
    let parts = run_parts is_value_byte raw n.0 n.1 pass n.3 in
    let whole : raw ++ (print_end e ++ rest) ≡ raw ++ n.0 ∷ n.1 = ap (λ t. raw ++ t) n.2 in
    rw whole (rw (parts.0, parts.1) (ap (option_map (λ r. ((name, trim_ows raw), r))) (ap after_end (sym n.2) ∙ after_print_end e rest)))

colon_stops : is_token_byte 58 ≡ false
unfolding is_token_byte
colon_stops = refl

lf_stops : is_token_byte 10 ≡ false
unfolding is_token_byte
lf_stops = refl

cr_stops : is_token_byte 13 ≡ false
unfolding is_token_byte
cr_stops = refl

positive : (n : ℕ) → 0 < n → (n == 0) ≡ false
positive n h = grind arith

regrouped : (f : Field) (rest : List ℕ) → print_field f ++ rest ≡ f.name ++ 58 ∷ (f.raw ++ (print_end f.end ++ rest))
regrouped f rest = append_assoc (f.name ++ 58 ∷ f.raw) (print_end f.end) rest ∙ append_assoc f.name (58 ∷ f.raw) (print_end f.end ++ rest)

pub header_parts : (f : Field) (rest : List ℕ) → IsField f → header_at (print_field f ++ rest) ≡ Some (name_and_value f, rest)
unfolding header_at
header_parts f rest is =
    let tail = f.raw ++ (print_end f.end ++ rest) in
    let parts = run_parts is_token_byte f.name 58 tail is.name.1 colon_stops in
    let some : (prefix_len is_token_byte (f.name ++ 58 ∷ tail) == 0) ≡ false =
    ap (λ n. n == 0) (run_stops is_token_byte f.name 58 tail is.name.1 colon_stops) ∙ positive (length f.name) is.name.0 in
    rw (regrouped f rest) (rw some (rw (parts.0, parts.1) (value_parts f.name f.raw f.end rest is.raw)))

-- a transition that begins with a byte of a name is not empty
differ : (a b : ℕ) → (a ≡ b → ⊥) → eqb a b ≡ false
differ a b h = grind arith

not_end : (c : ℕ) (bs : List ℕ) → is_token_byte c ≡ true → after_end (c ∷ bs) ≡ None
not_end c bs token =
    let apart : (d : ℕ) → is_token_byte d ≡ false → eqb d c ≡ false =
    λ d stops. differ d c (λ e. true≢false (sym token ∙ ap is_token_byte (sym e) ∙ stops)) in
    rw (apart 10 lf_stops, apart 13 cr_stops) refl

first_byte : (name tail : List ℕ) → IsToken name → after_end (name ++ tail) ≡ None
first_byte [] tail is = absurd (omega (arith, is.0))
first_byte (c ∷ name) tail is = not_end c (name ++ tail) (is.1 0 0 (omega arith))

field_later : (f : Field) (fs : List Field) → All IsField (f ∷ fs) → All IsField fs
field_later f fs all = λ k d h. all (suc k) d (omega arith)

pub headers_of_section : (fields : List Field) (k : ℕ) (last : LineEnd) → All IsField fields → length fields ≤ k → headers_in k (print_section fields last) ≡ Some (map name_and_value fields)
headers_of_section [] zero crlf all few = refl
headers_of_section [] zero lf all few = refl
headers_of_section [] (suc k) crlf all few = refl
headers_of_section [] (suc k) lf all few = refl
headers_of_section (f ∷ fs) zero last all few = absurd (omega arith)
headers_of_section (f ∷ fs) (suc k) last all few =
    let is : IsField f = all 0 f (omega arith) in
    let section = print_section fs last in
    let whole : print_section (f ∷ fs) last ≡ print_field f ++ section = append_assoc (print_field f) (flat_map print_field fs) (print_end last) in
    let begins : after_end (print_field f ++ section) ≡ None =
    ap after_end (regrouped f section) ∙ first_byte f.name (58 ∷ (f.raw ++ (print_end f.end ++ section))) is.name in
    rw whole (rw begins (rw (header_parts f section is) (rw (headers_of_section fs k last (field_later f fs all) (omega arith)) refl)))

-- ---- what has headers is a section

passes_front : (test : ℕ → Bool) (xs : List ℕ) → AllPass test (take (prefix_len test xs) xs)
passes_front test xs = λ k d h. grind (arith, common_steps, prefix_len_passes test xs k d)

whole_again : (n : ℕ) (xs : List ℕ) → xs ≡ take n xs ++ drop n xs
whole_again n xs = grind (arith, common_steps)

abbrev IsList : Option (List ℕ) → List ℕ → Type 0
IsList o r = o ≡ Some r

abbrev IsRead : Option (Header × List ℕ) → Header × List ℕ → Type 0
IsRead o p = o ≡ Some p

abbrev AreRead : Option (List Header) → List Header → Type 0
AreRead o hs = o ≡ Some hs

end_inverse : (xs r : List ℕ) → IsList (after_end xs) r → (e : LineEnd) × (xs ≡ print_end e ++ r)
end_inverse xs r is = first (starts_with nat_eq xs (10 ∷ [])) refl is
  where
    second : (b : Bool) → starts_with nat_eq xs (13 ∷ 10 ∷ []) ≡ b → IsList (option_map (λ n. drop n xs) (cond b (Some 2) None)) r → (e : LineEnd) × (xs ≡ print_end e ++ r)
    second true e is =
        let rest : drop 2 xs ≡ r = cc in
        (crlf, (starts_is Decides-eqb xs (13 ∷ 10 ∷ []) _ refl).0 e ∙ ap (λ t. 13 ∷ 10 ∷ t) rest)
    second false e is = let h : IsList None r = is in absurd cc

    first : (b : Bool) → starts_with nat_eq xs (10 ∷ []) ≡ b → IsList (option_map (λ n. drop n xs) (cond b (Some 1) (cond (starts_with nat_eq xs (13 ∷ 10 ∷ [])) (Some 2) None))) r → (e : LineEnd) × (xs ≡ print_end e ++ r)
    first true e is =
        let rest : drop 1 xs ≡ r = cc in
        (lf, (starts_is Decides-eqb xs (10 ∷ []) _ refl).0 e ∙ ap (λ t. 10 ∷ t) rest)
    first false e is = second _ refl is

pub record IsValueAt (name bs : List ℕ) (p : Header × List ℕ) : Type 0 where
  raw : List ℕ
  end : LineEnd
  pass : AllPass is_value_byte raw
  whole : bs ≡ raw ++ (print_end end ++ p.1)
  same : (name, trim_ows raw) ≡ p.0

value_read : (name bs : List ℕ) (p : Header × List ℕ) (n : ℕ) → n ≡ prefix_len is_value_byte bs → (o : Option (List ℕ)) → after_end (drop n bs) ≡ o
    → IsRead (option_map (λ r. ((name, trim_ows (take n bs)), r)) o) p → IsValueAt name bs p
value_read name bs p n at None e is = let h : IsRead None p = is in absurd cc
value_read name bs p n at (Some r) e is =
    let end = end_inverse (drop n bs) r e in
    let named : ((name, trim_ows (take n bs)), r) ≡ p = cc in
    record {
      raw = take n bs;
      end = end.0;
      pass = rw at (passes_front is_value_byte bs);
      whole = whole_again n bs ∙ ap (λ t. take n bs ++ t) (end.1 ∙ ap (λ t. print_end end.0 ++ t) (ap (λ q. q.1) named));
      same = ap (λ q. q.0) named;
    }

value_inverse : (name bs : List ℕ) (p : Header × List ℕ) → IsRead (value_at name bs) p → IsValueAt name bs p
value_inverse name bs p is = value_read name bs p (prefix_len is_value_byte bs) refl _ refl is

-- a transition of the grammar stands at the front
pub record IsHeaderAt (bs : List ℕ) (p : Header × List ℕ) : Type 0 where
  field : Field
  is : IsField field
  whole : bs ≡ print_field field ++ p.1
  same : name_and_value field ≡ p.0

of_value : (name tail bs : List ℕ) (p : Header × List ℕ) → IsToken name → bs ≡ name ++ 58 ∷ tail → IsValueAt name tail p → IsHeaderAt bs p
of_value name tail bs p token whole v =
    let f : Field = record { name = name; raw = v.raw; end = v.end } in
    record {
      field = f;
      is = record { name = token; raw = v.pass };
      whole = whole ∙ ap (λ t. name ++ 58 ∷ t) v.whole ∙ sym (regrouped f p.1);
      same = v.same;
    }

named_inverse : (name after bs : List ℕ) (p : Header × List ℕ) → IsToken name → bs ≡ name ++ after → IsRead (named_at name after) p → IsHeaderAt bs p
named_inverse name [] bs p token whole is = let h : IsRead None p = is in absurd cc
named_inverse name (c ∷ tail) bs p token whole is = colon (c == 58) refl is
  where
    colon : (b : Bool) → (c == 58) ≡ b → IsRead (cond b (value_at name tail) None) p → IsHeaderAt bs p
    colon true e is =
        let same : c ≡ 58 = grind arith in
        of_value name tail bs p token (whole ∙ ap (λ d. name ++ d ∷ tail) same) (value_inverse name tail p is)
    colon false e is = let h : IsRead None p = is in absurd cc

header_read : (bs : List ℕ) (p : Header × List ℕ) (n : ℕ) → n ≡ prefix_len is_token_byte bs → (b : Bool) → (n == 0) ≡ b
    → IsRead (cond b None (named_at (take n bs) (drop n bs))) p → IsHeaderAt bs p
header_read bs p n at true e is = let h : IsRead None p = is in absurd cc
header_read bs p n at false e is =
    let fits : n ≤ length bs = rw at (prefix_len-le-length is_token_byte bs) in
    let token : IsToken (take n bs) = (grind (arith, common_steps), rw at (passes_front is_token_byte bs)) in
    named_inverse (take n bs) (drop n bs) bs p token (whole_again n bs) is

pub header_inverse : (bs : List ℕ) (p : Header × List ℕ) → IsRead (header_at bs) p → IsHeaderAt bs p
unfolding header_at
header_inverse bs p is = header_read bs p (prefix_len is_token_byte bs) refl _ refl is

-- ---- a whole section

pub record IsSection (bs : List ℕ) (k : ℕ) (hs : List Header) : Type 0 where
  pub fields : List Field
  pub last : LineEnd
  pub all : All IsField fields
  pub whole : bs ≡ print_section fields last
  pub few : length fields ≤ k
  pub same : map name_and_value fields ≡ hs

-- no headers: the empty line alone
none_read : (bs rest : List ℕ) (k : ℕ) (hs : List Header) (b : Bool) → (length rest == 0) ≡ b → IsList (after_end bs) rest → AreRead (cond b (Some []) None) hs → IsSection bs k hs
none_read bs rest k hs false z e is = let h : AreRead None hs = is in absurd cc
none_read bs rest k hs true z e is =
    let end = end_inverse bs rest e in
    let nothing : rest ≡ [] = empty_is rest (grind arith) in
    let none : [] ≡ hs = cc in
    record {
      fields = [];
      last = end.0;
      all = All-nil IsField;
      whole = end.1 ∙ ap (λ t. print_end end.0 ++ t) nothing ∙ append_nil_end end.0;
      few = omega arith;
      same = none;
    }
  where
    empty_is : (xs : List ℕ) → length xs ≡ 0 → xs ≡ []
    empty_is [] h = refl
    empty_is (x ∷ xs) h = absurd (omega arith)

    append_nil_end : (e : LineEnd) → print_end e ++ [] ≡ print_end e
    append_nil_end crlf = refl
    append_nil_end lf = refl

one_more : (bs : List ℕ) (k : ℕ) (p : Header × List ℕ) (hs : List Header) → IsHeaderAt bs p → IsSection p.1 k hs → IsSection bs (suc k) (p.0 ∷ hs)
one_more bs k p hs h s = record {
  fields = h.field ∷ s.fields;
  last = s.last;
  all = All-cons IsField h.field s.fields h.is s.all;
  whole = h.whole ∙ ap (λ t. print_field h.field ++ t) s.whole ∙ sym (append_assoc (print_field h.field) (flat_map print_field s.fields) (print_end s.last));
  few = omega (arith, s.few);
  same = ap (λ x. x ∷ map name_and_value s.fields) h.same ∙ ap (λ xs. p.0 ∷ xs) s.same;
}

abbrev Sound : ℕ → Type 0
Sound k = (bs : List ℕ) (hs : List Header) → AreRead (headers_in k bs) hs → IsSection bs k hs

later_read : (k : ℕ) → Sound k → (bs : List ℕ) (p : Header × List ℕ) (o : Option (List Header)) → headers_in k p.1 ≡ o → IsHeaderAt bs p
    → (hs : List Header) → AreRead (option_map (λ xs. p.0 ∷ xs) o) hs → IsSection bs (suc k) hs
later_read k sound bs p None e at hs is = let h : AreRead None hs = is in absurd cc
later_read k sound bs p (Some xs) e at hs is =
    let same : p.0 ∷ xs ≡ hs = cc in
    subst (IsSection bs (suc k)) same (one_more bs k p xs at (sound p.1 xs e))

first_read : (k : ℕ) → Sound k → (bs : List ℕ) (o : Option (Header × List ℕ)) → header_at bs ≡ o
    → (hs : List Header) → AreRead (option_and_then (λ p. option_map (λ xs. p.0 ∷ xs) (headers_in k p.1)) o) hs → IsSection bs (suc k) hs
first_read k sound bs None e hs is = let h : AreRead None hs = is in absurd cc
first_read k sound bs (Some p) e hs is = later_read k sound bs p (headers_in k p.1) refl (header_inverse bs p e) hs is

begin_zero : (bs : List ℕ) (o : Option (List ℕ)) → after_end bs ≡ o → (hs : List Header) → AreRead (ended o None) hs → IsSection bs 0 hs
begin_zero bs None e hs is = let h : AreRead None hs = is in absurd cc
begin_zero bs (Some rest) e hs is = none_read bs rest 0 hs _ refl e is

begin_suc : (k : ℕ) → Sound k → (bs : List ℕ) (o : Option (List ℕ)) → after_end bs ≡ o → (hs : List Header)
    → AreRead (ended o (option_and_then (λ p. option_map (λ xs. p.0 ∷ xs) (headers_in k p.1)) (header_at bs))) hs → IsSection bs (suc k) hs
begin_suc k sound bs None e hs is = first_read k sound bs (header_at bs) refl hs is
begin_suc k sound bs (Some rest) e hs is = none_read bs rest (suc k) hs _ refl e is

pub section_of_headers : (k : ℕ) → Sound k
section_of_headers zero bs hs is = begin_zero bs (after_end bs) refl hs is
section_of_headers (suc k) bs hs is = begin_suc k (section_of_headers k) bs (after_end bs) refl hs is

-- a block has headers where it is a good block
pub good_blocks_lem : GoodBlocks
good_blocks_lem block hs = (
  λ e. let s = section_of_headers 2 block hs e in
      (s.fields, s.last, (s.all, s.whole ∙ sym (append-nil (print_section s.fields s.last))), s.few, s.same),
  λ is.
      ap (headers_in 2) (is.2.1 ∙ append-nil (print_section is.0 is.1)) ∙ headers_of_section is.0 2 is.1 is.2.0 is.3 ∙ ap Some is.4,
)

-- ---- what the parser answers

abbrev Answer : Type 0
Answer = Option (List Header)

none_of : (o : Answer) → ((hs : List Header) → AreRead o hs → ⊥) → None ≡ o
none_of None never = refl
none_of (Some hs) never = absurd (never hs refl)

reads_section : (block : List ℕ) (s : List Field) (last : LineEnd) → All IsField s → block ≡ print_section s last → ReadsSection block s last []
reads_section block s last all whole = (all, whole ∙ sym (append-nil (print_section s last)))

pub none_where_partial : (block : List ℕ) → HasNoSection block → None ≡ headers_in 2 block
none_where_partial block none = none_of (headers_in 2 block) (λ hs is.
    let s = section_of_headers 2 block hs is in
    none s.fields s.last [] (reads_section block s.fields s.last s.all s.whole))

pub none_where_refused : (block : List ℕ) → SectionOverflows 2 block → None ≡ headers_in 2 block
none_where_refused block over = none_of (headers_in 2 block) (λ hs is.
    let s = section_of_headers 2 block hs is in
    let reads = reads_section block s.fields s.last s.all s.whole in
    omega (arith, s.few, over [] s.fields s.last [] (reads.0, append-nil block ∙ reads.1)))

pub none_where_short : (block : List ℕ) (spans : List HeaderSpan) (len count : ℕ) → FindsSection block 0 2 spans (Ok (Complete (len, count))) → (len ≡ length block → ⊥) → None ≡ headers_in 2 block
none_where_short block spans len count found other = none_of (headers_in 2 block) (λ hs is.
    let s = section_of_headers 2 block hs is in
    let at = found s.fields s.last [] (reads_section block s.fields s.last s.all s.whole) s.few in
    other (at.len_is ∙ omega (arith, ap length s.whole)))

pub some_where_complete : (block : List ℕ) (spans : List HeaderSpan) (len count : ℕ) → IsSectionOf block 0 spans (len, count) → len ≡ length block → count ≤ 2
    → Some (map (header_bytes block) (take count spans)) ≡ headers_in 2 block
some_where_complete block spans len count of whole few =
    let fields = of.0 in
    let last = of.1 in
    let at = of.2 in
    let lengths : length (take count spans) ≡ length fields =
    sym (length-map (take count spans) (header_bytes block)) ∙ ap length at.fields_are ∙ length-map fields name_and_value in
    let room : length fields ≤ 2 = grind (arith, common_steps) in
    let nothing : drop len block ≡ [] = rw whole (drop_all block) in
    let text : block ≡ print_section fields last = at.reads.1 ∙ ap (λ t. print_section fields last ++ t) nothing ∙ append-nil (print_section fields last) in
    ap Some at.fields_are ∙ sym (ap (headers_in 2) text ∙ headers_of_section fields 2 last at.reads.0 room)
  where
    drop_all : (xs : List ℕ) → drop (length xs) xs ≡ []
    drop_all xs = grind (arith, common_steps)
