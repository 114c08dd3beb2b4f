-- What an object has at a name after each of some members was put into it.
use Rattle.std.proofs.Common.{◌≡◌, ℕ, List, Bool, true, false, cond, bytes_eq, Option, Some, None, Ordering, Less, Equal, Greater, nat_cmp, true≢false, refl, sym, ap, ◌∙◌}
use Rattle.std.proofs.lemmas.Cmp.{nat_list_cmp_total, tied_itself}
use Rattle.std.proofs.lemmas.Slice.Eq.{bytes_eq-Decides}
use Rattle.std.specs.Cmp.Lexicographic.{slice_cmp}
use Rattle.std.specs.Option.{option_or}
use Rattle.std.specs.Ordering.{match_ordering}
use Rattle.serde_json.specs.Data.{Data, Members, no_members, member, put}
use Rattle.serde_json.specs.Find.{get_member}
use Rattle.serde_json.proofs.Views.{get_member-put, get_member-put_other}
use Rattle.lsp_shape.specs.Write.{put_all}
use Rattle.lsp_shape.proofs.Ascending.{Below, Ascending, text_order}

-- the last member of that name
abbrev pub last_member : List ℕ → Members → Option Data
last_member q no_members = None
last_member q (member k d ms) = option_or (last_member q ms) (cond (bytes_eq q k) (Some d) None)

apart_bytes : (q k : List ℕ) → bytes_eq q k ≡ false → q ≡ k → ⊥
apart_bytes q k e s = true≢false (sym ((bytes_eq-Decides q k).1 s) ∙ e)

pub skips : (q k : List ℕ) (d : Data) (ms : Members) → (q ≡ k → ⊥) → get_member q (member k d ms) ≡ get_member q ms
skips q k d ms other = at (slice_cmp nat_cmp q k) refl
  where
    at : (o : Ordering) → slice_cmp nat_cmp q k ≡ o → match_ordering o (get_member q ms) (Some d) (get_member q ms) ≡ get_member q ms
    at Less e = refl
    at Equal e = absurd (other (text_order q k e))
    at Greater e = refl

pub first_is : (q k : List ℕ) (d : Data) (ms : Members) → q ≡ k → get_member q (member k d ms) ≡ Some d
first_is q k d ms e = rw (e, tied_itself nat_list_cmp_total) refl

below_absent : (k : List ℕ) (ms : Members) → Below k ms → get_member k ms ≡ None
below_absent k no_members b = refl
below_absent k (member l d ms) b = rw b.0 (below_absent k ms b.1)

put_at : (q k : List ℕ) (d : Data) (os : Members) (b : Bool) → bytes_eq q k ≡ b → get_member q (put k d os) ≡ option_or (cond b (Some d) None) (get_member q os)
put_at q k d os true e = ap (λ n. get_member n (put k d os)) ((bytes_eq-Decides q k).0 e) ∙ get_member-put k d os
put_at q k d os false e = get_member-put_other q k d os (apart_bytes q k e)

joined : (a b c : Option Data) → option_or a (option_or b c) ≡ option_or (option_or a b) c
joined None b c = refl
joined (Some x) b c = refl

pub get-put_all : (q : List ℕ) (ms os : Members) → get_member q (put_all ms os) ≡ option_or (last_member q ms) (get_member q os)
get-put_all q no_members os = refl
get-put_all q (member k d ms) os =
    get-put_all q ms (put k d os) ∙ ap (option_or (last_member q ms)) (put_at q k d os _ refl) ∙ joined (last_member q ms) (cond (bytes_eq q k) (Some d) None) (get_member q os)

nothing_more : (o : Option Data) → option_or o None ≡ o
nothing_more None = refl
nothing_more (Some x) = refl

-- in order, each name is there once
pub last-first : (q : List ℕ) (ms : Members) → Ascending ms → last_member q ms ≡ get_member q ms
last-first q no_members a = refl
last-first q (member k d ms) a = at (last-first q ms a.1) (bytes_eq q k) refl
  where
    at : last_member q ms ≡ get_member q ms → (b : Bool) → bytes_eq q k ≡ b → option_or (last_member q ms) (cond b (Some d) None) ≡ get_member q (member k d ms)
    at later true e =
        let same : q ≡ k = (bytes_eq-Decides q k).0 e in
        let gone : last_member q ms ≡ None = later ∙ ap (λ n. get_member n ms) same ∙ below_absent k ms a.0 in
        rw gone (sym (first_is q k d ms same))
    at later false e = nothing_more (last_member q ms) ∙ later ∙ sym (skips q k d ms (apart_bytes q k e))

-- at a name that the object had not, the members that were put
pub get-put_all_fresh : (q : List ℕ) (ms os : Members) → Ascending ms → get_member q os ≡ None → get_member q (put_all ms os) ≡ get_member q ms
get-put_all_fresh q ms os a none = get-put_all q ms os ∙ ap (option_or (last_member q ms)) none ∙ nothing_more (last_member q ms) ∙ last-first q ms a

-- at a name that the members have not, the object as it was
pub get-put_all_other : (q : List ℕ) (ms os : Members) → Ascending ms → get_member q ms ≡ None → get_member q (put_all ms os) ≡ get_member q os
get-put_all_other q ms os a none = get-put_all q ms os ∙ ap (λ o. option_or o (get_member q os)) (last-first q ms a ∙ none)
