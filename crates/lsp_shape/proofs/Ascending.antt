-- Members in the order of their names, into which others are put.
use Rattle.std.proofs.Common.{◌≡◌, ℕ, List, Ordering, Less, Equal, Greater, nat_cmp, is_eq, refl, sym, ap, ◌∙◌}
use Rattle.std.proofs.lemmas.Cmp.{nat_list_cmp_total}
use Rattle.std.proofs.lemmas.Map.Text.{is_eq-slice_cmp}
use Rattle.std.proofs.lemmas.Slice.Eq.{bytes_eq-Decides}
use Rattle.std.specs.Cmp.Lexicographic.{slice_cmp}
use Rattle.std.specs.Ordering.{match_ordering, ordering_reverse}
use Rattle.serde_json.specs.Data.{Data, Members, no_members, member, put}
use Rattle.lsp_shape.specs.Write.{put_all}

abbrev pub Below : List ℕ → Members → Type 0
Below k no_members = Unit {0}
Below k (member l d ms) = (slice_cmp nat_cmp k l ≡ Less) × Below k ms

abbrev pub Ascending : Members → Type 0
Ascending no_members = Unit {0}
Ascending (member k d ms) = Below k ms × Ascending ms

pub text_order : (k l : List ℕ) → slice_cmp nat_cmp k l ≡ Equal → k ≡ l
text_order k l e = (bytes_eq-Decides k l).0 (sym (is_eq-slice_cmp k l) ∙ ap is_eq e)

reversed : (k l : List ℕ) → slice_cmp nat_cmp k l ≡ Greater → slice_cmp nat_cmp l k ≡ Less
reversed k l e = nat_list_cmp_total.antisymm l k ∙ ap ordering_reverse e

below_lower : (j k : List ℕ) (ms : Members) → slice_cmp nat_cmp j k ≡ Less → Below k ms → Below j ms
below_lower j k no_members e b = tt
below_lower j k (member l d ms) e b = (nat_list_cmp_total.trans j k l e b.0, below_lower j k ms e b.1)

below_put : (j k : List ℕ) (d : Data) (ms : Members) → slice_cmp nat_cmp j k ≡ Less → Below j ms → Below j (put k d ms)
below_put j k d no_members e b = (e, tt)
below_put j k d (member l c ms) e b = at (below_put j k d ms e b.1) (slice_cmp nat_cmp k l)
  where
    at : Below j (put k d ms) → (o : Ordering) → Below j (match_ordering o (member k d (member l c ms)) (member l d ms) (member l c (put k d ms)))
    at later Less = (e, b)
    at later Equal = (b.0, b.1)
    at later Greater = (b.0, later)

pub ascending_put : (k : List ℕ) (d : Data) (ms : Members) → Ascending ms → Ascending (put k d ms)
ascending_put k d no_members a = (tt, tt)
ascending_put k d (member l c ms) a = at (ascending_put k d ms a.1) (slice_cmp nat_cmp k l) refl
  where
    at : Ascending (put k d ms) → (o : Ordering) → slice_cmp nat_cmp k l ≡ o → Ascending (match_ordering o (member k d (member l c ms)) (member l d ms) (member l c (put k d ms)))
    at later Less e = ((e, below_lower k l ms e a.0), a)
    at later Equal e = (a.0, a.1)
    at later Greater e = (below_put l k d ms (reversed k l e) a.0, later)

pub ascending_put_all : (ms os : Members) → Ascending os → Ascending (put_all ms os)
ascending_put_all no_members os a = a
ascending_put_all (member k d ms) os a = ascending_put_all ms (put k d os) (ascending_put k d os a)
