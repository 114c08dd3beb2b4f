-- Values without a float, put together.
use Rattle.std.proofs.Common.{◌≡◌, ℕ, List, [], ◌∷◌, ◌++◌, Bool, true, false, ◌||◌, Ordering, Less, Equal, Greater, refl, true≢false}
use Rattle.std.specs.Ordering.{nat_cmp, match_ordering}
use Rattle.std.specs.Cmp.Lexicographic.{slice_cmp}
use Rattle.serde_json.specs.Data.{Data, Members, no_members, member, put}
use Rattle.serde_json.specs.View.{view, items_view}
use Rattle.serde_json.specs.Written.{has_float, items_have_float, members_have_float}
use Rattle.serde_json.specs.declared.value.Value.{Value}

pub neither : (a b : Bool) → (a || b) ≡ false → (a ≡ false) × (b ≡ false)
neither true b h = absurd (true≢false h)
neither false b h = (refl, h)

pub push_clean : (vs : List Value) (v : Value) → items_have_float (items_view vs) ≡ false → has_float (view v) ≡ false → items_have_float (items_view (vs ++ v ∷ [])) ≡ false
push_clean [] v all one = rw one refl
push_clean (x ∷ vs) v all one =
    let both = neither (has_float (view x)) (items_have_float (items_view vs)) all in
    rw both.0 (push_clean vs v both.1 one)

at_place : (o : Ordering) (l : List ℕ) (d e : Data) (k : List ℕ) (ms : Members) → has_float e ≡ false → members_have_float ms ≡ false → has_float d ≡ false → members_have_float (put k d ms) ≡ false
    → members_have_float (match_ordering o (member k d (member l e ms)) (member l d ms) (member l e (put k d ms))) ≡ false
at_place Less l d e k ms this rest one more = rw (one, this, rest) refl
at_place Equal l d e k ms this rest one more = rw (one, rest) refl
at_place Greater l d e k ms this rest one more = rw (this, more) refl

pub put_clean : (k : List ℕ) (d : Data) (ms : Members) → members_have_float ms ≡ false → has_float d ≡ false → members_have_float (put k d ms) ≡ false
put_clean k d no_members all one = rw one refl
put_clean k d (member l e ms) all one =
    let both = neither (has_float e) (members_have_float ms) all in
    at_place (slice_cmp nat_cmp k l) l d e k ms both.0 both.1 one (put_clean k d ms both.1 one)
