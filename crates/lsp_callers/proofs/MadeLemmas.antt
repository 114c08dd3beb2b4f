-- The entries that a seat's own calls made, as its history grows.
use Rattle.std.proofs.Common.{◌≡◌, ℕ, ◌+◌, ◌<◌, ◌≤◌, List, [], ◌∷◌, ◌++◌, map, length, get_or, refl, sym, ap, ◌∙◌, subst, arith, append_assoc, length-append}
use Rattle.std.proofs.lemmas.List.{map-append, length-map, get_or_append_left, get_or_at}
use Rattle.lsp_desk.specs.Trace.{DeskEntry, AllBelow}
use Rattle.lsp_shared.specs.declared.view.Item.{Item}
use Rattle.lsp_shared.specs.declared.view.View.{View}
use Rattle.lsp_shared.specs.Rule.{entry_of}
use Rattle.lsp_shared.specs.Steps.{Turned, Begins, joined, learned}
use Rattle.lsp_shared.specs.Seats.{entries_seen}
use Rattle.lsp_callers.specs.Made.{no_entry, entries_at, entries_made}

-- what stands in a history stands in a longer one
pub entries_at-more : (h more : List DeskEntry) (ks : List ℕ) → AllBelow (length h) ks → entries_at (h ++ more) ks ≡ entries_at h ks
entries_at-more h more [] p = refl
entries_at-more h more (k ∷ ks) p =
    ap (λ e. e ∷ entries_at (h ++ more) ks) (get_or_append_left h more no_entry k p.0) ∙ ap (λ l. get_or h k no_entry ∷ l) (entries_at-more h more ks p.1)

seen_long : (v : View) → length (entries_seen v) ≡ length v.seen
seen_long v = length-map v.seen entry_of

pub entries_seen-more : (v w : View) (more : List Item) → w.seen ≡ v.seen ++ more → entries_seen w ≡ entries_seen v ++ map entry_of more
entries_seen-more v w more is = ap (map entry_of) is ∙ map-append entry_of v.seen more

pub kept_at : (v w : View) (more : List Item) (ks : List ℕ) → w.seen ≡ v.seen ++ more → AllBelow (length v.seen) ks → entries_at (entries_seen w) ks ≡ entries_at (entries_seen v) ks
kept_at v w more ks is inside =
    ap (λ h. entries_at h ks) (entries_seen-more v w more is)
    ∙ entries_at-more (entries_seen v) (map entry_of more) ks (subst (λ (n : ℕ). AllBelow n ks) (sym (seen_long v)) inside)

-- one call more
pub made_turned : (v w : View) (item : Item) → AllBelow (length v.seen) v.made → Turned v item w → entries_made w ≡ entries_made v ++ entry_of item ∷ []
made_turned v w item inside t =
    let before = v.seen ++ t.between in
    let last : get_or (entries_seen w) t.turn no_entry ≡ entry_of item =
    ap (λ h. get_or h t.turn no_entry) (ap (map entry_of) t.seen ∙ map-append entry_of before (item ∷ []))
    ∙ get_or_at (map entry_of before) (entry_of item) [] no_entry t.turn (length-map before entry_of ∙ sym t.place) in
    ap (entries_at (entries_seen w)) t.made ∙ map-append _ v.made (t.turn ∷ [])
    ∙ ap (λ l. l ++ get_or (entries_seen w) t.turn no_entry ∷ []) (kept_at v w (t.between ++ item ∷ []) v.made (t.seen ∙ append_assoc v.seen t.between (item ∷ [])) inside)
    ∙ ap (λ e. entries_made v ++ e ∷ []) last

-- another seat is taken in
pub made_joined : (v w u : View) → AllBelow (length v.seen) v.made → AllBelow (length w.seen) w.made → u ≡ learned (joined v w) → Begins v.seen u.seen → Begins w.seen u.seen
    → entries_made u ≡ entries_made v ++ entries_made w
made_joined v w u vs ws is one two =
    ap (entries_at (entries_seen u)) (ap (λ (x : View). x.made) is) ∙ map-append _ v.made w.made
    ∙ ap (λ l. l ++ entries_at (entries_seen u) w.made) (kept_at v u one.0 v.made one.1 vs)
    ∙ ap (λ l. entries_made v ++ l) (kept_at w u two.0 w.made two.1 ws)
