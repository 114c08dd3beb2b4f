-- What a seat means.
use Rattle.std.specs.Prelude.{◌≡◌, ◌+◌, ℕ, suc, false, true, List, [], ◌∷◌, map, length, Some, MatchBool, MatchOption}
use mathlib.Core.Path.{refl, sym, ap, subst}
use Rattle.lsp_desk.specs.Desk.{opening}
use Rattle.lsp_desk.specs.Flow.{all_given, all_answered, open_tickets}
use Rattle.lsp_desk.specs.Trace.{DeskEntry, after_all, AllBelow, times}
use Rattle.lsp_desk.specs.Meaning.{Meaning, IsLawfulDesk}
use Rattle.atomic_table.specs.Seated.{TableId}
use Rattle.lsp_shared.specs.declared.rested.Rested.{Rested}
use Rattle.lsp_shared.specs.declared.role.Role.{Ghosts}
use Rattle.lsp_shared.specs.declared.seat.DeskSeat.{DeskSeat}
use Rattle.lsp_shared.specs.declared.view.View.{View}
use Rattle.lsp_shared.specs.declared.view.Item.{Item}
use Rattle.lsp_shared.specs.Rule.{now_of, entry_of}
use Rattle.lsp_shared.specs.Desks.{rested_desk, rested_view, rested_spent}

-- which desk, and which share
abbrev pub kin_of : TableId → ℕ → List ℕ
kin_of z share = share ∷ z.words ∷ z.slots ∷ z.views_name ∷ z.atom ∷ z.block ∷ z.offset ∷ z.slot_names

-- what a seat has seen, as entries
abbrev pub entries_seen : View → List DeskEntry
entries_seen v = map entry_of v.seen

-- the tickets given in what a seat has seen are, each as often, those whose answers were taken, are kept, or are awaited
abbrev pub SeenTicketsAddUp : View → Type 0
SeenTicketsAddUp v = (n : ℕ) → times n (all_given (entries_seen v)) ≡ times n (all_answered (entries_seen v)) + times n (open_tickets (now_of v.seen))

-- ---- a value that holds a seat at rest

abbrev pub meaning_by : {D : Type 0} → (D → Rested) → Meaning D
meaning_by rested = record {
  now = λ d. now_of (rested_view (rested d)).seen;
  alone = λ _. false;
  history = λ d. Some (entries_seen (rested_view (rested d)));
  own = λ d. (rested_view (rested d)).made;
  spent = λ d. rested_spent (rested d);
  kin = λ d. kin_of (rested_desk (rested d)) (rested_view (rested d)).share;
  chief = λ d. (rested_view (rested d)).owner;
}

-- as many entries as items
abbrev pub seen_long : (xs : List Item) → length (map entry_of xs) ≡ length xs
seen_long [] = refl
seen_long (x ∷ xs) = ap suc (seen_long xs)

-- nobody is ever alone
abbrev pub not_alone : {P : Type 0} → false ≡ true → P
not_alone {P} same = subst (λ b. MatchBool b P (Unit {0})) same tt

-- a history that is told is the one that was seen
abbrev pub of_told : (P : List DeskEntry → Type 0) {seen h : List DeskEntry} → Some seen ≡ Some h → P seen → P h
of_told P same p = subst (λ told. MatchOption told (Unit {0}) P) same p

abbrev pub laws_by : {D : Type 0} (rested : D → Rested) → IsLawfulDesk (meaning_by rested)
laws_by rested = record {
  alone_unspent = λ d alone. not_alone alone;
  now_told = λ d h told. of_told (λ l. now_of (rested_view (rested d)).seen ≡ after_all opening l) told refl;
  own_inside = λ d h told. let v = rested_view (rested d) in of_told (λ l. AllBelow (length l) v.made) told (subst (λ (n : ℕ). AllBelow n v.made) (sym (seen_long v.seen)) (rested d).inside);
  own_once = λ d h told n. (rested d).once n;
}

-- ---- a seat at its desk

module _ {R K : Type 0} {g : Ghosts K} where
  abbrev pub at_rest : DeskSeat R K g → Rested
  at_rest c = c.rested

  abbrev pub seat_meaning : Meaning (DeskSeat R K g)
  seat_meaning = meaning_by at_rest

  abbrev pub seat_laws : IsLawfulDesk seat_meaning
  seat_laws = laws_by at_rest

  -- what a seat knows, and which desk is its
  abbrev pub seat_view : DeskSeat R K g → View
  seat_view c = rested_view c.rested

  abbrev pub seat_desk : DeskSeat R K g → TableId
  seat_desk c = rested_desk c.rested
