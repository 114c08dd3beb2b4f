-- A call through a seat is one of the desk's, at its place in the history.
use Rattle.std.proofs.Common.{◌≡◌, ℕ, ◌+◌, Bool, true, List, [], ◌∷◌, ◌++◌, map, length, refl, sym, ap, ◌∙◌, subst, Option, Some, None, Result, Ok, Err, arith, append_assoc, append-nil, length-append, true≢false}
use Rattle.std.proofs.lemmas.List.{map-append, length-map}
use Rattle.lsp_desk.specs.declared.call.DeskFault.{DeskFault}
use Rattle.lsp_desk.specs.declared.call.DeskFault.TheVariants as faults
use Rattle.lsp_desk.specs.Reply.{Reply}
use Rattle.lsp_desk.specs.Desk.{DeskState, opening}
use Rattle.lsp_desk.specs.Trace.{DeskEntry, TraceEntry, Replays, after, entries_of, owns, mine, theirs, places, OthersAsk}
use Rattle.lsp_desk.specs.Meaning.{Grows, Calls, OwnLast}
use Rattle.lsp_desk.proofs.FlowLaws.{tickets_add_up_lem}
use Rattle.atomic_table.specs.Seated.{TableId}
use Rattle.lsp_shared.specs.declared.rested.Rested.{Rested}
use Rattle.lsp_shared.specs.declared.view.Asked.{Asked}
use Rattle.lsp_shared.specs.declared.view.Replied.{Replied}
use Rattle.lsp_shared.specs.declared.view.Item.{Item}
use Rattle.lsp_shared.specs.declared.view.View.{View}
use Rattle.lsp_shared.specs.declared.view.Phase.{Phase}
use Rattle.lsp_shared.specs.declared.view.Phase.TheVariants.{Idle, Drawn, Holding}
use Rattle.lsp_shared.specs.Phases.{is_idle}
use Rattle.lsp_shared.specs.Rule.{run, IsLegal, AllClient, now_of, entry_of, call_of, reply_of}
use Rattle.lsp_shared.specs.Steps.{reading, Turned, Answered, HasTurn, item_for}
use Rattle.lsp_shared.specs.Desks.{rested_desk, rested_view, rested_spent}
use Rattle.lsp_shared.specs.Seats.{meaning_by, kin_of, entries_seen, SeenTicketsAddUp}
use Rattle.lsp_shared.proofs.Totals.{run_append}

-- what others did, and then one's own entry
abbrev pub marks_of : List Item → Item → List TraceEntry
marks_of [] item = mine (entry_of item) ∷ []
marks_of (x ∷ xs) item = theirs (entry_of x) ∷ marks_of xs item

entries_marks : (b : List Item) (item : Item) → entries_of (marks_of b item) ≡ map entry_of (b ++ item ∷ [])
entries_marks [] item = refl
entries_marks (x ∷ xs) item = ap (λ l. entry_of x ∷ l) (entries_marks xs item)

owns_marks : (b : List Item) (item : Item) → owns (marks_of b item) ≡ entry_of item ∷ []
owns_marks [] item = refl
owns_marks (x ∷ xs) item = owns_marks xs item

places_marks : (n : ℕ) (b : List Item) (item : Item) → places n (marks_of b item) ≡ (n + length b) ∷ []
places_marks n [] item = ap (λ (k : ℕ). k ∷ []) (omega arith)
places_marks n (x ∷ xs) item = places_marks (n + 1) xs item ∙ ap (λ (k : ℕ). k ∷ []) (omega arith)

last_marks : (b : List Item) (item : Item) → marks_of b item ≡ map theirs (map entry_of b) ++ mine (entry_of item) ∷ []
last_marks [] item = refl
last_marks (x ∷ xs) item = ap (λ l. theirs (entry_of x) ∷ l) (last_marks xs item)

own_last : (b : List Item) (item : Item) → OwnLast (marks_of b item)
own_last b item = (map entry_of b, last_marks b item ∙ ap (λ l. map theirs (map entry_of b) ++ map mine l) (sym (owns_marks b item)))

others_marks : (b : List Item) (item : Item) → AllClient b → OthersAsk (marks_of b item)
others_marks [] item p = ((λ e. absurd (true≢false e)), tt)
others_marks (x ∷ xs) item p = ((λ _. p.0), others_marks xs item p.1)

legal_drop : (d : DeskState) (a b : List Item) → IsLegal d (a ++ b) → IsLegal (run d a) b
legal_drop d [] b p = p
legal_drop d (x ∷ xs) b p = legal_drop (after d (entry_of x)) xs b p.1

replays_of : (d : DeskState) (xs : List Item) → IsLegal d xs → Replays d (map entry_of xs) (run d xs)
replays_of d [] p = refl
replays_of d (x ∷ xs) p = (p.0, replays_of (after d (entry_of x)) xs p.1)

pub turn_grows : {D : Type 0} (rested : D → Rested) (old new : D) (item : Item) (t : Turned (rested_view (rested old)) item (rested_view (rested new))) → rested_desk (rested new) ≡ rested_desk (rested old)
    → (rested_spent (rested old) ≡ true → rested_spent (rested new) ≡ true) → Grows (meaning_by rested) old (marks_of t.between item) new
turn_grows rested old new item t same spent =
    let v = rested_view (rested old) in
    let w = rested_view (rested new) in
    let tail = t.between ++ item ∷ [] in
    let whole : w.seen ≡ v.seen ++ tail = t.seen ∙ append_assoc v.seen t.between (item ∷ []) in
    let legal : IsLegal (now_of v.seen) tail = legal_drop opening v.seen tail (subst (IsLegal opening) whole t.legal) in
    let ends : run (now_of v.seen) tail ≡ now_of w.seen = sym (run_append opening v.seen tail) ∙ sym (ap now_of whole) in
    let listed = entries_marks t.between item in
    record {
      replays = subst (λ l. Replays (now_of v.seen) l (now_of w.seen)) (sym listed) (subst (Replays (now_of v.seen) (map entry_of tail)) ends (replays_of (now_of v.seen) tail legal));
      history = ap (λ l. Some (map entry_of l)) whole ∙ ap Some (map-append entry_of v.seen tail ∙ ap (λ l. map entry_of v.seen ++ l) (sym listed));
      own = λ h is. t.made ∙ ap (λ (k : ℕ). v.made ++ k ∷ []) (t.place ∙ length-append v.seen t.between)
          ∙ ap (λ (k : ℕ). v.made ++ (k + length t.between) ∷ []) (sym (length-map v.seen entry_of) ∙ ap (λ (o : Option (List DeskEntry)). length (or_none o)) is)
          ∙ ap (λ l. v.made ++ l) (sym (places_marks (length h) t.between item));
      others = λ is. others_marks t.between item (t.clients is);
      all_own = λ is. absurd (true≢false (sym is));
      alone = refl;
      kin = (λ i. kin_of (same i) (t.share i));
      chief = t.owner;
      spent = spent;
    }
  where
    or_none : Option (List DeskEntry) → List DeskEntry
    or_none None = []
    or_none (Some l) = l

spent_grows : {D : Type 0} (rested : D → Rested) (old new : D) (n : ℕ) → rested_view (rested new) ≡ reading (rested_view (rested old)) n → rested_desk (rested new) ≡ rested_desk (rested old)
    → (rested_spent (rested old) ≡ true → rested_spent (rested new) ≡ true) → Grows (meaning_by rested) old [] new
spent_grows rested old new n is same spent = record {
  replays = ap (λ (v : View). now_of v.seen) is;
  history = ap (λ (v : View). Some (map entry_of v.seen)) is ∙ ap Some (sym (append-nil (map entry_of (rested_view (rested old)).seen)));
  own = λ h _. ap (λ (v : View). v.made) is ∙ sym (append-nil (rested_view (rested old)).made);
  others = λ _. tt;
  all_own = λ _. tt;
  alone = refl;
  kin = (λ i. kin_of (same i) (is i).share);
  chief = ap (λ (v : View). v.owner) is;
  spent = spent;
}

module _ {D R : Type 0} (rested : D → Rested) (view : R → Reply) (wrap : R → Replied) (same_reply : (r : R) → reply_of (wrap r) ≡ Some (view r)) where
  pub seat_calls : (old new : D) (note : Asked) (result : Result R DeskFault) → Answered wrap note (rested_view (rested old)) result (rested_view (rested new)) → rested_desk (rested new) ≡ rested_desk (rested old)
      → (rested_spent (rested old) ≡ true → rested_spent (rested new) ≡ true) → Calls (meaning_by rested) view old (call_of note) result new
  seat_calls old new note (Ok reply) t same spent = record {
    trace = marks_of t.between (item_for wrap note (Ok reply));
    grows = turn_grows rested old new _ t same spent;
    adds = owns_marks t.between _ ∙ ap (λ o. record { call = call_of note; reply = o } ∷ []) (same_reply reply);
    own_last = own_last t.between _;
  }
  seat_calls old new note (Err faults.NoMemory) t same spent = record {
    trace = marks_of t.between (item_for wrap note (Err faults.NoMemory));
    grows = turn_grows rested old new _ t same spent;
    adds = owns_marks t.between _;
    own_last = own_last t.between _;
  }
  seat_calls old new note (Err (faults.Spent n)) p same spent = record {
    trace = [];
    grows = spent_grows rested old new n p.1 same spent;
    adds = refl;
    own_last = ([], refl);
  }

-- a call leaves the seat spent where it was, since it is spent where there was no turn
pub spent_stays : {R : Type 0} (result : Result R DeskFault) (old new : Bool) → HasTurn result (new ≡ old) → ((n : ℕ) → result ≡ Err (faults.Spent n) → new ≡ true) → old ≡ true → new ≡ true
spent_stays (Ok reply) old new stays spent is = stays ∙ is
spent_stays (Err faults.NoMemory) old new stays spent is = stays ∙ is
spent_stays (Err (faults.Spent n)) old new stays spent is = spent n refl

-- in a legal history the tickets add up
tickets_of : (v : View) → IsLegal opening v.seen → SeenTicketsAddUp v
tickets_of v legal n = let sum = tickets_add_up_lem opening (now_of v.seen) (entries_seen v) (replays_of opening v.seen legal) n in omega (arith, sum)

pub turn_tickets : {R : Type 0} (wrap : R → Replied) (note : Asked) (v w : View) (result : Result R DeskFault) → Answered wrap note v result w → HasTurn result (SeenTicketsAddUp w)
turn_tickets wrap note v w (Ok reply) t = tickets_of w t.legal
turn_tickets wrap note v w (Err faults.NoMemory) t = tickets_of w t.legal
turn_tickets wrap note v w (Err (faults.Spent n)) t = tt

pub idle_of : (p : Phase) → is_idle p ≡ true → p ≡ Idle
idle_of Idle e = refl
idle_of (Drawn t) e = absurd (true≢false (sym e))
idle_of (Holding t) e = absurd (true≢false (sym e))

pub empty_of : {A : Type 0} (l : List A) → length l ≡ 0 → l ≡ []
empty_of [] e = refl
empty_of (x ∷ xs) e = absurd (omega arith)

desk_in : List ℕ → TableId
desk_in (s ∷ a ∷ b ∷ c ∷ d ∷ e ∷ f ∷ rest) = record { words = a; slots = b; views_name = c; atom = d; block = e; offset = f; slot_names = rest }
desk_in other = record { words = 0; slots = 0; views_name = 0; atom = 0; block = 0; offset = 0; slot_names = [] }

share_in : List ℕ → ℕ
share_in [] = 0
share_in (s ∷ rest) = s

-- one kin is one desk and one share
pub kin_same : (z y : TableId) (s t : ℕ) → kin_of z s ≡ kin_of y t → (z ≡ y) × (s ≡ t)
unfolding desk_in share_in
kin_same z y s t e = (ap desk_in e, ap share_in e)
