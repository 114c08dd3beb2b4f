-- A run's trace is what the history grew by.
use Rattle.std.proofs.Common.{◌≡◌, ℕ, ◌+◌, ◌<◌, ◌≤◌, ◌==◌, List, [], ◌∷◌, ◌++◌, length, refl, sym, ◌∙◌, ap, subst, arith, Bool, true, false}
use Rattle.std.specs.Prelude.{Option, Some, if◌then◌else◌, ◌||◌}
use Rattle.std.specs.Option.{option_map}
use Rattle.std.specs.List.{list_any}
use Rattle.lsp_desk.specs.Meaning.{Meaning, Grows}
use Rattle.lsp_desk.specs.Trace.{DeskEntry, TraceEntry, entries_of, places, OthersAsk}
use Rattle.lsp_session.specs.Item.{ItemData}
use Rattle.lsp_session.specs.State.{State}
use Rattle.lsp_session.specs.Semantics.{Semantics}
use Rattle.lsp_session.specs.Run.{Order, Picked}
use Rattle.lsp_server.specs.Course.{Course, Setting, course}
use Rattle.lsp_server.specs.Served.{CallBytes, RanFrom}
use Rattle.lsp_server.specs.History.{is_among, marked_from, IsUnused, RanInHistory, RunsInHistory}

same_number : (n : ℕ) → (n == n) ≡ true
same_number n = grind arith

other_number : (i n : ℕ) → i < n → (i == n) ≡ false
other_number i n less = grind arith

later_number : (i n : ℕ) → n < i → (i == n) ≡ false
later_number i n less = grind arith

-- the places of one's own entries begin where they are counted from
beyond : (i n : ℕ) (trace : List TraceEntry) → i < n → is_among i (places n trace) ≡ false
beyond i n [] less = refl
beyond i n (t ∷ trace) less = at t.own (beyond i (n + 1) trace (omega (arith, less)))
  where
    at : (own : Bool) → is_among i (places (n + 1) trace) ≡ false → is_among i (if own then n ∷ places (n + 1) trace else places (n + 1) trace) ≡ false
    at true ih = ap (λ b. b || is_among i (places (n + 1) trace)) (other_number i n less) ∙ ih
    at false ih = ih

first_place : (n : ℕ) (own : Bool) (trace : List TraceEntry) → is_among n (if own then n ∷ places (n + 1) trace else places (n + 1) trace) ≡ own
first_place n true trace = ap (λ b. b || is_among n (places (n + 1) trace)) (same_number n)
first_place n false trace = beyond n (n + 1) trace (omega arith)

next_places : (i n : ℕ) (own : Bool) (trace : List TraceEntry) → n < i → is_among i (if own then n ∷ places (n + 1) trace else places (n + 1) trace) ≡ is_among i (places (n + 1) trace)
next_places i n true trace less = ap (λ b. b || is_among i (places (n + 1) trace)) (later_number i n less)
next_places i n false trace less = refl

pub marked_trace : (n : ℕ) (own : List ℕ) (trace : List TraceEntry) → ((i : ℕ) → n ≤ i → is_among i own ≡ is_among i (places n trace)) → trace ≡ marked_from n own (entries_of trace)
marked_trace n own [] same = refl
marked_trace n own (t ∷ trace) same =
    let here : is_among n own ≡ t.own = same n (omega arith) ∙ first_place n t.own trace in
    let rest = marked_trace (n + 1) own trace (λ i le. same i (omega (arith, le)) ∙ next_places i n t.own trace (omega (arith, le))) in
    ap (λ l. t ∷ l) rest ∙ ap (λ b. let x : TraceEntry = record { own = b; entry = t.entry } in x ∷ marked_from (n + 1) own (entries_of trace)) (sym here)

pub ran_in_history : {S D : Type 0} (c : Course S D) (call : CallBytes) (items : List ItemData) (last : S) (desk : D) → IsUnused c.meaning c.desk → RanFrom c call items last desk → RanInHistory c call items last desk
ran_in_history c call items last desk unused ran =
    let own_is = ran.grows.own [] unused.none ∙ ap (λ l. l ++ places 0 ran.effect.trace) unused.own in
    record {
      effect = ran.effect;
      run = ran.run;
      writes = ran.writes;
      history = ran.grows.history ∙ ap (option_map (λ h. h ++ entries_of ran.effect.trace)) unused.none;
      trace = marked_trace 0 (c.meaning.own desk) ran.effect.trace (λ i le. ap (is_among i) own_is);
      others = ran.grows.others unused.chief;
    }

pub runs_in_history_lem : {H D C T P : Type 0} (semantics : Semantics H C T) (m : Meaning D) (order : Order P) → RunsInHistory semantics m order
runs_in_history_lem semantics m order setting call items last desk unused ran = ran_in_history (course semantics m order setting) call items last desk unused ran
