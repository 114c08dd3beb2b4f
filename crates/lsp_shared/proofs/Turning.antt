-- A call, from the draw to the pass.
use Rattle.std.proofs.Common.{◌≡◌, ℕ, ◌<◌, ◌≤◌, arith, length-append, ◌+◌, ◌-◌, ◌^◌, ◌==◌, Bool, true, false, List, [], ◌∷◌, ◌++◌, length, refl, sym, ap, ◌∙◌, subst, Result, Ok, Err, Some}
use Rattle.std.specs.Prelude.{None, IsOk, IfOk}
use Rattle.atomic_table.specs.Table.{rest}
use Rattle.lsp_desk.specs.declared.plain.PlainDesk.{PlainDesk}
use Rattle.lsp_desk.specs.declared.call.DeskFault.{DeskFault}
use Rattle.lsp_desk.specs.declared.call.DeskFault.TheVariants as faults
use Rattle.lsp_desk.specs.Reply.{Reply, reply_has_float}
use Rattle.lsp_desk.specs.Desk.{DeskState, opening}
use Rattle.lsp_desk.specs.Plain.{plain_state, StepsTo, takes_no_memory}
use Rattle.lsp_desk.specs.Call.{is_client, call_has_float}
use Rattle.lsp_desk.specs.Trace.{Fits as FitsEntry, after, after_reply, IsReply, AllBelow, times}
use Rattle.lsp_shared.specs.declared.view.Asked.{Asked}
use Rattle.lsp_shared.specs.declared.view.Replied.{Replied}
use Rattle.lsp_shared.specs.declared.view.Item.{Item}
use Rattle.lsp_shared.specs.declared.view.View.{View}
use Rattle.lsp_shared.specs.Rule.{IsLegal, IsClean, IsCleanReply, AreClean, now_of, entry_of, call_of, reply_of, one_at}
use Rattle.lsp_shared.specs.Steps.{Mine, reading, drawing, passing_turn, GotTurn, Ready, HasDrawn, Turned, Answered, item_for}
use native.Mathlib.Decide.{ℕ_discrete}
use Rattle.std.proofs.lemmas.Bool.Decides.{nat_tests}
use Rattle.lsp_shared.proofs.Totals.{legal_append, clean_append, times_append, one_other, one_same, below_append, below_mono}

-- what the desk of one thread makes of a call
pub record Makes {R : Type 0} (view : R → Reply) (note : Asked) (d : PlainDesk) (result : Result R DeskFault) (d2 : PlainDesk) : Type 0 where
  pub steps : StepsTo view d (call_of note) result d2
  pub ready : takes_no_memory (plain_state d) (call_of note) ≡ true → IsOk result
  pub asks : call_has_float (call_of note) ≡ false
  pub replies : IfOk result (λ r. reply_has_float (view r) ≡ false)

-- what a call's entry says of the desk
record Told (d : DeskState) (item : Item) (d2 : DeskState) : Type 0 where
  fits : FitsEntry d (entry_of item)
  lacks : reply_of item.replied ≡ None → takes_no_memory d (call_of item.asked) ≡ false
  clean : IsClean item
  state : d2 ≡ after d (entry_of item)

carried_one : (l : List (ℕ × PlainDesk)) (d e : PlainDesk) → l ≡ (0, d) ∷ rest l → l ≡ (0, e) ∷ [] → (d ≡ e) × (rest l ≡ [])
carried_one l d e p q = (ap (front d) (sym p ∙ q), ap rest q)
  where
    front : PlainDesk → List (ℕ × PlainDesk) → PlainDesk
    front d [] = d
    front d (x ∷ xs) = x.1

module _ {R : Type 0} (view : R → Reply) (wrap : R → Replied) (same : (r : R) → reply_of (wrap r) ≡ Some (view r)) (note : Asked) where
  told_of : (d d2 : PlainDesk) (result : Result R DeskFault) → Makes view note d result d2 → Told (plain_state d) (item_for wrap note result) (plain_state d2)
  told_of d d2 (Ok reply) m = record {
    fits = subst (IsReply (plain_state d) (call_of note)) (sym (same reply)) (sym (ap (λ (x : Reply × DeskState). x.0) m.steps));
    lacks = λ none. let never : Some (view reply) ≡ None = sym (same reply) ∙ none in absurd (cc);
    clean = (m.asks, subst IsCleanReply (sym (same reply)) m.replies);
    state = subst (λ o. plain_state d2 ≡ after_reply (plain_state d) (call_of note) o) (sym (same reply)) (sym (ap (λ (x : Reply × DeskState). x.1) m.steps));
  }
  told_of d d2 (Err faults.NoMemory) m = record { fits = tt; lacks = λ _. at (takes_no_memory (plain_state d) (call_of note)) m.ready; clean = (m.asks, tt); state = m.steps }
    where
      -- a call that takes no memory is Ok
      at : (b : Bool) → (b ≡ true → false ≡ true) → b ≡ false
      at true never = sym (never refl)
      at false never = refl
  told_of d d2 (Err (faults.Spent n)) m = absurd m.steps

  item_asks : (result : Result R DeskFault) → (item_for wrap note result).asked ≡ note
  item_asks (Ok reply) = refl
  item_asks (Err faults.NoMemory) = refl
  item_asks (Err (faults.Spent n)) = refl

  pub ready_of : (t : ℕ) (v : View) (me : Mine) (d d2 : PlainDesk) (result : Result R DeskFault) → GotTurn v t me → (v.owner ≡ false → is_client (call_of note) ≡ true) → me.1 ≡ (0, d) ∷ rest me.1
      → Makes view note d result d2 → Ready (item_for wrap note result) t (me.0, (0, d2) ∷ rest me.1)
  ready_of t v me d d2 result got may at makes =
      let one = carried_one me.1 d got.desk at got.carried in
      let state : plain_state d ≡ now_of me.0.seen = ap plain_state one.0 ∙ got.state ∙ ap now_of (sym (ap (λ (z : View). z.seen) got.view)) in
      let told : Told (now_of me.0.seen) (item_for wrap note result) (plain_state d2) = subst (λ s. Told s (item_for wrap note result) (plain_state d2)) state (told_of d d2 result makes) in
      record {
        desk = d2;
        carried = ap (λ c. (0, d2) ∷ c) one.1;
        phase = ap (λ (z : View). z.phase) got.view;
        fits = told.fits;
        ready = told.lacks;
        clean = told.clean;
        state = told.state;
        client = λ no. ap (λ n. is_client (call_of n)) (item_asks result) ∙ may (sym (ap (λ (z : View). z.owner) got.view) ∙ no);
      }

  -- a call that has its turn is never told that there is none
  pub answered_of : (v w : View) (d d2 : PlainDesk) (result : Result R DeskFault) → Makes view note d result d2 → Turned v (item_for wrap note result) w → Answered wrap note v result w
  answered_of v w d d2 (Ok reply) m t = t
  answered_of v w d d2 (Err faults.NoMemory) m t = t
  answered_of v w d d2 (Err (faults.Spent n)) m t = absurd m.steps

pub turned_of : (v0 : View) (n : ℕ) (me me2 : Mine) (item : Item) (carried : List (ℕ × PlainDesk)) → n + 1 < 2 ^ 64 → v0.read ≤ n → GotTurn (drawing (reading v0 n) n) n me
    → Ready item n (me.0, carried) → me2.0 ≡ passing_turn me.0 n item → Turned v0 item me2.0
turned_of v0 n me me2 item carried small later got ready is = record {
  between = got.rest;
  turn = n;
  seen = seen2;
  made = made;
  place = got.turn;
  ready = subst (λ l. reply_of item.replied ≡ None → takes_no_memory (now_of l) (call_of item.asked) ≡ false) seen ready.ready;
  legal = subst (IsLegal opening) (sym seen2) (legal_append opening (v0.seen ++ got.rest) (item ∷ []) got.legal (subst (λ l. FitsEntry (now_of l) (entry_of item)) seen ready.fits, tt));
  clean = subst AreClean (sym seen2) (clean_append (v0.seen ++ got.rest) (item ∷ []) got.clean (ready.clean, tt));
  clients = got.clients;
  idle = ap (λ (z : View). z.phase) is;
  share = ap (λ (z : View). z.share) is ∙ ap (λ (z : View). z.share) got.view;
  owner = ap (λ (z : View). z.owner) is ∙ ap (λ (z : View). z.owner) got.view;
  inside = subst (AllBelow (length me2.0.seen)) (sym made) (below_append (length me2.0.seen) v0.made (n ∷ [])
      (below_mono (length (v0.seen ++ got.rest)) (length me2.0.seen) v0.made (let l = long in omega arith) got.inside) ((let l = long in let t = got.turn in omega arith), tt));
  once = λ x. once x (ℕ_discrete x n);
  unspent = (let r = read in omega arith);
  later = (let r = read in omega arith);
  whole = λ all x less. whole all x less (ℕ_discrete x n);
}
  where
    seen : me.0.seen ≡ v0.seen ++ got.rest
    seen = ap (λ (z : View). z.seen) got.view

    seen2 : me2.0.seen ≡ (v0.seen ++ got.rest) ++ item ∷ []
    seen2 = ap (λ (z : View). z.seen) is ∙ ap (λ l. l ++ item ∷ []) seen

    made : me2.0.made ≡ v0.made ++ n ∷ []
    made = ap (λ (z : View). z.made) is ∙ ap (λ (z : View). z.made ++ n ∷ []) got.view

    read : me2.0.read ≡ n
    read = ap (λ (z : View). z.read) is ∙ ap (λ (z : View). z.read) got.view

    long : length me2.0.seen ≡ length (v0.seen ++ got.rest) + 1
    long = ap length seen2 ∙ omega (arith, length-append (v0.seen ++ got.rest) (item ∷ []))

    both : (x : ℕ) → times x me2.0.made ≡ times x v0.made + one_at x n
    both x = let a = times_append x v0.made (n ∷ []) in ap (times x) made ∙ omega arith

    mine : (x : ℕ) → x ≡ n → times x me2.0.made ≡ 1
    mine x e =
        let a = both x in
        let c : one_at x n ≡ 1 = ap (λ (k : ℕ). one_at k n) e ∙ one_same n in
        let b : times x v0.made ≡ 0 = ap (λ (k : ℕ). times k v0.made) e ∙ got.none_yet in omega arith

    once : (x : ℕ) → Dec (x ≡ n) → times x me2.0.made ≤ 1
    once x (no ne) = let a = both x in let b = got.once x in let c = one_other x n ne in omega arith
    once x (yes e) = let a = mine x e in omega arith

    whole : v0.share ≡ 2 ^ 63 → (x : ℕ) → x < length me2.0.seen → Dec (x ≡ n) → times x me2.0.made ≡ 1
    whole all x less (no ne) = let a = both x in let l = long in let t = got.turn in let b = got.whole all x (omega arith) in let c = one_other x n ne in omega arith
    whole all x less (yes e) = mine x e

-- a call that was made on the desk as its turn came
module _ {R : Type 0} (view : R → Reply) (wrap : R → Replied) (same : (r : R) → reply_of (wrap r) ≡ Some (view r)) (note asked : Asked) (is : note ≡ asked) (me0 me1 me : Mine) (t : ℕ) (d d2 : PlainDesk) (result : Result R DeskFault)
    (drawn : HasDrawn me0 (Some t) me1) (got : GotTurn me1.0 t me) (may : me0.0.owner ≡ false → is_client (call_of asked) ≡ true) (at : me.1 ≡ (0, d) ∷ rest me.1)
    (asks : call_has_float (call_of asked) ≡ false) (steps : StepsTo view d (call_of asked) result d2) (ready : takes_no_memory (plain_state d) (call_of asked) ≡ true → IsOk result) (replies : IfOk result (λ r. reply_has_float (view r) ≡ false)) where
  got_by : GotTurn (drawing (reading me0.0 t) t) t me
  got_by = subst (λ (m : Mine). GotTurn m.0 t me) drawn.2 got

  makes_by : Makes view note d result d2
  makes_by = subst (λ n. Makes view n d result d2) (sym is) (record { steps = steps; ready = ready; asks = asks; replies = replies })

  pub ready_by : Ready (item_for wrap note result) t (me.0, (0, d2) ∷ rest me.1)
  ready_by = ready_of view wrap same note t _ me d d2 result got_by (λ no. ap (λ n. is_client (call_of n)) is ∙ may no) at makes_by

  pub share_by : me.0.share ≡ me0.0.share
  share_by = ap (λ (z : View). z.share) got_by.view

  pub turned_by : (me2 : Mine) → me2 ≡ (passing_turn me.0 t (item_for wrap note result), []) → Turned me0.0 (item_for wrap note result) me2.0
  turned_by me2 passed = turned_of me0.0 t me me2 _ _ drawn.0 drawn.1 got_by ready_by (ap (λ (m : Mine). m.0) passed)

  pub answered_by : (me2 : Mine) → me2 ≡ (passing_turn me.0 t (item_for wrap note result), []) → Answered wrap note me0.0 result me2.0
  answered_by me2 passed = answered_of view wrap same note me0.0 me2.0 d d2 result makes_by (turned_by me2 passed)

  pub seen_by : (me2 : Mine) → me2 ≡ (passing_turn me.0 t (item_for wrap note result), []) → length me2.0.seen ≡ t + 1
  seen_by me2 passed =
      let a = got_by.turn in
      let b : length me.0.seen ≡ length (me0.0.seen ++ got_by.rest) = ap (λ (z : View). length z.seen) got_by.view in
      ap (λ (m : Mine). length m.0.seen) passed ∙ omega (arith, length-append me.0.seen (item_for wrap note result ∷ []))

-- where a turn was had, neither was the ticket word at its last value before
pub unspent_by : (a b : ℕ) → a ≤ b → b + 1 < 2 ^ 64 → (a == 2 ^ 64 - 1) ≡ (b == 2 ^ 64 - 1)
unspent_by a b le small = grind (arith, nat_tests)
