use Rattle.std.proofs.Common.{◌≡◌, ◌∙◌, ◌+◌, ◌-◌, ◌≤◌, ℕ, List, [], subst, sym, ap, take, drop, length, length-drop, option_map, arith, rules, Result, Ok, Err}
use Rattle.std.specs.Prelude.{OnErr}
use Rattle.std.proofs.lemmas.List.{take_rest}
use Rattle.lsp_frame.specs.Transitions.{go, transition}
use Rattle.lsp_frame.specs.Items.{all_from}
use Rattle.lsp_frame.specs.Kept.{IsLooked, IsBodyHere, unneeded, without_needed}
use Rattle.lsp_frame.specs.Places.{codec_at}
use Rattle.lsp_frame.specs.Shown.{show_transition, show_found, IsWithinBytes}
use Rattle.lsp_frame.specs.declared.settings.CodecSettings.{CodecSettings}
use Rattle.lsp_frame.specs.declared.decode_state.DecodeState.{DecodeState}
use Rattle.lsp_frame.specs.declared.transition.Transition as declared
use Rattle.lsp_frame.proofs.ItemsByTransition.{last_at_unfinished, after_go, after_smaller}
use Rattle.lsp_frame.proofs.PlacesCome.{one_more_silent, comes_with_item, comes_to_stop, comes_unfinished}
use Rattle.lsp_frame.proofs.WaitingItems.{items_stopped, none_stopped, waits_stopped, waits_unfinished}
use Rattle.lsp_frame.proofs.HeldBytes.{goes_to_allowed}
use Rattle.lsp_frame.proofs.BodyHere.{some_told, told_before}
use Rattle.lsp_frame.proofs.ClearPlaces.{looked_further}
use Rattle.lsp_frame.proofs.next_item.find_next.Goals as goal

-- the bytes that the slice from a place on has
abbrev rest : List ℕ → ℕ → List ℕ
rest bytes place = take (length bytes - place) (drop place bytes)

-- the transition that was made of them is that of all from the place on
made : (settings : CodecSettings) (s : DecodeState) (bytes : List ℕ) (place : ℕ) (t u : declared.Transition)
    → show_transition t ≡ transition settings s (rest bytes place) → t ≡ u → transition settings s (drop place bytes) ≡ show_transition u
made settings s bytes place t u value is = ap (transition settings s) (sym (take_rest bytes place)) ∙ sym value ∙ ap show_transition is

seen : (bytes : List ℕ) (place n k : ℕ) → IsLooked (rest bytes place) k → IsLooked (drop (place + n) bytes) (k - n)
seen bytes place n k looked = looked_further bytes place n k (subst (λ t. IsLooked t k) (take_rest bytes place) looked)

fits : (bytes : List ℕ) (place n : ℕ) → place ≤ length bytes → n ≤ length (rest bytes place) → place + n ≤ length bytes
fits bytes place n a b = omega (arith, ap length (take_rest bytes place), length-drop place bytes)

on_err : {T E P : Type 0} (r : Result T E) → P → OnErr r P
on_err (Ok x) holds = tt
on_err (Err e) holds = holds

pub returns-in_err-transition_at-clause-body : goal.returns-in_err-transition_at-clause-body
returns-in_err-transition_at-clause-body c =
    on_err c.from_residual.result
    (told_before c.args.settings c.args.state c.transitions.at c.args.bytes.now (drop c.transitions.place c.args.bytes.now) c.transitions.invariant.same (subst (IsBodyHere c.transitions.at) (take_rest c.args.bytes.now c.transitions.place) c.in_err-transition_at.ensures.memory))

pub returns-in_err-transition_at-clause-memory : goal.returns-in_err-transition_at-clause-memory
returns-in_err-transition_at-clause-memory c =
    on_err c.from_residual.result
    (some_told (all_from c.args.settings [] c.args.state c.args.bytes.now)
    (told_before c.args.settings c.args.state c.transitions.at c.args.bytes.now (drop c.transitions.place c.args.bytes.now) c.transitions.invariant.same (subst (IsBodyHere c.transitions.at) (take_rest c.args.bytes.now c.transitions.place) c.in_err-transition_at.ensures.memory)))

-- where decoding waits, and how much it needs no more
waiting : (c : goal.After-saturating_sub-in-Stop)
    → c.match-at.state ≡ (without_needed c.transitions.at (length c.args.bytes.now - c.transitions.place), unneeded c.transitions.at (length c.args.bytes.now - c.transitions.place))
waiting c = search rules

pub returns-in-Stop-clause-place : goal.returns-in-Stop-clause-place
returns-in-Stop-clause-place c =
    let is = made c.args.settings c.transitions.at c.args.bytes.now c.transitions.place _ _ c.in_ok-transition_at.ensures.value c.in-Stop.is in
    comes_to_stop c.args.settings (codec_at c.args.settings c.args.state c.args.bytes.now) c.transitions.at c.args.bytes.now c.transitions.place c.match-at.state
    c.transitions.invariant.silent is (waiting c)

pub returns-in-Unfinished-clause-place : goal.returns-in-Unfinished-clause-place
returns-in-Unfinished-clause-place c =
    let is = made c.args.settings c.transitions.at c.args.bytes.now c.transitions.place _ _ c.in_ok-transition_at.ensures.value c.in-Unfinished.is in
    comes_unfinished c.args.settings (codec_at c.args.settings c.args.state c.args.bytes.now) c.transitions.at (drop c.transitions.place c.args.bytes.now)
    c.transitions.invariant.silent is

pub returns-in-Some-clause-place : goal.returns-in-Some-clause-place
returns-in-Some-clause-place c =
    let is = made c.args.settings c.transitions.at c.args.bytes.now c.transitions.place _ _ c.in_ok-transition_at.ensures.value c.in-Go.is in
    comes_with_item c.args.settings (codec_at c.args.settings c.args.state c.args.bytes.now) c.transitions.at c.in-Go.to c.args.bytes.now c.transitions.place c.in-Go.n (show_found c.in-Some.found)
    c.transitions.invariant.silent (is ∙ ap (λ o. go (option_map show_found o) c.in-Go.to c.in-Go.n) c.in-Some.is)

pub returns-in-Stop-clause-goes : goal.returns-in-Stop-clause-goes
returns-in-Stop-clause-goes c = λ last more.
    let is = made c.args.settings c.transitions.at c.args.bytes.now c.transitions.place _ _ c.in_ok-transition_at.ensures.value c.in-Stop.is in
    c.transitions.invariant.same last more
    ∙ items_stopped c.args.settings c.transitions.at c.args.bytes.now c.transitions.place is c.transitions.invariant.in_range c.match-at.state (waiting c) last more

pub returns-in-Stop-clause-ends : goal.returns-in-Stop-clause-ends
returns-in-Stop-clause-ends c = λ _ last.
    let is = made c.args.settings c.transitions.at c.args.bytes.now c.transitions.place _ _ c.in_ok-transition_at.ensures.value c.in-Stop.is in
    none_stopped c.args.settings c.transitions.at c.args.bytes.now c.transitions.place is c.transitions.invariant.in_range c.match-at.state (waiting c) last

pub returns-in-Stop-clause-waits : goal.returns-in-Stop-clause-waits
returns-in-Stop-clause-waits c = λ _.
    let is = made c.args.settings c.transitions.at c.args.bytes.now c.transitions.place _ _ c.in_ok-transition_at.ensures.value c.in-Stop.is in
    waits_stopped c.args.settings c.transitions.at c.args.bytes.now c.transitions.place is c.transitions.invariant.in_range c.match-at.state (waiting c)

pub returns-in-Stop-clause-clear : goal.returns-in-Stop-clause-clear
returns-in-Stop-clause-clear c =
    subst (IsLooked (drop (c.transitions.place + c.match-at.state.1) c.args.bytes.now)) (sym c.saturating_sub-in-Stop.ensures)
    (seen c.args.bytes.now c.transitions.place c.match-at.state.1 c.transition_at.new.looked c.in_ok-transition_at.ensures.looked)

pub returns-in-Unfinished-clause-ends : goal.returns-in-Unfinished-clause-ends
returns-in-Unfinished-clause-ends c = λ _ last.
    last_at_unfinished c.args.settings last c.transitions.at (drop c.transitions.place c.args.bytes.now) (made c.args.settings c.transitions.at c.args.bytes.now c.transitions.place _ _ c.in_ok-transition_at.ensures.value c.in-Unfinished.is)

pub returns-in-Unfinished-clause-waits : goal.returns-in-Unfinished-clause-waits
returns-in-Unfinished-clause-waits c = λ _.
    waits_unfinished c.args.settings c.transitions.at (drop c.transitions.place c.args.bytes.now) (made c.args.settings c.transitions.at c.args.bytes.now c.transitions.place _ _ c.in_ok-transition_at.ensures.value c.in-Unfinished.is)

pub returns-in-Some-clause-within : goal.returns-in-Some-clause-within
returns-in-Some-clause-within c =
    fits c.args.bytes.now c.transitions.place c.in-Go.n c.transitions.invariant.in_range
    (subst (IsWithinBytes (length (rest c.args.bytes.now c.transitions.place))) c.in-Go.is c.in_ok-transition_at.ensures.within)

pub returns-in-Some-clause-goes : goal.returns-in-Some-clause-goes
returns-in-Some-clause-goes c = λ last more.
    let is = made c.args.settings c.transitions.at c.args.bytes.now c.transitions.place _ _ c.in_ok-transition_at.ensures.value c.in-Go.is in
    c.transitions.invariant.same last more
    ∙ (rw c.in-Some.is at (after_go c.args.settings c.transitions.at c.in-Go.to c.args.bytes.now c.transitions.place c.in-Go.n (option_map show_found c.in-Go.item) is last more))

pub returns-in-Some-clause-allowed : goal.returns-in-Some-clause-allowed
returns-in-Some-clause-allowed c =
    goes_to_allowed c.args.settings c.transitions.at (drop c.transitions.place c.args.bytes.now) (option_map show_found c.in-Go.item) c.in-Go.to c.in-Go.n
    (made c.args.settings c.transitions.at c.args.bytes.now c.transitions.place _ _ c.in_ok-transition_at.ensures.value c.in-Go.is)

pub returns-in-Some-clause-clear : goal.returns-in-Some-clause-clear
returns-in-Some-clause-clear c =
    subst (IsLooked (drop (c.transitions.place + c.in-Go.n) c.args.bytes.now)) (sym c.saturating_sub-reached.ensures)
    (seen c.args.bytes.now c.transitions.place c.in-Go.n c.transition_at.new.looked c.in_ok-transition_at.ensures.looked)

pub transitions-smaller : goal.transitions-smaller
transitions-smaller c =
    let is = made c.args.settings c.transitions.at c.args.bytes.now c.transitions.place _ _ c.in_ok-transition_at.ensures.value c.in-Go.is in
    after_smaller c.args.settings c.transitions.at c.in-Go.to c.args.bytes.now c.transitions.place c.in-Go.n (option_map show_found c.in-Go.item) is

pub transitions-preserved : goal.transitions-preserved
transitions-preserved c =
    let is = made c.args.settings c.transitions.at c.args.bytes.now c.transitions.place _ _ c.in_ok-transition_at.ensures.value c.in-Go.is in
    record {
      in_range = fits c.args.bytes.now c.transitions.place c.in-Go.n c.transitions.invariant.in_range
          (subst (IsWithinBytes (length (rest c.args.bytes.now c.transitions.place))) c.in-Go.is c.in_ok-transition_at.ensures.within);
      same = λ last more.
          c.transitions.invariant.same last more
          ∙ (rw c.in_default.is at (after_go c.args.settings c.transitions.at c.in-Go.to c.args.bytes.now c.transitions.place c.in-Go.n (option_map show_found c.in-Go.item) is last more));
      silent =
          one_more_silent c.args.settings (codec_at c.args.settings c.args.state c.args.bytes.now) c.transitions.at c.in-Go.to c.args.bytes.now c.transitions.place c.in-Go.n
          c.transitions.invariant.silent (is ∙ ap (λ o. go (option_map show_found o) c.in-Go.to c.in-Go.n) c.in_default.is);
      clear = subst (IsLooked (drop (c.transitions.place + c.in-Go.n) c.args.bytes.now)) (sym c.saturating_sub-reached.ensures)
          (seen c.args.bytes.now c.transitions.place c.in-Go.n c.transition_at.new.looked c.in_ok-transition_at.ensures.looked);
      allowed = goes_to_allowed c.args.settings c.transitions.at (drop c.transitions.place c.args.bytes.now) (option_map show_found c.in-Go.item) c.in-Go.to c.in-Go.n is;
    }
