-- A transition moves forward or stops, save a search that finds its text where it begins and an empty body.
use Rattle.std.proofs.Common.{◌≡◌, ℕ, suc, ◌<◌, ◌≤◌, ◌⊎◌, inl, inr, List, [], ◌∷◌, length, take, drop, Bool, true, false, ◌==◌, nat_eq, nat_lt, cond, Option, Some, None, option_map, codes, refl, ap, ◌∙◌, subst, arith, length-drop}
use Rattle.std.specs.List.{starts_with}
use Rattle.lsp_frame.specs.Transitions.{Item, Transition, stop, unfinished, go, transition, at_place, first_place, body_item_by}
use Rattle.lsp_frame.specs.Items.{transitions_left}
use Rattle.lsp_frame.specs.Laws.{TransitionsMove, MayStay}
use Rattle.lsp_frame.proofs.TransitionSteady.{IsSteady, steady}
use Rattle.lsp_frame.specs.declared.settings.CodecSettings.{CodecSettings}
use Rattle.lsp_frame.specs.declared.decode_state.DecodeState.{DecodeState}
use Rattle.lsp_frame.specs.declared.decode_state.DecodeState.TheVariants.{Frame, Search, Body, Skip}

abbrev Moves : DecodeState → List ℕ → Option Item → DecodeState → ℕ → Type 0
Moves k bs x j n = (0 < n) ⊎ (MayStay k bs × (x ≡ None) × (j ≡ Frame))

abbrev Is : Transition → Option Item → DecodeState → ℕ → Type 0
Is l x j n = l ≡ go x j n

abbrev IsPlace : Option ℕ → ℕ → Type 0
IsPlace o r = o ≡ Some r

-- after a frame transition no frame transition comes with so few transitions left, unless bytes were dropped
frame_moves : (bs : List ℕ) (j : DecodeState) (n : ℕ) → n ≤ length bs → transitions_left j (drop n bs) < transitions_left Frame bs → 0 < n
frame_moves bs Frame n fits less = omega (arith, length-drop n bs)
frame_moves bs Search n fits less = omega (arith, length-drop n bs)
frame_moves bs (Body m) n fits less = omega (arith, length-drop n bs)
frame_moves bs (Skip m) n fits less = omega (arith, length-drop n bs)

place_moves : (bs : List ℕ) (r : ℕ) → IsPlace (first_place (codes "Content-Length") bs) r → (0 < r) ⊎ (starts_with nat_eq bs (codes "Content-Length") ≡ true)
place_moves [] r e = let h : IsPlace None r = e in absurd cc
place_moves (c ∷ bs) r e = first (starts_with nat_eq (c ∷ bs) (codes "Content-Length")) refl e
  where
    later : (o : Option ℕ) → IsPlace (option_map suc o) r → 0 < r
    later None e = let h : IsPlace None r = e in absurd cc
    later (Some q) e = let h : suc q ≡ r = cc in omega arith

    first : (b : Bool) → starts_with nat_eq (c ∷ bs) (codes "Content-Length") ≡ b → IsPlace (cond b (Some 0) (option_map suc (first_place (codes "Content-Length") bs))) r
        → (0 < r) ⊎ (starts_with nat_eq (c ∷ bs) (codes "Content-Length") ≡ true)
    first true h e = inr h
    first false h e = inl (later (first_place (codes "Content-Length") bs) e)

search_moves : (bs : List ℕ) (x : Option Item) (j : DecodeState) (n : ℕ) (o : Option ℕ) → first_place (codes "Content-Length") bs ≡ o → Is (at_place o) x j n → Moves Search bs x j n
search_moves bs x j n None at e = let h : Is stop x j n = e in absurd cc
search_moves bs x j n (Some r) at e =
    let none : x ≡ None = cc in
    let frame : j ≡ Frame = cc in
    let place : r ≡ n = cc in
    moved (place_moves bs n (at ∙ ap Some place)) none frame
  where
    moved : (0 < n) ⊎ (starts_with nat_eq bs (codes "Content-Length") ≡ true) → x ≡ None → j ≡ Frame → Moves Search bs x j n
    moved (inl h) none frame = inl h
    moved (inr h) none frame = inr (h, none, frame)

body_moves : (m : ℕ) (bs : List ℕ) (y : Item) (x : Option Item) (j : DecodeState) (n : ℕ) (a b : Bool) → (m == 0) ≡ b
    → Is (cond a unfinished (cond b (go None Frame 0) (go (Some y) Frame m))) x j n → Moves (Body m) bs x j n
body_moves m bs y x j n true b z e = let h : Is unfinished x j n = e in absurd cc
body_moves m bs y x j n false true z e =
    let h : Is (go None Frame 0) x j n = e in
    let none : x ≡ None = cc in
    let frame : j ≡ Frame = cc in
    inr (grind arith, none, frame)
body_moves m bs y x j n false false z e =
    let h : Is (go (Some y) Frame m) x j n = e in
    let size : m ≡ n = cc in
    let some : 0 < m = grind arith in
    inl (omega arith)

skip_moves : (m : ℕ) (bs : List ℕ) (x : Option Item) (j : DecodeState) (n : ℕ) (a b : Bool) → (m == 0) ≡ b → Is (cond a stop (go None Frame m)) x j n → Moves (Skip m) bs x j n
skip_moves m bs x j n true b z e = let h : Is stop x j n = e in absurd cc
skip_moves m bs x j n false true z e =
    let h : Is (go None Frame m) x j n = e in
    let none : x ≡ None = cc in
    let frame : j ≡ Frame = cc in
    inr (grind arith, none, frame)
skip_moves m bs x j n false false z e =
    let h : Is (go None Frame m) x j n = e in
    let size : m ≡ n = cc in
    let some : 0 < m = grind arith in
    inl (omega arith)

transition_moves : (settings : CodecSettings) (s : DecodeState) (bs : List ℕ) (x : Option Item) (j : DecodeState) (n : ℕ) → transition settings s bs ≡ go x j n → IsSteady settings s bs (go x j n) → Moves s bs x j n
transition_moves settings Frame bs x j n e is = inl (frame_moves bs j n is.0 is.1)
transition_moves settings Search bs x j n e is = search_moves bs x j n (first_place (codes "Content-Length") bs) refl e
transition_moves settings (Body m) bs x j n e is = body_moves m bs (body_item_by settings.floats (take m bs)) x j n (nat_lt (length bs) m) (m == 0) refl e
transition_moves settings (Skip m) bs x j n e is = skip_moves m bs x j n (nat_lt (length bs) m) (m == 0) refl e

pub transitions_move_lem : TransitionsMove
transitions_move_lem settings s bs x j n e =
    let is : IsSteady settings s bs (go x j n) = subst (IsSteady settings s bs) e (steady settings s bs) in
    (is.0, transition_moves settings s bs x j n e is)
