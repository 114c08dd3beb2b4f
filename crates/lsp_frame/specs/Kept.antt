-- What a codec keeps from one call to the next: how far it has looked, and what it may need.
use Rattle.std.specs.Prelude.{◌≡◌, ◌≢◌, ℕ, zero, suc, ◌-◌, ◌<◌, ◌≤◌, ◌==◌, List, length, take, get_or, Bool, false, true, ⊤}
use Rattle.std.specs.Str.{is_utf8}
use Rattle.lsp_frame.specs.declared.limits.Limits.{Limits}
use Rattle.lsp_frame.specs.declared.decode_state.DecodeState.{DecodeState}
use Rattle.lsp_frame.specs.declared.decode_state.DecodeState.TheVariants.{Frame, Search, Body, Skip}

-- whether an LF stands right before this place
abbrev pub is_after_lf : List ℕ → ℕ → Bool
is_after_lf bs zero = false
is_after_lf bs (suc i) = get_or bs i 0 == 10

-- no empty line stands right after an LF before place k
abbrev pub IsClear : List ℕ → ℕ → Type 0
IsClear bs k = (i : ℕ) → suc i < k → get_or bs i 0 ≡ 10
    → (get_or bs (suc i) 0 ≢ 10) × (get_or bs (suc i) 0 ≡ 13 → get_or bs (suc (suc i)) 0 ≢ 10)

-- nor does one, whatever bytes follow
abbrev pub IsLooked : List ℕ → ℕ → Type 0
IsLooked bs k = (k ≤ length bs - 1) × IsClear bs k

-- a body that is waited for is within the limit
abbrev pub IsAllowed : Limits → DecodeState → Type 0
IsAllowed limits Frame = ⊤
IsAllowed limits Search = ⊤
IsAllowed limits (Body n) = n ≤ limits.body
IsAllowed limits (Skip n) = ⊤

-- how many bytes aren't needed any more where a state stops at so many: all but those with which a search's text may begin, and all that are skipped
abbrev pub unneeded : DecodeState → ℕ → ℕ
unneeded Frame len = 0
unneeded Search len = len - 13
unneeded (Body n) len = 0
unneeded (Skip n) len = len

-- the state without them
abbrev pub without_needed : DecodeState → ℕ → DecodeState
without_needed Frame len = Frame
without_needed Search len = Search
without_needed (Body n) len = Body n
without_needed (Skip n) len = Skip (n - len)

-- a body that isn't empty is here, whole, and is a text
abbrev pub IsBodyHere : DecodeState → List ℕ → Type 0
IsBodyHere Frame bs = ⊥
IsBodyHere Search bs = ⊥
IsBodyHere (Body n) bs = (0 < n) × (n ≤ length bs) × (is_utf8 (take n bs) ≡ true)
IsBodyHere (Skip n) bs = ⊥
