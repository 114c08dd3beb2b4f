-- What counting lines does with the bytes that it is given.
use Rattle.std.specs.Prelude.{◌≡◌, ◌<◌, ◌+◌, ◌^◌, ℕ, List, []}
use Rattle.lsp_server.specs.Consuming.{Given, piece, end, ConsumerOutcome, goes_on, done, stops, Consuming}
use Rattle.tests_session.specs.Lines.{lines_in, counted}

abbrev pub Counts : ℕ → Given → ConsumerOutcome → List ℕ → ℕ → Type 0
Counts old (piece bytes) goes_on written new = (new ≡ counted (old + lines_in bytes)) × (written ≡ [])
Counts old (piece bytes) done written new = ⊥
Counts old end goes_on written new = ⊥
Counts old end done written new = (new ≡ old) × (written ≡ [])
Counts old given (stops e) written new = Unit {0}

-- over what has such a count
abbrev pub counting : {S : Type 0} → (S → ℕ) → Consuming S
counting lines = record { is_open = λ s. lines s < 2 ^ 64; does = λ a given outcome written b. Counts (lines a) given outcome written (lines b) }
