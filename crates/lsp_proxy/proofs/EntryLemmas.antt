-- Entries below an id.
use Rattle.std.proofs.Common.{◌<◌, nat_lt, ltb-true, lt-ltb, ℕ, List, ◌∷◌}
use Rattle.std.proofs.lemmas.Bool.{and_parts, and_from}
use Rattle.lsp_proxy.specs.Entries.{Entry, are_below, AreBelow}

pub below_head : (n : ℕ) (e : Entry) (es : List Entry) → AreBelow n (e ∷ es) → e.n < n
below_head n e es h = ltb-true e.n n (and_parts (nat_lt e.n n) (are_below n es) h).0

pub below_tail : (n : ℕ) (e : Entry) (es : List Entry) → AreBelow n (e ∷ es) → AreBelow n es
below_tail n e es h = (and_parts (nat_lt e.n n) (are_below n es) h).1

pub below_cons : (n : ℕ) (e : Entry) (es : List Entry) → e.n < n → AreBelow n es → AreBelow n (e ∷ es)
below_cons n e es less h = and_from (nat_lt e.n n) (are_below n es) (lt-ltb e.n n less) h
