-- Lines that are counted.
use Rattle.std.specs.Prelude.{◌-◌, ◌^◌, ℕ, List, min, nat_eq, count_by}

-- how many lines end in these bytes
abbrev pub lines_in : List ℕ → ℕ
lines_in bytes = count_by (λ b. nat_eq b 10) bytes

-- a count of 64 bits, which stays at its last value
abbrev pub counted : ℕ → ℕ
counted n = min n (2 ^ 64 - 1)
