-- A number among a program's arguments.
use Rattle.std.specs.Prelude.{ℕ, ◌^◌, ◌&&◌, List, length, nat_lt, if◌then◌else◌, Option, Some, None}
use Rattle.std.specs.Str.{all_ascii_digits}
use Rattle.std.specs.Str.Parse.{digits_value}

-- decimal digits alone, at least one, of a number within 64 bits
abbrev pub number_of : List ℕ → Option ℕ
number_of argument =
    if (nat_lt 0 (length argument) && all_ascii_digits argument) && nat_lt (digits_value 10 argument) (2 ^ 64)
    then Some (digits_value 10 argument) else None
