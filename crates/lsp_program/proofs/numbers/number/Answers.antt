-- A number without a plus sign.
use Rattle.std.proofs.Common.{◌≡◌, ◌==◌, ℕ, List, [], ◌∷◌, false, nat_eq, codes, refl, rules, ◌∙◌, arith}
use Rattle.std.specs.List.{starts_with}
use Rattle.std.specs.Str.Parse.{without_leading_plus}
use Rattle.lsp_frame.specs.Headers.{length_of}
use Rattle.lsp_frame.proofs.LengthParse.{length_of_parse}
use Rattle.lsp_program.specs.Number.{number_of}
use Rattle.lsp_program.proofs.numbers.number.Goals as goal

no_plus : (argument : List ℕ) → starts_with nat_eq argument (codes "+") ≡ false → without_leading_plus argument ≡ argument
no_plus [] h = refl
no_plus (c ∷ argument) h = let is : (c == 43) ≡ false = grind arith in rw is refl

number_unsigned : (argument : List ℕ) → starts_with nat_eq argument (codes "+") ≡ false → length_of argument ≡ number_of argument
number_unsigned argument h = rw (no_plus argument h) refl

pub returns-else-starts_with : goal.returns-else-starts_with
returns-else-starts_with c =
    c.ok.ensures.value ∙ length_of_parse c.args.argument.now c.parse.result c.parse.ensures.value.0 ∙ number_unsigned c.args.argument.now (search rules)
