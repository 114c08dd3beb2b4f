-- A desk of the tests that others use too, and that has few turns.
use Rattle.std.specs.Prelude.{◌≡◌, [], Bool, true, false, Some, None, MatchBool}
use mathlib.Core.Path.{subst}
use Rattle.lsp_desk.specs.Meaning.{Meaning, IsLawfulDesk, IsOpening}
use Rattle.lsp_desk.specs.Plain.{plain_state, told_none}
use Rattle.lsp_desk.specs.declared.plain.PlainDesk.{PlainDesk}

-- of a desk that is kept in another, and whether that one is spent
abbrev pub spending_meaning : {S : Type 0} → (S → PlainDesk) → (S → Bool) → Meaning S
spending_meaning desk is_spent = record {
  now = λ s. plain_state (desk s);
  alone = λ _. false;
  history = λ _. None;
  own = λ _. [];
  spent = is_spent;
  kin = λ _. [];
  chief = λ _. true;
}

-- nothing was done on it
abbrev pub OpensAt : {S : Type 0} → S → (S → PlainDesk) → (S → Bool) → Type 0
OpensAt s desk is_spent = IsOpening (spending_meaning desk is_spent) s

-- it isn't alone
abbrev pub never_alone : {P : Type 0} → false ≡ true → P
never_alone {P} same = subst (λ b. MatchBool b P (Unit {0})) same tt

abbrev pub spending_laws : {S : Type 0} (desk : S → PlainDesk) (is_spent : S → Bool) → IsLawfulDesk (spending_meaning desk is_spent)
spending_laws desk is_spent = record {
  alone_unspent = λ _ alone. never_alone alone;
  now_told = λ _ _ none. told_none none;
  own_inside = λ _ _ none. told_none none;
  own_once = λ _ _ none. told_none none;
}
