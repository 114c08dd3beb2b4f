-- A desk that has few turns keeps what a desk promises.
use Rattle.std.proofs.Common.{◌≡◌, ◌^◌, ◌-◌, ap, [], refl, true}
use Rattle.std.specs.Prelude.{Bool, Result, Ok, Err, IsErrAnd}
use Rattle.lsp_desk.specs.declared.call.DeskFault.{DeskFault}
use Rattle.lsp_desk.specs.declared.call.DeskFault.TheVariants as faults
use Rattle.lsp_desk.specs.Call.{Call}
use Rattle.lsp_desk.specs.Reply.{Reply}
use Rattle.lsp_desk.specs.Meaning.{Calls}
use Rattle.lsp_desk.specs.Plain.{plain_state, told_none}
use Rattle.lsp_desk.specs.declared.plain.PlainDesk.{PlainDesk}
use Rattle.tests_session.specs.Spending.{spending_meaning}

-- one that has none makes no entry
pub unturned : {R S : Type 0} (desk : S → PlainDesk) (is_spent : S → Bool) (show : R → Reply) (old new : S) (c : Call) (result : Result R DeskFault) (fault : DeskFault) → IsErrAnd result (λ f. f ≡ fault) → fault ≡ faults.Spent (2 ^ 64 - 1)
    → desk new ≡ desk old → is_spent new ≡ true → Calls (spending_meaning desk is_spent) show old c result new
unturned desk is_spent show old new c (Ok reply) fault gives is same spent = absurd gives
unturned desk is_spent show old new c (Err f) fault gives is same spent = record {
  trace = [];
  grows = record {
    replays = ap plain_state same;
    history = refl;
    own = λ h none. told_none none;
    others = λ _. tt;
    all_own = λ _. tt;
    alone = refl;
    kin = refl;
    chief = refl;
    spent = λ _. spent;
  };
  adds = rw (gives, is) refl;
  own_last = ([], refl);
}
