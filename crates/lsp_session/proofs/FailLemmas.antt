-- What a failing call leaves of the life.
use Rattle.std.proofs.Common.{◌≡◌, ◌^◌, ◌-◌, ℕ, refl, List, [], true, sym, ◌∙◌, ap, subst}
use Rattle.std.specs.Prelude.{Result, Err}
use Rattle.lsp_desk.specs.declared.life.Life.{Life}
use Rattle.lsp_desk.specs.declared.call.DeskFault.{DeskFault}
use Rattle.lsp_desk.specs.declared.call.DeskFault.TheVariants as faults
use Rattle.lsp_desk.specs.Call.{Call, is_client}
use Rattle.lsp_desk.specs.Reply.{Reply}
use Rattle.lsp_desk.specs.Trace.{DeskEntry, owns}
use Rattle.lsp_desk.specs.Meaning.{Meaning, Calls, Adds, Spends, FailsOn}
use Rattle.lsp_desk.proofs.TraceLemmas.{life_is, life_along, grows_none}
use Rattle.lsp_session.specs.Semantics.{AreClient}
use Rattle.lsp_session.specs.Fails.{PollFails, KeepsLife, FailsKept}
use Rattle.lsp_session.proofs.PollLemmas.{client_along}

-- ---- a call that failed

none_along : {R : Type 0} (show : R → Reply) (call : Call) (fault : DeskFault) (own : List DeskEntry) (life : Life) → Adds show call (Err fault) own → life_along life own ≡ life
none_along show _ faults.NoMemory own life is = ap (life_along life) is
none_along show _ (faults.Spent n) own life is = ap (life_along life) is

pub failed_life : {D R : Type 0} (m : Meaning D) (show : R → Reply) (old new : D) (call : Call) (fault : DeskFault) → m.chief old ≡ true → Calls m show old call (Err fault) new → KeepsLife m old new
failed_life m show old new call fault chief p = life_is (m.now old) (m.now new) p.trace p.grows.replays (p.grows.others chief) ∙ none_along show call fault (owns p.trace) (m.now old).life p.adds

-- what a call says of a fault that its desk is spent
abbrev pub SaysSpent : {D A : Type 0} → Meaning D → D → Result A DeskFault → Type 0
SaysSpent m new r = (n : ℕ) → r ≡ Err (faults.Spent n) → (n ≡ 2 ^ 64 - 1) × (m.spent new ≡ true)

spends_of : {D A : Type 0} (m : Meaning D) (new : D) (fault : DeskFault) → SaysSpent {A = A} m new (Err fault) → Spends m new fault
spends_of m new faults.NoMemory says = tt
spends_of m new (faults.Spent n) says = says n refl

pub call_failed : {D R : Type 0} (m : Meaning D) (show : R → Reply) (old new : D) (call : Call) (fault : DeskFault) → m.chief old ≡ true → Calls m show old call (Err fault) new → SaysSpent {A = R} m new (Err fault)
    → FailsKept m old new fault
call_failed {R = R} m show old new call fault chief p says = record {
  failed = record { trace = p.trace; grows = p.grows; spends = spends_of {A = R} m new fault says };
  kept = failed_life m show old new call fault chief p;
}

-- ---- a poll that failed

asks_of : {R : Type 0} (show : R → Reply) (call : Call) (fault : DeskFault) (own : List DeskEntry) → is_client call ≡ true → Adds show call (Err fault) own → AreClient own
asks_of show _ faults.NoMemory own is one = subst AreClient (sym one) (is, tt)
asks_of show _ (faults.Spent n) own is none = subst AreClient (sym none) tt

-- the poll's only call failed
pub call_fails : {D R : Type 0} (m : Meaning D) (show : R → Reply) (old new : D) (call : Call) (fault : DeskFault) → is_client call ≡ true → Calls m show old call (Err fault) new → Spends m new fault → PollFails m old new fault
call_fails m show old new call fault is p spends = record { trace = p.trace; grows = p.grows; asks = asks_of show call fault (owns p.trace) is p.adds; spends = spends }

-- out of memory, and no call on the desk
pub poll_fails_still : {D : Type 0} (m : Meaning D) (d : D) → PollFails m d d faults.NoMemory
poll_fails_still m d = record { trace = []; grows = grows_none m d; asks = tt; spends = tt }

pub poll_fails : {D : Type 0} (m : Meaning D) (old new : D) (fault : DeskFault) → PollFails m old new fault → FailsOn m old new fault
poll_fails m old new fault p = record { trace = p.trace; grows = p.grows; spends = p.spends }

pub poll_life : {D : Type 0} (m : Meaning D) (old new : D) (fault : DeskFault) → m.chief old ≡ true → PollFails m old new fault → KeepsLife m old new
poll_life m old new fault chief p = life_is (m.now old) (m.now new) p.trace p.grows.replays (p.grows.others chief) ∙ client_along (m.now old).life (owns p.trace) p.asks

pub poll_failed : {D : Type 0} (m : Meaning D) (old new : D) (fault : DeskFault) → m.chief old ≡ true → PollFails m old new fault → FailsKept m old new fault
poll_failed m old new fault chief p = record { failed = poll_fails m old new fault p; kept = poll_life m old new fault chief p }
