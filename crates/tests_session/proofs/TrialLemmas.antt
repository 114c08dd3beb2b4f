-- A poll of the server of the tests, which makes no call on its desk.
use Rattle.std.proofs.Common.{◌≡◌, ℕ, List, [], refl}
use Rattle.std.specs.Prelude.{Option, Result, Ok, Err, IfOk, IfErr}
use Rattle.lsp_desk.specs.declared.call.DeskFault.{DeskFault}
use Rattle.lsp_desk.specs.declared.call.DeskFault.TheVariants as faults
use Rattle.lsp_desk.specs.Meaning.{Meaning, PollsOn}
use Rattle.lsp_desk.proofs.TraceLemmas.{grows_none}
use Rattle.lsp_session.specs.declared.handlers.Progress.{Progress}
use Rattle.lsp_session.specs.declared.handlers.Progress.TheVariants.{Pending, Done}
use Rattle.lsp_session.specs.declared.table.Entry.{Entry}
use Rattle.lsp_session.specs.Fails.{PollFails}
use Rattle.lsp_session.specs.Progress.{show_progress}
use Rattle.tests_session.specs.Trial.{Behaves, trial, EndsWithout}
use Rattle.lsp_session.proofs.FailLemmas.{poll_fails_still}

module _ {H T D : Type 0} (m : Meaning D) (find : H → List ℕ → Option Entry) (s : H) (d : D) where
  pub trial_polls : (r : Result (Progress T) DeskFault) → IfOk r EndsWithout → IfOk r (λ p. PollsOn m d d (λ asked. Behaves find s asked s (show_progress (trial {C = T} {T = T} find) p)))
  trial_polls (Ok (Pending t)) clean = record { trace = []; grows = grows_none m d; holds = record { table = λ name. refl; asks = tt; ends = tt } }
  trial_polls (Ok (Done body)) clean = record { trace = []; grows = grows_none m d; holds = record { table = λ name. refl; asks = tt; ends = clean } }
  trial_polls (Err e) clean = tt

pub trial_fails : {D A : Type 0} (m : Meaning D) (d : D) (r : Result A DeskFault) → IfErr r (λ fault. fault ≡ faults.NoMemory) → IfErr r (λ fault. PollFails m d d fault)
trial_fails m d (Ok x) wants = tt
trial_fails m d (Err faults.NoMemory) wants = poll_fails_still m d
trial_fails m d (Err (faults.Spent n)) wants = absurd (cc)
