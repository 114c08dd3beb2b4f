-- A server of which nothing is told but the laws: for tests.
use Rattle.std.specs.Prelude.{◌≡◌, refl, ⊤, true, false, ℕ, List, Option}
use Rattle.lsp_rpc.specs.Message.{body_has_float}
use Rattle.lsp_rpc.specs.Shown.{show_body}
use Rattle.lsp_desk.specs.Trace.{DeskEntry}
use Rattle.lsp_session.specs.declared.handlers.Progress as code
use Rattle.lsp_session.specs.declared.handlers.Progress.TheVariants as variants
use Rattle.lsp_session.specs.declared.table.Entry.{Entry}
use Rattle.lsp_session.specs.Semantics.{Semantics, IsLawfulHandlers, AreClient, Phase, Fresh, Held, Progress, Pending, Done, Polls, call}

-- what ends holds no float
abbrev pub EndsClean : Progress ⊤ → Type 0
EndsClean (Pending t) = ⊤
EndsClean (Done outcome) = body_has_float outcome ≡ false

pub record Behaves {H : Type 0} (find : H → List ℕ → Option Entry) (s : H) (asked : List DeskEntry) (s2 : H) (progress : Progress ⊤) : Type 0 where
  pub table : (name : List ℕ) → find s2 name ≡ find s name
  pub asks : AreClient asked
  pub ends : EndsClean progress

abbrev pub trial : {H C T : Type 0} → (H → List ℕ → Option Entry) → Semantics H C T
trial find = record {
  Call = ⊤;
  show_call = λ _. tt;
  Task = ⊤;
  show_task = λ _. tt;
  call_of = λ _. tt;
  find = find;
  reads = λ entry params. call tt;
  is_sound = λ _. true;
  begins = λ s c asked s2 progress. Behaves find s asked s2 progress;
  resumes = λ s t asked s2 progress. Behaves find s asked s2 progress;
  answers = λ c outcome. ⊤;
}

-- a poll, the first or a later one, behaves
behaves : {H : Type 0} (C T : Type 0) (find : H → List ℕ → Option Entry) (s : H) (phase : Phase ⊤ ⊤) (asked : List DeskEntry) (s2 : H) (progress : Progress ⊤) → Polls (trial {C = C} {T = T} find) s phase asked s2 progress → Behaves find s asked s2 progress
behaves C T find s (Fresh c) asked s2 progress p = p
behaves C T find s (Held t) asked s2 progress p = p

pub trial_lawful : {H C T : Type 0} (find : H → List ℕ → Option Entry) → IsLawfulHandlers (trial {C = C} {T = T} find)
trial_lawful {H} {C} {T} find = record {
  reads_sound = λ entry params c clean is. refl;
  keeps_table = λ s phase asked s2 progress p name. (behaves C T find s phase asked s2 progress p).table name;
  asks_client = λ s phase asked s2 progress p. (behaves C T find s phase asked s2 progress p).asks;
  keeps_call = λ s phase asked s2 t p. refl;
  keeps_answers = λ s phase asked s2 outcome p. tt;
  keeps_float_free = λ s phase asked s2 outcome sound p. (behaves C T find s phase asked s2 (Done outcome) p).ends;
}

-- the same of the code's progress
abbrev pub EndsWithout : {T : Type 0} → code.Progress T → Type 0
EndsWithout (variants.Pending t) = ⊤
EndsWithout (variants.Done body) = body_has_float (show_body body) ≡ false
