-- The forms of the program's arguments.
use Rattle.std.specs.Prelude.{ℕ, ◌≤◌, List, [], ◌∷◌, nat_lt, if◌then◌else◌, bytes_eq, codes, Option, Some, None, option_and_then, option_map, map, String, string_bytes}
use Rattle.std.specs.declared.alloc.Global.{Global}
use Rattle.lsp_program.specs.Number.{number_of}
use Rattle.lsp_sample_run.specs.declared.arguments.Setting.{Setting}
use Rattle.lsp_sample_run.specs.declared.arguments.MadeUp.{MadeUp}
use Rattle.lsp_sample_run.specs.declared.arguments.Clones.{Clones}
use Rattle.lsp_sample_run.specs.declared.arguments.Form.{Form}
use Rattle.lsp_sample_run.specs.declared.arguments.Form.TheVariants.{Serve, Docs, Pump, Bulk, Talk}

-- a number that is at least 1
abbrev pub from_one : ℕ → Option ℕ
from_one n = if nat_lt 0 n then Some n else None

abbrev pub positive_of : List ℕ → Option ℕ
positive_of argument = option_and_then from_one (number_of argument)

abbrev pub default_setting : Setting
default_setting = record { max = 4; rounds = 8 }

-- `MAX ROUNDS`
abbrev pub max_and_rounds : List ℕ → List ℕ → Option Setting
max_and_rounds max rounds = option_and_then (λ m. option_map (λ r. record { max = m; rounds = r }) (positive_of rounds)) (positive_of max)

-- a number from 1 to 100,000
abbrev pub count_of : List ℕ → Option ℕ
count_of argument = option_and_then (λ n. if nat_lt 100000 n then None else Some n) (positive_of argument)

-- `SEED COUNT`
abbrev pub session_of : List ℕ → List ℕ → Option MadeUp
session_of seed count = option_and_then (λ s. option_map (λ c. record { seed = s; count = c }) (count_of count)) (number_of seed)

-- a number from 1 to 4
abbrev pub clone_count_of : List ℕ → Option ℕ
clone_count_of argument = option_and_then (λ n. if nat_lt 4 n then None else Some n) (positive_of argument)

-- a number up to 1,000
abbrev pub message_count_of : List ℕ → Option ℕ
message_count_of argument = option_and_then (λ n. if nat_lt 1000 n then None else Some n) (number_of argument)

-- `CLONES MESSAGES`
abbrev pub clones_of : List ℕ → List ℕ → Option Clones
clones_of count messages = option_and_then (λ c. option_map (λ m. record { count = c; messages = m }) (message_count_of messages)) (clone_count_of count)

-- none, `serve`, `serve MAX ROUNDS`, `docs`, `pump MAX ROUNDS`, `bulk SEED COUNT`, or `talk CLONES MESSAGES`
abbrev pub form_of : List (List ℕ) → Option Form
form_of [] = Some (Serve default_setting)
form_of (argument ∷ []) =
    if bytes_eq argument (codes "serve") then Some (Serve default_setting)
    else (if bytes_eq argument (codes "docs") then Some Docs else None)
form_of (argument ∷ first ∷ []) = None
form_of (argument ∷ first ∷ second ∷ []) =
    if bytes_eq argument (codes "serve") then option_map Serve (max_and_rounds first second)
    else (if bytes_eq argument (codes "pump") then option_map Pump (max_and_rounds first second)
    else (if bytes_eq argument (codes "bulk") then option_map Bulk (session_of first second)
    else (if bytes_eq argument (codes "talk") then option_map Talk (clones_of first second) else None)))
form_of (argument ∷ first ∷ second ∷ more ∷ arguments) = None

-- what the arguments ask for
abbrev pub form_asked : List (String Global) → Option Form
form_asked arguments = form_of (map string_bytes arguments)

-- the numbers are within their bounds
abbrev pub IsForm : Form → Type 0
IsForm (Serve setting) = (1 ≤ setting.max) × (1 ≤ setting.rounds)
IsForm Docs = Unit {0}
IsForm (Pump setting) = (1 ≤ setting.max) × (1 ≤ setting.rounds)
IsForm (Bulk session) = session.count ≤ 100000
IsForm (Talk clones) = (clones.count ≤ 4) × (clones.messages ≤ 1000)
