-- The exit status and the error that it tells.
use Rattle.std.proofs.Common.{◌≡◌, ◌≢◌, ◌≤◌, ◌⊎◌, ℕ, true, refl, arith}
use Rattle.lsp_server.specs.declared.step.ServeError.{ServeError}
use Rattle.lsp_server.specs.declared.step.ServeError.TheVariants.{ReadFault, WriteFault, ReadsSpent, NoMemory, DeskSpent}
use Rattle.lsp_server.specs.Errors.{IsBetweenReads, ComesUnfailed}
use Rattle.lsp_program.specs.Status.{status_of}

pub status_of_high : (e : ServeError) → 3 ≤ status_of e
status_of_high ReadFault = omega arith
status_of_high WriteFault = omega arith
status_of_high ReadsSpent = omega arith
status_of_high NoMemory = omega arith
status_of_high (DeskSpent n) = omega arith

pub status_three : (e : ServeError) → status_of e ≡ 3 → e ≡ ReadFault
status_three ReadFault h = refl
status_three WriteFault h = cc
status_three ReadsSpent h = cc
status_three NoMemory h = cc
status_three (DeskSpent n) h = cc

pub status_four : (e : ServeError) → status_of e ≡ 4 → e ≡ WriteFault
status_four ReadFault h = cc
status_four WriteFault h = refl
status_four ReadsSpent h = cc
status_four NoMemory h = cc
status_four (DeskSpent n) h = cc

pub status_five : (e : ServeError) → status_of e ≡ 5 → e ≡ ReadsSpent
status_five ReadFault h = cc
status_five WriteFault h = cc
status_five ReadsSpent h = refl
status_five NoMemory h = cc
status_five (DeskSpent n) h = cc

pub status_between : (e : ServeError) → (status_of e ≡ 3) ⊎ (status_of e ≡ 5) → IsBetweenReads e
status_between ReadFault h = tt
status_between WriteFault h = omega arith
status_between ReadsSpent h = tt
status_between NoMemory h = omega arith
status_between (DeskSpent n) h = omega arith

-- a desk of one's own is never spent
pub status_known : (e : ServeError) → ((n : ℕ) → e ≢ DeskSpent n) → status_of e ≤ 6
status_known ReadFault h = omega arith
status_known WriteFault h = omega arith
status_known ReadsSpent h = omega arith
status_known NoMemory h = omega arith
status_known (DeskSpent n) h = absurd (h n refl)

pub status_unfailed : (e : ServeError) → ComesUnfailed true e → status_of e ≡ 6
status_unfailed ReadFault h = absurd h
status_unfailed WriteFault h = absurd h
status_unfailed ReadsSpent h = absurd h
status_unfailed NoMemory h = refl
status_unfailed (DeskSpent n) h = cc
