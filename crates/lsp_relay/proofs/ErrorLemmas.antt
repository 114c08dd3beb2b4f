-- Which errors of a sink come without a failure.
use Rattle.std.proofs.Common.{◌≡◌, refl}
use Rattle.lsp_server.specs.declared.step.ServeError.{ServeError}
use Rattle.lsp_server.specs.declared.step.ServeError.TheVariants.{WriteFault, NoMemory}
use Rattle.lsp_server.specs.Errors.{ComesOfSink}

pub no_memory_alone : (e : ServeError) (rose : Type 0) → ComesOfSink e → (e ≡ WriteFault → rose) → (rose → ⊥) → e ≡ NoMemory
no_memory_alone WriteFault rose of cause unrisen = absurd (unrisen (cause refl))
no_memory_alone NoMemory rose of cause unrisen = refl
no_memory_alone e rose of cause unrisen = absurd of
