-- Tests of a phase.
use Rattle.std.specs.Prelude.{Bool, true, false}
use Rattle.lsp_shared.specs.declared.view.Phase.{Phase}
use Rattle.lsp_shared.specs.declared.view.Phase.TheVariants.{Idle, Drawn, Holding}

abbrev pub is_idle : Phase → Bool
is_idle Idle = true
is_idle (Drawn t) = false
is_idle (Holding t) = false
