-- How far a session has come in its life cycle, and what calls make of that.
use Rattle.std.specs.Prelude.{ℕ, Bool, true, false, ltb, if◌then◌else◌}
use Rattle.lsp_desk.specs.declared.life.Life.{Life}
use Rattle.lsp_desk.specs.declared.life.Life.TheVariants.{Uninitialized, Initializing, Initialized, ShutDown, Exited}

-- lives in their order
abbrev pub rank : Life → ℕ
rank Uninitialized = 0
rank Initializing = 1
rank Initialized = 2
rank ShutDown = 3
rank Exited = 4

-- the later of two lives
abbrev pub later : Life → Life → Life
later life other = if ltb (rank life) (rank other) then other else life

-- an `initialize` that came to nothing leaves the session as before it; no other life falls
abbrev pub fallen : Life → Life
fallen Uninitialized = Uninitialized
fallen Initializing = Uninitialized
fallen Initialized = Initialized
fallen ShutDown = ShutDown
fallen Exited = Exited

abbrev pub is_exited : Life → Bool
is_exited Uninitialized = false
is_exited Initializing = false
is_exited Initialized = false
is_exited ShutDown = false
is_exited Exited = true

-- a gated call passes from the response to `initialize` to `exit`: in Initialized and ShutDown alone
abbrev pub holds_back : Life → Bool
holds_back Uninitialized = true
holds_back Initializing = true
holds_back Initialized = false
holds_back ShutDown = false
holds_back Exited = true
