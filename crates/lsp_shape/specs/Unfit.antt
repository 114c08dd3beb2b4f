-- Why a value does not fit, as it is told.
use Rattle.std.specs.Prelude.{List, map, string_bytes}
use Rattle.lsp_shape.specs.Why.{Downward, to_member, to_item}
use Rattle.lsp_shape.specs.declared.unfit.Step.{Step}
use Rattle.lsp_shape.specs.declared.unfit.Step.TheVariants.{Member, Item}
use Rattle.lsp_shape.specs.declared.unfit.Unfit.{Unfit}

abbrev pub step_shown : Step → Downward
step_shown (Member name) = to_member (string_bytes name)
step_shown (Item n) = to_item n

-- the path that is told
abbrev pub path_shown : Unfit → List Downward
path_shown unfit = map step_shown unfit.path.items
