-- A record that is cloned, field by field.
use Rattle.std.specs.Prelude.{Bool}
use Rattle.lsp_shape.specs.declared.copies.Copies.{Copies}

-- each field had the memory for its copy
abbrev pub are_whole : Copies → Bool
are_whole copies = copies.is_whole
