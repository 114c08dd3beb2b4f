-- The row of a command.
use Rattle.lsp_shape.specs.Row.{Row, any, fields, list, omitted, required, string, ◌&◌}
use Rattle.lsp_base.specs.declared.command.Command.{Command}

unfoldable pub command_row : Row Command
command_row = fields (
    required "title" string (λ x. x.title) &
    required "command" string (λ x. x.command) &
    omitted "arguments" (list any) (λ x. x.arguments))
