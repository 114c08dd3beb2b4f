-- Rows: commands.
use Rattle.lsp_shape.specs.Row.{Row, fields, flat, list, required, string, ◌&◌}
use Rattle.lsp_names.specs.Progress.{work_done_progress_options_row}
use Rattle.lsp_offer_work.specs.declared.command.ExecuteCommandOptions.{ExecuteCommandOptions}
use Rattle.lsp_offer_work.specs.declared.command.ExecuteCommandRegistrationOptions.{ExecuteCommandRegistrationOptions}

unfoldable pub execute_command_options_row : Row ExecuteCommandOptions
execute_command_options_row = fields (
    required "commands" (list string) (λ x. x.commands) &
    flat work_done_progress_options_row (λ x. x.work_done_progress_options))

unfoldable pub execute_command_registration_options_row : Row ExecuteCommandRegistrationOptions
execute_command_registration_options_row = fields (
    required "commands" (list string) (λ x. x.commands) &
    flat work_done_progress_options_row (λ x. x.work_done_progress_options))
