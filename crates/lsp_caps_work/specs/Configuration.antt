-- Rows: configuration, watched files and commands.
use Rattle.lsp_shape.specs.Row.{Row, fields, omitted, truth, ◌&◌}
use Rattle.lsp_caps_work.specs.declared.configuration.DidChangeWatchedFilesClientCapabilities.{DidChangeWatchedFilesClientCapabilities}

unfoldable pub did_change_watched_files_client_capabilities_row : Row DidChangeWatchedFilesClientCapabilities
did_change_watched_files_client_capabilities_row = fields (
    omitted "dynamicRegistration" truth (λ x. x.dynamic_registration) &
    omitted "relativePatternSupport" truth (λ x. x.relative_pattern_support))
