-- Rows: files that are watched.
use Rattle.lsp_shape.specs.Plain.{Plain, choice}
use Rattle.lsp_shape.specs.Row.{Row, fields, list, omitted, required, string, union, variant, ◌&◌, ◌or◌}
use Rattle.lsp_uri.specs.Uri.{uri_row}
use Rattle.lsp_base.specs.Document.{workspace_folder_row}
use Rattle.lsp_base.specs.Edit.{one_of_row}
use Rattle.lsp_offer_work.specs.WatchKind.{watch_kind_row}
use Rattle.lsp_offer_work.specs.declared.watch.DidChangeWatchedFilesRegistrationOptions.{DidChangeWatchedFilesRegistrationOptions}
use Rattle.lsp_offer_work.specs.declared.watch.FileSystemWatcher.{FileSystemWatcher}
use Rattle.lsp_offer_work.specs.declared.watch.GlobPattern.{GlobPattern}
use Rattle.lsp_offer_work.specs.declared.watch.GlobPattern.TheVariants as glob_pattern
use Rattle.lsp_offer_work.specs.declared.watch.RelativePattern.{RelativePattern}

unfoldable pub relative_pattern_row : Row RelativePattern
relative_pattern_row = fields (
    required "baseUri" (one_of_row workspace_folder_row uri_row) (λ x. x.base_uri) &
    required "pattern" string (λ x. x.pattern))

abbrev pub show_glob_pattern : GlobPattern → Plain
show_glob_pattern (glob_pattern.String x) = choice 0 (string.shown x)
show_glob_pattern (glob_pattern.Relative x) = choice 1 (relative_pattern_row.shown x)

unfoldable pub glob_pattern_row : Row GlobPattern
glob_pattern_row = union (variant string or variant relative_pattern_row) show_glob_pattern

unfoldable pub file_system_watcher_row : Row FileSystemWatcher
file_system_watcher_row = fields (
    required "globPattern" glob_pattern_row (λ x. x.glob_pattern) &
    omitted "kind" watch_kind_row (λ x. x.kind))

unfoldable pub did_change_watched_files_registration_options_row : Row DidChangeWatchedFilesRegistrationOptions
did_change_watched_files_registration_options_row = fields (
    required "watchers" (list file_system_watcher_row) (λ x. x.watchers))
