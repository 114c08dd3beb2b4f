-- The shapes of the methods' params and results. A method that has no params has no shape of them; a notification has no result, of which nothing is read.
use Rattle.std.specs.Prelude.{Option, Some, None}
use Rattle.lsp_shape.specs.Shape.{Shape, nil}
use Rattle.lsp_base.specs.Document.{text_document_position_params_row}
use Rattle.lsp_base.specs.Edit.{text_edit_row}
use Rattle.lsp_base.specs.Position.{location_row}
use Rattle.lsp_base.specs.WorkspaceEdit.{workspace_edit_row}
use Rattle.lsp_caps_work.specs.Client.{initialized_params_row}
use Rattle.lsp_initialize.specs.Client.{initialize_params_row}
use Rattle.lsp_initialize.specs.Server.{initialize_result_row}
use Rattle.lsp_lang_goto.specs.Calls.{call_hierarchy_incoming_call_row, call_hierarchy_incoming_calls_params_row, call_hierarchy_item_row, call_hierarchy_outgoing_call_row, call_hierarchy_outgoing_calls_params_row, call_hierarchy_prepare_params_row}
use Rattle.lsp_lang_goto.specs.CodeLens.{code_lens_params_row, code_lens_row}
use Rattle.lsp_lang_goto.specs.Goto.{goto_definition_params_row, goto_definition_response_row}
use Rattle.lsp_lang_goto.specs.Hover.{hover_params_row, hover_row}
use Rattle.lsp_lang_goto.specs.Link.{document_link_params_row, document_link_row}
use Rattle.lsp_lang_goto.specs.References.{document_highlight_params_row, document_highlight_row, reference_params_row}
use Rattle.lsp_lang_goto.specs.Symbols.{document_symbol_params_row, document_symbol_response_row, symbol_information_row, workspace_symbol_params_row, workspace_symbol_row}
use Rattle.lsp_lang_goto.specs.Types.{type_hierarchy_item_row, type_hierarchy_prepare_params_row, type_hierarchy_subtypes_params_row, type_hierarchy_supertypes_params_row}
use Rattle.lsp_lang_item.specs.CodeAction.{code_action_or_command_row, code_action_params_row, code_action_row}
use Rattle.lsp_lang_item.specs.Completion.{completion_item_row, completion_params_row, completion_response_row}
use Rattle.lsp_lang_item.specs.InlayHint.{inlay_hint_params_row, inlay_hint_row}
use Rattle.lsp_lang_item.specs.InlineValue.{inline_value_params_row, inline_value_row}
use Rattle.lsp_lang_item.specs.Rename.{prepare_rename_response_row, rename_params_row}
use Rattle.lsp_report.specs.Document.{document_diagnostic_params_row, document_diagnostic_report_result_row}
use Rattle.lsp_report.specs.Workspace.{workspace_diagnostic_params_row, workspace_diagnostic_report_result_row}
use Rattle.lsp_shape.specs.Row.{any, list, maybe, row_of}
use Rattle.lsp_tokens.specs.Folding.{folding_range_params_row, folding_range_row}
use Rattle.lsp_tokens.specs.Formatting.{document_formatting_params_row, document_on_type_formatting_params_row, document_range_formatting_params_row}
use Rattle.lsp_tokens.specs.Moniker.{moniker_params_row, moniker_row}
use Rattle.lsp_tokens.specs.Results.{semantic_tokens_delta_params_row, semantic_tokens_full_delta_result_row, semantic_tokens_params_row, semantic_tokens_range_params_row, semantic_tokens_range_result_row, semantic_tokens_result_row}
use Rattle.lsp_tokens.specs.Selection.{linked_editing_range_params_row, linked_editing_ranges_row, selection_range_params_row}
use Rattle.lsp_tokens.specs.SelectionRange.{selection_range_shape, show_selection_range}
use Rattle.lsp_tokens.specs.SignatureHelp.{signature_help_params_row, signature_help_row}
use Rattle.lsp_work.specs.Document.{did_change_text_document_params_row, did_close_text_document_params_row, did_open_text_document_params_row, did_save_text_document_params_row, will_save_text_document_params_row}
use Rattle.lsp_work.specs.Files.{create_files_params_row, delete_files_params_row, rename_files_params_row}
use Rattle.lsp_work.specs.Workspace.{did_change_configuration_params_row, did_change_watched_files_params_row, did_change_workspace_folders_params_row, execute_command_params_row}
use Rattle.lsp_methods.specs.declared.method.LifeMethod.{LifeMethod}
use Rattle.lsp_methods.specs.declared.method.LifeMethod.TheVariants as life
use Rattle.lsp_methods.specs.declared.method.SyncMethod.{SyncMethod}
use Rattle.lsp_methods.specs.declared.method.SyncMethod.TheVariants as sync
use Rattle.lsp_methods.specs.declared.method.GotoMethod.{GotoMethod}
use Rattle.lsp_methods.specs.declared.method.GotoMethod.TheVariants as goto
use Rattle.lsp_methods.specs.declared.method.HierarchyMethod.{HierarchyMethod}
use Rattle.lsp_methods.specs.declared.method.HierarchyMethod.TheVariants as hierarchy
use Rattle.lsp_methods.specs.declared.method.ShowMethod.{ShowMethod}
use Rattle.lsp_methods.specs.declared.method.ShowMethod.TheVariants as show
use Rattle.lsp_methods.specs.declared.method.TokenMethod.{TokenMethod}
use Rattle.lsp_methods.specs.declared.method.TokenMethod.TheVariants as token
use Rattle.lsp_methods.specs.declared.method.EditMethod.{EditMethod}
use Rattle.lsp_methods.specs.declared.method.EditMethod.TheVariants as edit
use Rattle.lsp_methods.specs.declared.method.WorkMethod.{WorkMethod}
use Rattle.lsp_methods.specs.declared.method.WorkMethod.TheVariants as work
use Rattle.lsp_methods.specs.declared.method.Method.{Method}
use Rattle.lsp_methods.specs.declared.method.Method.TheVariants as methods

-- the life of a session
abbrev pub life_params : LifeMethod → Option Shape
life_params life.Initialize = Some initialize_params_row.shape
life_params life.Initialized = Some initialized_params_row.shape
life_params life.Shutdown = None

abbrev pub life_result : LifeMethod → Shape
life_result life.Initialize = initialize_result_row.shape
life_result life.Initialized = nil
life_result life.Shutdown = nil

-- the synchronization of documents
abbrev pub sync_params : SyncMethod → Option Shape
sync_params sync.DidOpen = Some did_open_text_document_params_row.shape
sync_params sync.DidChange = Some did_change_text_document_params_row.shape
sync_params sync.WillSave = Some will_save_text_document_params_row.shape
sync_params sync.WillSaveWaitUntil = Some will_save_text_document_params_row.shape
sync_params sync.DidSave = Some did_save_text_document_params_row.shape
sync_params sync.DidClose = Some did_close_text_document_params_row.shape

abbrev pub sync_result : SyncMethod → Shape
sync_result sync.DidOpen = nil
sync_result sync.DidChange = nil
sync_result sync.WillSave = nil
sync_result sync.WillSaveWaitUntil = (maybe (list text_edit_row)).shape
sync_result sync.DidSave = nil
sync_result sync.DidClose = nil

-- places to go to
abbrev pub goto_params : GotoMethod → Option Shape
goto_params goto.GotoDeclaration = Some goto_definition_params_row.shape
goto_params goto.GotoDefinition = Some goto_definition_params_row.shape
goto_params goto.GotoTypeDefinition = Some goto_definition_params_row.shape
goto_params goto.GotoImplementation = Some goto_definition_params_row.shape
goto_params goto.References = Some reference_params_row.shape
goto_params goto.DocumentHighlight = Some document_highlight_params_row.shape

abbrev pub goto_result : GotoMethod → Shape
goto_result goto.GotoDeclaration = (maybe goto_definition_response_row).shape
goto_result goto.GotoDefinition = (maybe goto_definition_response_row).shape
goto_result goto.GotoTypeDefinition = (maybe goto_definition_response_row).shape
goto_result goto.GotoImplementation = (maybe goto_definition_response_row).shape
goto_result goto.References = (maybe (list location_row)).shape
goto_result goto.DocumentHighlight = (maybe (list document_highlight_row)).shape

-- hierarchies of calls and types
abbrev pub hierarchy_params : HierarchyMethod → Option Shape
hierarchy_params hierarchy.PrepareCallHierarchy = Some call_hierarchy_prepare_params_row.shape
hierarchy_params hierarchy.IncomingCalls = Some call_hierarchy_incoming_calls_params_row.shape
hierarchy_params hierarchy.OutgoingCalls = Some call_hierarchy_outgoing_calls_params_row.shape
hierarchy_params hierarchy.PrepareTypeHierarchy = Some type_hierarchy_prepare_params_row.shape
hierarchy_params hierarchy.Supertypes = Some type_hierarchy_supertypes_params_row.shape
hierarchy_params hierarchy.Subtypes = Some type_hierarchy_subtypes_params_row.shape

abbrev pub hierarchy_result : HierarchyMethod → Shape
hierarchy_result hierarchy.PrepareCallHierarchy = (maybe (list call_hierarchy_item_row)).shape
hierarchy_result hierarchy.IncomingCalls = (maybe (list call_hierarchy_incoming_call_row)).shape
hierarchy_result hierarchy.OutgoingCalls = (maybe (list call_hierarchy_outgoing_call_row)).shape
hierarchy_result hierarchy.PrepareTypeHierarchy = (maybe (list type_hierarchy_item_row)).shape
hierarchy_result hierarchy.Supertypes = (maybe (list type_hierarchy_item_row)).shape
hierarchy_result hierarchy.Subtypes = (maybe (list type_hierarchy_item_row)).shape

-- what is shown in a document
abbrev pub show_params : ShowMethod → Option Shape
show_params show.DocumentLink = Some document_link_params_row.shape
show_params show.DocumentLinkResolve = Some document_link_row.shape
show_params show.Hover = Some hover_params_row.shape
show_params show.CodeLens = Some code_lens_params_row.shape
show_params show.CodeLensResolve = Some code_lens_row.shape
show_params show.FoldingRange = Some folding_range_params_row.shape
show_params show.SelectionRange = Some selection_range_params_row.shape
show_params show.DocumentSymbol = Some document_symbol_params_row.shape
show_params show.Moniker = Some moniker_params_row.shape

abbrev pub show_result : ShowMethod → Shape
show_result show.DocumentLink = (maybe (list document_link_row)).shape
show_result show.DocumentLinkResolve = document_link_row.shape
show_result show.Hover = (maybe hover_row).shape
show_result show.CodeLens = (maybe (list code_lens_row)).shape
show_result show.CodeLensResolve = code_lens_row.shape
show_result show.FoldingRange = (maybe (list folding_range_row)).shape
show_result show.SelectionRange = (maybe (list (row_of selection_range_shape show_selection_range))).shape
show_result show.DocumentSymbol = (maybe document_symbol_response_row).shape
show_result show.Moniker = (maybe (list moniker_row)).shape

-- tokens, hints and values in a document
abbrev pub token_params : TokenMethod → Option Shape
token_params token.SemanticTokensFull = Some semantic_tokens_params_row.shape
token_params token.SemanticTokensFullDelta = Some semantic_tokens_delta_params_row.shape
token_params token.SemanticTokensRange = Some semantic_tokens_range_params_row.shape
token_params token.InlineValue = Some inline_value_params_row.shape
token_params token.InlayHint = Some inlay_hint_params_row.shape
token_params token.InlayHintResolve = Some inlay_hint_row.shape

abbrev pub token_result : TokenMethod → Shape
token_result token.SemanticTokensFull = (maybe semantic_tokens_result_row).shape
token_result token.SemanticTokensFullDelta = (maybe semantic_tokens_full_delta_result_row).shape
token_result token.SemanticTokensRange = (maybe semantic_tokens_range_result_row).shape
token_result token.InlineValue = (maybe (list inline_value_row)).shape
token_result token.InlayHint = (maybe (list inlay_hint_row)).shape
token_result token.InlayHintResolve = inlay_hint_row.shape

-- completion, edits and diagnostics
abbrev pub edit_params : EditMethod → Option Shape
edit_params edit.Completion = Some completion_params_row.shape
edit_params edit.CompletionResolve = Some completion_item_row.shape
edit_params edit.SignatureHelp = Some signature_help_params_row.shape
edit_params edit.CodeAction = Some code_action_params_row.shape
edit_params edit.CodeActionResolve = Some code_action_row.shape
edit_params edit.Formatting = Some document_formatting_params_row.shape
edit_params edit.RangeFormatting = Some document_range_formatting_params_row.shape
edit_params edit.OnTypeFormatting = Some document_on_type_formatting_params_row.shape
edit_params edit.Rename = Some rename_params_row.shape
edit_params edit.PrepareRename = Some text_document_position_params_row.shape
edit_params edit.LinkedEditingRange = Some linked_editing_range_params_row.shape
edit_params edit.Diagnostic = Some document_diagnostic_params_row.shape

abbrev pub edit_result : EditMethod → Shape
edit_result edit.Completion = (maybe completion_response_row).shape
edit_result edit.CompletionResolve = completion_item_row.shape
edit_result edit.SignatureHelp = (maybe signature_help_row).shape
edit_result edit.CodeAction = (maybe (list code_action_or_command_row)).shape
edit_result edit.CodeActionResolve = code_action_row.shape
edit_result edit.Formatting = (maybe (list text_edit_row)).shape
edit_result edit.RangeFormatting = (maybe (list text_edit_row)).shape
edit_result edit.OnTypeFormatting = (maybe (list text_edit_row)).shape
edit_result edit.Rename = (maybe workspace_edit_row).shape
edit_result edit.PrepareRename = (maybe prepare_rename_response_row).shape
edit_result edit.LinkedEditingRange = (maybe linked_editing_ranges_row).shape
edit_result edit.Diagnostic = document_diagnostic_report_result_row.shape

-- the workspace
abbrev pub work_params : WorkMethod → Option Shape
work_params work.WorkspaceDiagnostic = Some workspace_diagnostic_params_row.shape
work_params work.Symbol = Some workspace_symbol_params_row.shape
work_params work.SymbolResolve = Some workspace_symbol_row.shape
work_params work.DidChangeConfiguration = Some did_change_configuration_params_row.shape
work_params work.DidChangeWorkspaceFolders = Some did_change_workspace_folders_params_row.shape
work_params work.WillCreateFiles = Some create_files_params_row.shape
work_params work.DidCreateFiles = Some create_files_params_row.shape
work_params work.WillRenameFiles = Some rename_files_params_row.shape
work_params work.DidRenameFiles = Some rename_files_params_row.shape
work_params work.WillDeleteFiles = Some delete_files_params_row.shape
work_params work.DidDeleteFiles = Some delete_files_params_row.shape
work_params work.DidChangeWatchedFiles = Some did_change_watched_files_params_row.shape
work_params work.ExecuteCommand = Some execute_command_params_row.shape

abbrev pub work_result : WorkMethod → Shape
work_result work.WorkspaceDiagnostic = workspace_diagnostic_report_result_row.shape
work_result work.Symbol = (maybe (list symbol_information_row)).shape
work_result work.SymbolResolve = workspace_symbol_row.shape
work_result work.DidChangeConfiguration = nil
work_result work.DidChangeWorkspaceFolders = nil
work_result work.WillCreateFiles = (maybe workspace_edit_row).shape
work_result work.DidCreateFiles = nil
work_result work.WillRenameFiles = (maybe workspace_edit_row).shape
work_result work.DidRenameFiles = nil
work_result work.WillDeleteFiles = (maybe workspace_edit_row).shape
work_result work.DidDeleteFiles = nil
work_result work.DidChangeWatchedFiles = nil
work_result work.ExecuteCommand = (maybe any).shape

abbrev pub params_shape : Method → Option Shape
params_shape (methods.Life m) = life_params m
params_shape (methods.Sync m) = sync_params m
params_shape (methods.Goto m) = goto_params m
params_shape (methods.Hierarchy m) = hierarchy_params m
params_shape (methods.Show m) = show_params m
params_shape (methods.Token m) = token_params m
params_shape (methods.Edit m) = edit_params m
params_shape (methods.Work m) = work_params m

abbrev pub result_shape : Method → Shape
result_shape (methods.Life m) = life_result m
result_shape (methods.Sync m) = sync_result m
result_shape (methods.Goto m) = goto_result m
result_shape (methods.Hierarchy m) = hierarchy_result m
result_shape (methods.Show m) = show_result m
result_shape (methods.Token m) = token_result m
result_shape (methods.Edit m) = edit_result m
result_shape (methods.Work m) = work_result m
