-- What the code's calls show.
use Rattle.std.specs.Prelude.{Option, Some, None, option_map}
use Rattle.lsp_shape.specs.Plain.{Plain}
use Rattle.serde_json.specs.View.{view}
use Rattle.lsp_service.specs.Data.{MethodCall, typed, custom, read_plain}
use Rattle.lsp_service.specs.declared.call.Call.{Call}
use Rattle.lsp_service.specs.declared.call.Call.TheVariants as calls
use Rattle.lsp_service.specs.declared.call.Target.{Target}
use Rattle.lsp_service.specs.declared.call.Target.TheVariants as targets
use Rattle.lsp_session.specs.declared.table.Kind.{Kind}
use Rattle.lsp_methods.specs.declared.method.Method.{Method}
use Rattle.lsp_methods.specs.declared.method.Method.TheVariants as methods
use Rattle.lsp_base.specs.Document.{text_document_position_params_row}
use Rattle.lsp_caps_work.specs.Client.{initialized_params_row}
use Rattle.lsp_initialize.specs.Client.{initialize_params_row}
use Rattle.lsp_lang_goto.specs.Calls.{call_hierarchy_incoming_calls_params_row, call_hierarchy_outgoing_calls_params_row, call_hierarchy_prepare_params_row}
use Rattle.lsp_lang_goto.specs.CodeLens.{code_lens_params_row, code_lens_row}
use Rattle.lsp_lang_goto.specs.Goto.{goto_definition_params_row}
use Rattle.lsp_lang_goto.specs.Hover.{hover_params_row}
use Rattle.lsp_lang_goto.specs.Link.{document_link_params_row, document_link_row}
use Rattle.lsp_lang_goto.specs.References.{document_highlight_params_row, reference_params_row}
use Rattle.lsp_lang_goto.specs.Symbols.{document_symbol_params_row, workspace_symbol_params_row, workspace_symbol_row}
use Rattle.lsp_lang_goto.specs.Types.{type_hierarchy_prepare_params_row, type_hierarchy_subtypes_params_row, type_hierarchy_supertypes_params_row}
use Rattle.lsp_lang_item.specs.CodeAction.{code_action_params_row, code_action_row}
use Rattle.lsp_lang_item.specs.Completion.{completion_item_row, completion_params_row}
use Rattle.lsp_lang_item.specs.InlayHint.{inlay_hint_params_row, inlay_hint_row}
use Rattle.lsp_lang_item.specs.InlineValue.{inline_value_params_row}
use Rattle.lsp_lang_item.specs.Rename.{rename_params_row}
use Rattle.lsp_report.specs.Document.{document_diagnostic_params_row}
use Rattle.lsp_report.specs.Workspace.{workspace_diagnostic_params_row}
use Rattle.lsp_tokens.specs.Folding.{folding_range_params_row}
use Rattle.lsp_tokens.specs.Formatting.{document_formatting_params_row, document_on_type_formatting_params_row, document_range_formatting_params_row}
use Rattle.lsp_tokens.specs.Moniker.{moniker_params_row}
use Rattle.lsp_tokens.specs.Results.{semantic_tokens_delta_params_row, semantic_tokens_params_row, semantic_tokens_range_params_row}
use Rattle.lsp_tokens.specs.Selection.{linked_editing_range_params_row, selection_range_params_row}
use Rattle.lsp_tokens.specs.SignatureHelp.{signature_help_params_row}
use Rattle.lsp_work.specs.Document.{did_change_text_document_params_row, did_close_text_document_params_row, did_open_text_document_params_row, did_save_text_document_params_row, will_save_text_document_params_row}
use Rattle.lsp_work.specs.Files.{create_files_params_row, delete_files_params_row, rename_files_params_row}
use Rattle.lsp_work.specs.Workspace.{did_change_configuration_params_row, did_change_watched_files_params_row, did_change_workspace_folders_params_row, execute_command_params_row}
use Rattle.lsp_service.specs.declared.initialize.InitializeCall.{InitializeCall}
use Rattle.lsp_service.specs.declared.call.LifeCall.{LifeCall}
use Rattle.lsp_service.specs.declared.call.LifeCall.TheVariants as life_calls
use Rattle.lsp_methods.specs.declared.method.LifeMethod.{LifeMethod}
use Rattle.lsp_methods.specs.declared.method.LifeMethod.TheVariants as life
use Rattle.lsp_service.specs.declared.call.SyncCall.{SyncCall}
use Rattle.lsp_service.specs.declared.call.SyncCall.TheVariants as sync_calls
use Rattle.lsp_methods.specs.declared.method.SyncMethod.{SyncMethod}
use Rattle.lsp_methods.specs.declared.method.SyncMethod.TheVariants as sync
use Rattle.lsp_service.specs.declared.call.GotoCall.{GotoCall}
use Rattle.lsp_service.specs.declared.call.GotoCall.TheVariants as goto_calls
use Rattle.lsp_methods.specs.declared.method.GotoMethod.{GotoMethod}
use Rattle.lsp_methods.specs.declared.method.GotoMethod.TheVariants as goto
use Rattle.lsp_service.specs.declared.call.HierarchyCall.{HierarchyCall}
use Rattle.lsp_service.specs.declared.call.HierarchyCall.TheVariants as hierarchy_calls
use Rattle.lsp_methods.specs.declared.method.HierarchyMethod.{HierarchyMethod}
use Rattle.lsp_methods.specs.declared.method.HierarchyMethod.TheVariants as hierarchy
use Rattle.lsp_service.specs.declared.call.ShowCall.{ShowCall}
use Rattle.lsp_service.specs.declared.call.ShowCall.TheVariants as show_calls
use Rattle.lsp_methods.specs.declared.method.ShowMethod.{ShowMethod}
use Rattle.lsp_methods.specs.declared.method.ShowMethod.TheVariants as show
use Rattle.lsp_service.specs.declared.call.TokenCall.{TokenCall}
use Rattle.lsp_service.specs.declared.call.TokenCall.TheVariants as token_calls
use Rattle.lsp_methods.specs.declared.method.TokenMethod.{TokenMethod}
use Rattle.lsp_methods.specs.declared.method.TokenMethod.TheVariants as token
use Rattle.lsp_service.specs.declared.call.EditCall.{EditCall}
use Rattle.lsp_service.specs.declared.call.EditCall.TheVariants as edit_calls
use Rattle.lsp_methods.specs.declared.method.EditMethod.{EditMethod}
use Rattle.lsp_methods.specs.declared.method.EditMethod.TheVariants as edit
use Rattle.lsp_service.specs.declared.call.WorkCall.{WorkCall}
use Rattle.lsp_service.specs.declared.call.WorkCall.TheVariants as work_calls
use Rattle.lsp_methods.specs.declared.method.WorkMethod.{WorkMethod}
use Rattle.lsp_methods.specs.declared.method.WorkMethod.TheVariants as work

-- what the params of `initialize` are read as
abbrev pub show_initialize : InitializeCall → Plain
show_initialize c = read_plain initialize_params_row.shape (view c.params)

abbrev pub show_life : LifeCall → MethodCall
show_life (life_calls.Initialize c) = typed (methods.Life life.Initialize) (Some (show_initialize c))
show_life (life_calls.Initialized p) = typed (methods.Life life.Initialized) (Some (initialized_params_row.shown p))
show_life life_calls.Shutdown = typed (methods.Life life.Shutdown) None

abbrev pub life_method : LifeCall → LifeMethod
life_method (life_calls.Initialize p) = life.Initialize
life_method (life_calls.Initialized p) = life.Initialized
life_method life_calls.Shutdown = life.Shutdown

abbrev pub show_sync : SyncCall → MethodCall
show_sync (sync_calls.DidOpen p) = typed (methods.Sync sync.DidOpen) (Some (did_open_text_document_params_row.shown p.value))
show_sync (sync_calls.DidChange p) = typed (methods.Sync sync.DidChange) (Some (did_change_text_document_params_row.shown p.value))
show_sync (sync_calls.WillSave p) = typed (methods.Sync sync.WillSave) (Some (will_save_text_document_params_row.shown p.value))
show_sync (sync_calls.WillSaveWaitUntil p) = typed (methods.Sync sync.WillSaveWaitUntil) (Some (will_save_text_document_params_row.shown p.value))
show_sync (sync_calls.DidSave p) = typed (methods.Sync sync.DidSave) (Some (did_save_text_document_params_row.shown p.value))
show_sync (sync_calls.DidClose p) = typed (methods.Sync sync.DidClose) (Some (did_close_text_document_params_row.shown p.value))

abbrev pub sync_method : SyncCall → SyncMethod
sync_method (sync_calls.DidOpen p) = sync.DidOpen
sync_method (sync_calls.DidChange p) = sync.DidChange
sync_method (sync_calls.WillSave p) = sync.WillSave
sync_method (sync_calls.WillSaveWaitUntil p) = sync.WillSaveWaitUntil
sync_method (sync_calls.DidSave p) = sync.DidSave
sync_method (sync_calls.DidClose p) = sync.DidClose

abbrev pub show_goto : GotoCall → MethodCall
show_goto (goto_calls.GotoDeclaration p) = typed (methods.Goto goto.GotoDeclaration) (Some (goto_definition_params_row.shown p.value))
show_goto (goto_calls.GotoDefinition p) = typed (methods.Goto goto.GotoDefinition) (Some (goto_definition_params_row.shown p.value))
show_goto (goto_calls.GotoTypeDefinition p) = typed (methods.Goto goto.GotoTypeDefinition) (Some (goto_definition_params_row.shown p.value))
show_goto (goto_calls.GotoImplementation p) = typed (methods.Goto goto.GotoImplementation) (Some (goto_definition_params_row.shown p.value))
show_goto (goto_calls.References p) = typed (methods.Goto goto.References) (Some (reference_params_row.shown p.value))
show_goto (goto_calls.DocumentHighlight p) = typed (methods.Goto goto.DocumentHighlight) (Some (document_highlight_params_row.shown p.value))

abbrev pub goto_method : GotoCall → GotoMethod
goto_method (goto_calls.GotoDeclaration p) = goto.GotoDeclaration
goto_method (goto_calls.GotoDefinition p) = goto.GotoDefinition
goto_method (goto_calls.GotoTypeDefinition p) = goto.GotoTypeDefinition
goto_method (goto_calls.GotoImplementation p) = goto.GotoImplementation
goto_method (goto_calls.References p) = goto.References
goto_method (goto_calls.DocumentHighlight p) = goto.DocumentHighlight

abbrev pub show_hierarchy : HierarchyCall → MethodCall
show_hierarchy (hierarchy_calls.PrepareCallHierarchy p) = typed (methods.Hierarchy hierarchy.PrepareCallHierarchy) (Some (call_hierarchy_prepare_params_row.shown p.value))
show_hierarchy (hierarchy_calls.IncomingCalls p) = typed (methods.Hierarchy hierarchy.IncomingCalls) (Some (call_hierarchy_incoming_calls_params_row.shown p.value))
show_hierarchy (hierarchy_calls.OutgoingCalls p) = typed (methods.Hierarchy hierarchy.OutgoingCalls) (Some (call_hierarchy_outgoing_calls_params_row.shown p.value))
show_hierarchy (hierarchy_calls.PrepareTypeHierarchy p) = typed (methods.Hierarchy hierarchy.PrepareTypeHierarchy) (Some (type_hierarchy_prepare_params_row.shown p.value))
show_hierarchy (hierarchy_calls.Supertypes p) = typed (methods.Hierarchy hierarchy.Supertypes) (Some (type_hierarchy_supertypes_params_row.shown p.value))
show_hierarchy (hierarchy_calls.Subtypes p) = typed (methods.Hierarchy hierarchy.Subtypes) (Some (type_hierarchy_subtypes_params_row.shown p.value))

abbrev pub hierarchy_method : HierarchyCall → HierarchyMethod
hierarchy_method (hierarchy_calls.PrepareCallHierarchy p) = hierarchy.PrepareCallHierarchy
hierarchy_method (hierarchy_calls.IncomingCalls p) = hierarchy.IncomingCalls
hierarchy_method (hierarchy_calls.OutgoingCalls p) = hierarchy.OutgoingCalls
hierarchy_method (hierarchy_calls.PrepareTypeHierarchy p) = hierarchy.PrepareTypeHierarchy
hierarchy_method (hierarchy_calls.Supertypes p) = hierarchy.Supertypes
hierarchy_method (hierarchy_calls.Subtypes p) = hierarchy.Subtypes

abbrev pub show_show : ShowCall → MethodCall
show_show (show_calls.DocumentLink p) = typed (methods.Show show.DocumentLink) (Some (document_link_params_row.shown p.value))
show_show (show_calls.DocumentLinkResolve p) = typed (methods.Show show.DocumentLinkResolve) (Some (document_link_row.shown p.value))
show_show (show_calls.Hover p) = typed (methods.Show show.Hover) (Some (hover_params_row.shown p.value))
show_show (show_calls.CodeLens p) = typed (methods.Show show.CodeLens) (Some (code_lens_params_row.shown p.value))
show_show (show_calls.CodeLensResolve p) = typed (methods.Show show.CodeLensResolve) (Some (code_lens_row.shown p.value))
show_show (show_calls.FoldingRange p) = typed (methods.Show show.FoldingRange) (Some (folding_range_params_row.shown p.value))
show_show (show_calls.SelectionRange p) = typed (methods.Show show.SelectionRange) (Some (selection_range_params_row.shown p.value))
show_show (show_calls.DocumentSymbol p) = typed (methods.Show show.DocumentSymbol) (Some (document_symbol_params_row.shown p.value))
show_show (show_calls.Moniker p) = typed (methods.Show show.Moniker) (Some (moniker_params_row.shown p.value))

abbrev pub show_method : ShowCall → ShowMethod
show_method (show_calls.DocumentLink p) = show.DocumentLink
show_method (show_calls.DocumentLinkResolve p) = show.DocumentLinkResolve
show_method (show_calls.Hover p) = show.Hover
show_method (show_calls.CodeLens p) = show.CodeLens
show_method (show_calls.CodeLensResolve p) = show.CodeLensResolve
show_method (show_calls.FoldingRange p) = show.FoldingRange
show_method (show_calls.SelectionRange p) = show.SelectionRange
show_method (show_calls.DocumentSymbol p) = show.DocumentSymbol
show_method (show_calls.Moniker p) = show.Moniker

abbrev pub show_token : TokenCall → MethodCall
show_token (token_calls.SemanticTokensFull p) = typed (methods.Token token.SemanticTokensFull) (Some (semantic_tokens_params_row.shown p.value))
show_token (token_calls.SemanticTokensFullDelta p) = typed (methods.Token token.SemanticTokensFullDelta) (Some (semantic_tokens_delta_params_row.shown p.value))
show_token (token_calls.SemanticTokensRange p) = typed (methods.Token token.SemanticTokensRange) (Some (semantic_tokens_range_params_row.shown p.value))
show_token (token_calls.InlineValue p) = typed (methods.Token token.InlineValue) (Some (inline_value_params_row.shown p.value))
show_token (token_calls.InlayHint p) = typed (methods.Token token.InlayHint) (Some (inlay_hint_params_row.shown p.value))
show_token (token_calls.InlayHintResolve p) = typed (methods.Token token.InlayHintResolve) (Some (inlay_hint_row.shown p.value))

abbrev pub token_method : TokenCall → TokenMethod
token_method (token_calls.SemanticTokensFull p) = token.SemanticTokensFull
token_method (token_calls.SemanticTokensFullDelta p) = token.SemanticTokensFullDelta
token_method (token_calls.SemanticTokensRange p) = token.SemanticTokensRange
token_method (token_calls.InlineValue p) = token.InlineValue
token_method (token_calls.InlayHint p) = token.InlayHint
token_method (token_calls.InlayHintResolve p) = token.InlayHintResolve

abbrev pub show_edit : EditCall → MethodCall
show_edit (edit_calls.Completion p) = typed (methods.Edit edit.Completion) (Some (completion_params_row.shown p.value))
show_edit (edit_calls.CompletionResolve p) = typed (methods.Edit edit.CompletionResolve) (Some (completion_item_row.shown p.value))
show_edit (edit_calls.SignatureHelp p) = typed (methods.Edit edit.SignatureHelp) (Some (signature_help_params_row.shown p.value))
show_edit (edit_calls.CodeAction p) = typed (methods.Edit edit.CodeAction) (Some (code_action_params_row.shown p.value))
show_edit (edit_calls.CodeActionResolve p) = typed (methods.Edit edit.CodeActionResolve) (Some (code_action_row.shown p.value))
show_edit (edit_calls.Formatting p) = typed (methods.Edit edit.Formatting) (Some (document_formatting_params_row.shown p.value))
show_edit (edit_calls.RangeFormatting p) = typed (methods.Edit edit.RangeFormatting) (Some (document_range_formatting_params_row.shown p.value))
show_edit (edit_calls.OnTypeFormatting p) = typed (methods.Edit edit.OnTypeFormatting) (Some (document_on_type_formatting_params_row.shown p.value))
show_edit (edit_calls.Rename p) = typed (methods.Edit edit.Rename) (Some (rename_params_row.shown p.value))
show_edit (edit_calls.PrepareRename p) = typed (methods.Edit edit.PrepareRename) (Some (text_document_position_params_row.shown p.value))
show_edit (edit_calls.LinkedEditingRange p) = typed (methods.Edit edit.LinkedEditingRange) (Some (linked_editing_range_params_row.shown p.value))
show_edit (edit_calls.Diagnostic p) = typed (methods.Edit edit.Diagnostic) (Some (document_diagnostic_params_row.shown p.value))

abbrev pub edit_method : EditCall → EditMethod
edit_method (edit_calls.Completion p) = edit.Completion
edit_method (edit_calls.CompletionResolve p) = edit.CompletionResolve
edit_method (edit_calls.SignatureHelp p) = edit.SignatureHelp
edit_method (edit_calls.CodeAction p) = edit.CodeAction
edit_method (edit_calls.CodeActionResolve p) = edit.CodeActionResolve
edit_method (edit_calls.Formatting p) = edit.Formatting
edit_method (edit_calls.RangeFormatting p) = edit.RangeFormatting
edit_method (edit_calls.OnTypeFormatting p) = edit.OnTypeFormatting
edit_method (edit_calls.Rename p) = edit.Rename
edit_method (edit_calls.PrepareRename p) = edit.PrepareRename
edit_method (edit_calls.LinkedEditingRange p) = edit.LinkedEditingRange
edit_method (edit_calls.Diagnostic p) = edit.Diagnostic

abbrev pub show_work : WorkCall → MethodCall
show_work (work_calls.WorkspaceDiagnostic p) = typed (methods.Work work.WorkspaceDiagnostic) (Some (workspace_diagnostic_params_row.shown p.value))
show_work (work_calls.Symbol p) = typed (methods.Work work.Symbol) (Some (workspace_symbol_params_row.shown p.value))
show_work (work_calls.SymbolResolve p) = typed (methods.Work work.SymbolResolve) (Some (workspace_symbol_row.shown p.value))
show_work (work_calls.DidChangeConfiguration p) = typed (methods.Work work.DidChangeConfiguration) (Some (did_change_configuration_params_row.shown p.value))
show_work (work_calls.DidChangeWorkspaceFolders p) = typed (methods.Work work.DidChangeWorkspaceFolders) (Some (did_change_workspace_folders_params_row.shown p.value))
show_work (work_calls.WillCreateFiles p) = typed (methods.Work work.WillCreateFiles) (Some (create_files_params_row.shown p.value))
show_work (work_calls.DidCreateFiles p) = typed (methods.Work work.DidCreateFiles) (Some (create_files_params_row.shown p.value))
show_work (work_calls.WillRenameFiles p) = typed (methods.Work work.WillRenameFiles) (Some (rename_files_params_row.shown p.value))
show_work (work_calls.DidRenameFiles p) = typed (methods.Work work.DidRenameFiles) (Some (rename_files_params_row.shown p.value))
show_work (work_calls.WillDeleteFiles p) = typed (methods.Work work.WillDeleteFiles) (Some (delete_files_params_row.shown p.value))
show_work (work_calls.DidDeleteFiles p) = typed (methods.Work work.DidDeleteFiles) (Some (delete_files_params_row.shown p.value))
show_work (work_calls.DidChangeWatchedFiles p) = typed (methods.Work work.DidChangeWatchedFiles) (Some (did_change_watched_files_params_row.shown p.value))
show_work (work_calls.ExecuteCommand p) = typed (methods.Work work.ExecuteCommand) (Some (execute_command_params_row.shown p.value))

abbrev pub work_method : WorkCall → WorkMethod
work_method (work_calls.WorkspaceDiagnostic p) = work.WorkspaceDiagnostic
work_method (work_calls.Symbol p) = work.Symbol
work_method (work_calls.SymbolResolve p) = work.SymbolResolve
work_method (work_calls.DidChangeConfiguration p) = work.DidChangeConfiguration
work_method (work_calls.DidChangeWorkspaceFolders p) = work.DidChangeWorkspaceFolders
work_method (work_calls.WillCreateFiles p) = work.WillCreateFiles
work_method (work_calls.DidCreateFiles p) = work.DidCreateFiles
work_method (work_calls.WillRenameFiles p) = work.WillRenameFiles
work_method (work_calls.DidRenameFiles p) = work.DidRenameFiles
work_method (work_calls.WillDeleteFiles p) = work.WillDeleteFiles
work_method (work_calls.DidDeleteFiles p) = work.DidDeleteFiles
work_method (work_calls.DidChangeWatchedFiles p) = work.DidChangeWatchedFiles
work_method (work_calls.ExecuteCommand p) = work.ExecuteCommand

abbrev pub show_call : Call → MethodCall
show_call (calls.Life c) = show_life c
show_call (calls.Sync c) = show_sync c
show_call (calls.Goto c) = show_goto c
show_call (calls.Hierarchy c) = show_hierarchy c
show_call (calls.Show c) = show_show c
show_call (calls.Token c) = show_token c
show_call (calls.Edit c) = show_edit c
show_call (calls.Work c) = show_work c
show_call (calls.Custom n p) = custom n (option_map view p)

-- what was called, where its method was registered with this kind
abbrev pub target_of : MethodCall → Kind → Target
target_of (typed m p) kind = targets.Typed m
target_of (custom n p) kind = targets.Custom kind
