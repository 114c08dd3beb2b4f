-- What the code's replies show.
use Rattle.std.specs.Prelude.{Result, Ok, Err}
use Rattle.serde_json.specs.Data.{Data}
use Rattle.serde_json.specs.View.{view}
use Rattle.lsp_rpc.specs.declared.error.Error.{Error}
use Rattle.lsp_rpc.specs.Message.{ErrorData}
use Rattle.lsp_rpc.specs.Shown.{show_body, show_error}
use Rattle.lsp_service.specs.Data.{MethodReply, answer, written, custom_answer, refusal, noted, nil_row, result_shown}
use Rattle.lsp_service.specs.declared.reply.Reply.{Reply}
use Rattle.lsp_service.specs.declared.reply.Reply.TheVariants as replies
use Rattle.lsp_methods.specs.declared.method.Method.TheVariants as methods
use Rattle.lsp_base.specs.Edit.{text_edit_row}
use Rattle.lsp_base.specs.Position.{location_row}
use Rattle.lsp_base.specs.WorkspaceEdit.{workspace_edit_row}
use Rattle.lsp_initialize.specs.declared.server.InitializeResult.{InitializeResult}
use Rattle.lsp_initialize.specs.Server.{initialize_result_row}
use Rattle.lsp_lang_goto.specs.Calls.{call_hierarchy_incoming_call_row, call_hierarchy_item_row, call_hierarchy_outgoing_call_row}
use Rattle.lsp_lang_goto.specs.CodeLens.{code_lens_row}
use Rattle.lsp_lang_goto.specs.Goto.{goto_definition_response_row}
use Rattle.lsp_lang_goto.specs.Hover.{hover_row}
use Rattle.lsp_lang_goto.specs.Link.{document_link_row}
use Rattle.lsp_lang_goto.specs.References.{document_highlight_row}
use Rattle.lsp_lang_goto.specs.Symbols.{document_symbol_response_row, symbol_information_row, workspace_symbol_row}
use Rattle.lsp_lang_goto.specs.Types.{type_hierarchy_item_row}
use Rattle.lsp_lang_item.specs.CodeAction.{code_action_or_command_row, code_action_row}
use Rattle.lsp_lang_item.specs.Completion.{completion_item_row, completion_response_row}
use Rattle.lsp_lang_item.specs.InlayHint.{inlay_hint_row}
use Rattle.lsp_lang_item.specs.InlineValue.{inline_value_row}
use Rattle.lsp_lang_item.specs.Rename.{prepare_rename_response_row}
use Rattle.lsp_report.specs.Document.{document_diagnostic_report_result_row}
use Rattle.lsp_report.specs.Workspace.{workspace_diagnostic_report_result_row}
use Rattle.lsp_shape.specs.Row.{any, list, maybe, row_of}
use Rattle.lsp_tokens.specs.Folding.{folding_range_row}
use Rattle.lsp_tokens.specs.Moniker.{moniker_row}
use Rattle.lsp_tokens.specs.Results.{semantic_tokens_full_delta_result_row, semantic_tokens_range_result_row, semantic_tokens_result_row}
use Rattle.lsp_tokens.specs.Selection.{linked_editing_ranges_row}
use Rattle.lsp_tokens.specs.SelectionRange.{selection_range_shape, show_selection_range}
use Rattle.lsp_tokens.specs.SignatureHelp.{signature_help_row}
use Rattle.lsp_shape.specs.Write.{write}
use Rattle.lsp_service.specs.declared.initialize.InitializeReply.{InitializeReply}
use Rattle.lsp_service.specs.declared.reply.LifeReply.{LifeReply}
use Rattle.lsp_service.specs.declared.reply.LifeReply.TheVariants as life_replies
use Rattle.lsp_methods.specs.declared.method.LifeMethod.TheVariants as life
use Rattle.lsp_service.specs.declared.reply.SyncReply.{SyncReply}
use Rattle.lsp_service.specs.declared.reply.SyncReply.TheVariants as sync_replies
use Rattle.lsp_methods.specs.declared.method.SyncMethod.TheVariants as sync
use Rattle.lsp_service.specs.declared.reply.GotoReply.{GotoReply}
use Rattle.lsp_service.specs.declared.reply.GotoReply.TheVariants as goto_replies
use Rattle.lsp_methods.specs.declared.method.GotoMethod.TheVariants as goto
use Rattle.lsp_service.specs.declared.reply.HierarchyReply.{HierarchyReply}
use Rattle.lsp_service.specs.declared.reply.HierarchyReply.TheVariants as hierarchy_replies
use Rattle.lsp_methods.specs.declared.method.HierarchyMethod.TheVariants as hierarchy
use Rattle.lsp_service.specs.declared.reply.ShowReply.{ShowReply}
use Rattle.lsp_service.specs.declared.reply.ShowReply.TheVariants as show_replies
use Rattle.lsp_methods.specs.declared.method.ShowMethod.TheVariants as show
use Rattle.lsp_service.specs.declared.reply.TokenReply.{TokenReply}
use Rattle.lsp_service.specs.declared.reply.TokenReply.TheVariants as token_replies
use Rattle.lsp_methods.specs.declared.method.TokenMethod.TheVariants as token
use Rattle.lsp_service.specs.declared.reply.EditReply.{EditReply}
use Rattle.lsp_service.specs.declared.reply.EditReply.TheVariants as edit_replies
use Rattle.lsp_methods.specs.declared.method.EditMethod.TheVariants as edit
use Rattle.lsp_service.specs.declared.reply.WorkReply.{WorkReply}
use Rattle.lsp_service.specs.declared.reply.WorkReply.TheVariants as work_replies
use Rattle.lsp_methods.specs.declared.method.WorkMethod.TheVariants as work

-- what is written for a result of `initialize`
unfoldable pub initialize_data : InitializeResult → Data
initialize_data x = write initialize_result_row.shape (initialize_result_row.shown x)

-- what was written
abbrev pub show_offer : InitializeReply → Data
show_offer r = view r.result

abbrev pub show_offered : Result InitializeReply Error → Result Data ErrorData
show_offered (Ok r) = Ok (show_offer r)
show_offered (Err e) = Err (show_error e)

abbrev pub show_life_reply : LifeReply → MethodReply
show_life_reply (life_replies.Initialize r) = written (methods.Life life.Initialize) (show_offered r)
show_life_reply (life_replies.Shutdown r) = answer (methods.Life life.Shutdown) (result_shown nil_row.shown r)

abbrev pub show_sync_reply : SyncReply → MethodReply
show_sync_reply (sync_replies.WillSaveWaitUntil r) = answer (methods.Sync sync.WillSaveWaitUntil) (result_shown (maybe (list text_edit_row)).shown r)

abbrev pub show_goto_reply : GotoReply → MethodReply
show_goto_reply (goto_replies.GotoDeclaration r) = answer (methods.Goto goto.GotoDeclaration) (result_shown (maybe goto_definition_response_row).shown r)
show_goto_reply (goto_replies.GotoDefinition r) = answer (methods.Goto goto.GotoDefinition) (result_shown (maybe goto_definition_response_row).shown r)
show_goto_reply (goto_replies.GotoTypeDefinition r) = answer (methods.Goto goto.GotoTypeDefinition) (result_shown (maybe goto_definition_response_row).shown r)
show_goto_reply (goto_replies.GotoImplementation r) = answer (methods.Goto goto.GotoImplementation) (result_shown (maybe goto_definition_response_row).shown r)
show_goto_reply (goto_replies.References r) = answer (methods.Goto goto.References) (result_shown (maybe (list location_row)).shown r)
show_goto_reply (goto_replies.DocumentHighlight r) = answer (methods.Goto goto.DocumentHighlight) (result_shown (maybe (list document_highlight_row)).shown r)

abbrev pub show_hierarchy_reply : HierarchyReply → MethodReply
show_hierarchy_reply (hierarchy_replies.PrepareCallHierarchy r) = answer (methods.Hierarchy hierarchy.PrepareCallHierarchy) (result_shown (maybe (list call_hierarchy_item_row)).shown r)
show_hierarchy_reply (hierarchy_replies.IncomingCalls r) = answer (methods.Hierarchy hierarchy.IncomingCalls) (result_shown (maybe (list call_hierarchy_incoming_call_row)).shown r)
show_hierarchy_reply (hierarchy_replies.OutgoingCalls r) = answer (methods.Hierarchy hierarchy.OutgoingCalls) (result_shown (maybe (list call_hierarchy_outgoing_call_row)).shown r)
show_hierarchy_reply (hierarchy_replies.PrepareTypeHierarchy r) = answer (methods.Hierarchy hierarchy.PrepareTypeHierarchy) (result_shown (maybe (list type_hierarchy_item_row)).shown r)
show_hierarchy_reply (hierarchy_replies.Supertypes r) = answer (methods.Hierarchy hierarchy.Supertypes) (result_shown (maybe (list type_hierarchy_item_row)).shown r)
show_hierarchy_reply (hierarchy_replies.Subtypes r) = answer (methods.Hierarchy hierarchy.Subtypes) (result_shown (maybe (list type_hierarchy_item_row)).shown r)

abbrev pub show_show_reply : ShowReply → MethodReply
show_show_reply (show_replies.DocumentLink r) = answer (methods.Show show.DocumentLink) (result_shown (maybe (list document_link_row)).shown r)
show_show_reply (show_replies.DocumentLinkResolve r) = answer (methods.Show show.DocumentLinkResolve) (result_shown document_link_row.shown r)
show_show_reply (show_replies.Hover r) = answer (methods.Show show.Hover) (result_shown (maybe hover_row).shown r)
show_show_reply (show_replies.CodeLens r) = answer (methods.Show show.CodeLens) (result_shown (maybe (list code_lens_row)).shown r)
show_show_reply (show_replies.CodeLensResolve r) = answer (methods.Show show.CodeLensResolve) (result_shown code_lens_row.shown r)
show_show_reply (show_replies.FoldingRange r) = answer (methods.Show show.FoldingRange) (result_shown (maybe (list folding_range_row)).shown r)
show_show_reply (show_replies.SelectionRange r) = answer (methods.Show show.SelectionRange) (result_shown (maybe (list (row_of selection_range_shape show_selection_range))).shown r)
show_show_reply (show_replies.DocumentSymbol r) = answer (methods.Show show.DocumentSymbol) (result_shown (maybe document_symbol_response_row).shown r)
show_show_reply (show_replies.Moniker r) = answer (methods.Show show.Moniker) (result_shown (maybe (list moniker_row)).shown r)

abbrev pub show_token_reply : TokenReply → MethodReply
show_token_reply (token_replies.SemanticTokensFull r) = answer (methods.Token token.SemanticTokensFull) (result_shown (maybe semantic_tokens_result_row).shown r)
show_token_reply (token_replies.SemanticTokensFullDelta r) = answer (methods.Token token.SemanticTokensFullDelta) (result_shown (maybe semantic_tokens_full_delta_result_row).shown r)
show_token_reply (token_replies.SemanticTokensRange r) = answer (methods.Token token.SemanticTokensRange) (result_shown (maybe semantic_tokens_range_result_row).shown r)
show_token_reply (token_replies.InlineValue r) = answer (methods.Token token.InlineValue) (result_shown (maybe (list inline_value_row)).shown r)
show_token_reply (token_replies.InlayHint r) = answer (methods.Token token.InlayHint) (result_shown (maybe (list inlay_hint_row)).shown r)
show_token_reply (token_replies.InlayHintResolve r) = answer (methods.Token token.InlayHintResolve) (result_shown inlay_hint_row.shown r)

abbrev pub show_edit_reply : EditReply → MethodReply
show_edit_reply (edit_replies.Completion r) = answer (methods.Edit edit.Completion) (result_shown (maybe completion_response_row).shown r)
show_edit_reply (edit_replies.CompletionResolve r) = answer (methods.Edit edit.CompletionResolve) (result_shown (λ b. completion_item_row.shown b.value) r)
show_edit_reply (edit_replies.SignatureHelp r) = answer (methods.Edit edit.SignatureHelp) (result_shown (maybe signature_help_row).shown r)
show_edit_reply (edit_replies.CodeAction r) = answer (methods.Edit edit.CodeAction) (result_shown (maybe (list code_action_or_command_row)).shown r)
show_edit_reply (edit_replies.CodeActionResolve r) = answer (methods.Edit edit.CodeActionResolve) (result_shown (λ b. code_action_row.shown b.value) r)
show_edit_reply (edit_replies.Formatting r) = answer (methods.Edit edit.Formatting) (result_shown (maybe (list text_edit_row)).shown r)
show_edit_reply (edit_replies.RangeFormatting r) = answer (methods.Edit edit.RangeFormatting) (result_shown (maybe (list text_edit_row)).shown r)
show_edit_reply (edit_replies.OnTypeFormatting r) = answer (methods.Edit edit.OnTypeFormatting) (result_shown (maybe (list text_edit_row)).shown r)
show_edit_reply (edit_replies.Rename r) = answer (methods.Edit edit.Rename) (result_shown (maybe workspace_edit_row).shown r)
show_edit_reply (edit_replies.PrepareRename r) = answer (methods.Edit edit.PrepareRename) (result_shown (maybe prepare_rename_response_row).shown r)
show_edit_reply (edit_replies.LinkedEditingRange r) = answer (methods.Edit edit.LinkedEditingRange) (result_shown (maybe linked_editing_ranges_row).shown r)
show_edit_reply (edit_replies.Diagnostic r) = answer (methods.Edit edit.Diagnostic) (result_shown document_diagnostic_report_result_row.shown r)

abbrev pub show_work_reply : WorkReply → MethodReply
show_work_reply (work_replies.WorkspaceDiagnostic r) = answer (methods.Work work.WorkspaceDiagnostic) (result_shown workspace_diagnostic_report_result_row.shown r)
show_work_reply (work_replies.Symbol r) = answer (methods.Work work.Symbol) (result_shown (maybe (list symbol_information_row)).shown r)
show_work_reply (work_replies.SymbolResolve r) = answer (methods.Work work.SymbolResolve) (result_shown workspace_symbol_row.shown r)
show_work_reply (work_replies.WillCreateFiles r) = answer (methods.Work work.WillCreateFiles) (result_shown (maybe workspace_edit_row).shown r)
show_work_reply (work_replies.WillRenameFiles r) = answer (methods.Work work.WillRenameFiles) (result_shown (maybe workspace_edit_row).shown r)
show_work_reply (work_replies.WillDeleteFiles r) = answer (methods.Work work.WillDeleteFiles) (result_shown (maybe workspace_edit_row).shown r)
show_work_reply (work_replies.ExecuteCommand r) = answer (methods.Work work.ExecuteCommand) (result_shown (maybe any).shown r)

abbrev pub show_reply : Reply → MethodReply
show_reply (replies.Life r) = show_life_reply r
show_reply (replies.Sync r) = show_sync_reply r
show_reply (replies.Goto r) = show_goto_reply r
show_reply (replies.Hierarchy r) = show_hierarchy_reply r
show_reply (replies.Show r) = show_show_reply r
show_reply (replies.Token r) = show_token_reply r
show_reply (replies.Edit r) = show_edit_reply r
show_reply (replies.Work r) = show_work_reply r
show_reply (replies.Custom r) = custom_answer (show_body r)
show_reply (replies.Error e) = refusal (show_error e)
show_reply replies.Noted = noted
