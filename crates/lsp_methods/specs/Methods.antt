-- The methods that a client calls on a server: what each is called, where it stands in a session, and its place in the table.
use Rattle.std.specs.Prelude.{ℕ, List, [], ◌∷◌, Option}
use Rattle.std.specs.List.{slice_get}
use Rattle.lsp_session.specs.declared.table.Layer.TheVariants as layers
use Rattle.lsp_session.specs.Table.{MethodData}
use Rattle.lsp_methods.specs.MethodRow.{request, notification}
use Rattle.lsp_methods.specs.declared.method.LifeMethod.{LifeMethod}
use Rattle.lsp_methods.specs.declared.method.LifeMethod.TheVariants as life
use Rattle.lsp_methods.specs.declared.method.SyncMethod.{SyncMethod}
use Rattle.lsp_methods.specs.declared.method.SyncMethod.TheVariants as sync
use Rattle.lsp_methods.specs.declared.method.GotoMethod.{GotoMethod}
use Rattle.lsp_methods.specs.declared.method.GotoMethod.TheVariants as goto
use Rattle.lsp_methods.specs.declared.method.HierarchyMethod.{HierarchyMethod}
use Rattle.lsp_methods.specs.declared.method.HierarchyMethod.TheVariants as hierarchy
use Rattle.lsp_methods.specs.declared.method.ShowMethod.{ShowMethod}
use Rattle.lsp_methods.specs.declared.method.ShowMethod.TheVariants as show
use Rattle.lsp_methods.specs.declared.method.TokenMethod.{TokenMethod}
use Rattle.lsp_methods.specs.declared.method.TokenMethod.TheVariants as token
use Rattle.lsp_methods.specs.declared.method.EditMethod.{EditMethod}
use Rattle.lsp_methods.specs.declared.method.EditMethod.TheVariants as edit
use Rattle.lsp_methods.specs.declared.method.WorkMethod.{WorkMethod}
use Rattle.lsp_methods.specs.declared.method.WorkMethod.TheVariants as work
use Rattle.lsp_methods.specs.declared.method.Method.{Method}
use Rattle.lsp_methods.specs.declared.method.Method.TheVariants as methods

-- the life of a session
abbrev pub life_row : LifeMethod → MethodData
life_row life.Initialize = record (request "initialize") { layer = layers.Initialize }
life_row life.Initialized = notification "initialized"
life_row life.Shutdown = record (request "shutdown") { layer = layers.Shutdown }

abbrev pub life_place : LifeMethod → ℕ
life_place life.Initialize = 0
life_place life.Initialized = 1
life_place life.Shutdown = 2

-- the synchronization of documents
abbrev pub sync_row : SyncMethod → MethodData
sync_row sync.DidOpen = notification "textDocument/didOpen"
sync_row sync.DidChange = notification "textDocument/didChange"
sync_row sync.WillSave = notification "textDocument/willSave"
sync_row sync.WillSaveWaitUntil = request "textDocument/willSaveWaitUntil"
sync_row sync.DidSave = notification "textDocument/didSave"
sync_row sync.DidClose = notification "textDocument/didClose"

abbrev pub sync_place : SyncMethod → ℕ
sync_place sync.DidOpen = 3
sync_place sync.DidChange = 4
sync_place sync.WillSave = 5
sync_place sync.WillSaveWaitUntil = 6
sync_place sync.DidSave = 7
sync_place sync.DidClose = 8

-- places to go to
abbrev pub goto_row : GotoMethod → MethodData
goto_row goto.GotoDeclaration = request "textDocument/declaration"
goto_row goto.GotoDefinition = request "textDocument/definition"
goto_row goto.GotoTypeDefinition = request "textDocument/typeDefinition"
goto_row goto.GotoImplementation = request "textDocument/implementation"
goto_row goto.References = request "textDocument/references"
goto_row goto.DocumentHighlight = request "textDocument/documentHighlight"

abbrev pub goto_place : GotoMethod → ℕ
goto_place goto.GotoDeclaration = 9
goto_place goto.GotoDefinition = 10
goto_place goto.GotoTypeDefinition = 11
goto_place goto.GotoImplementation = 12
goto_place goto.References = 13
goto_place goto.DocumentHighlight = 14

-- hierarchies of calls and types
abbrev pub hierarchy_row : HierarchyMethod → MethodData
hierarchy_row hierarchy.PrepareCallHierarchy = request "textDocument/prepareCallHierarchy"
hierarchy_row hierarchy.IncomingCalls = request "callHierarchy/incomingCalls"
hierarchy_row hierarchy.OutgoingCalls = request "callHierarchy/outgoingCalls"
hierarchy_row hierarchy.PrepareTypeHierarchy = request "textDocument/prepareTypeHierarchy"
hierarchy_row hierarchy.Supertypes = request "typeHierarchy/supertypes"
hierarchy_row hierarchy.Subtypes = request "typeHierarchy/subtypes"

abbrev pub hierarchy_place : HierarchyMethod → ℕ
hierarchy_place hierarchy.PrepareCallHierarchy = 15
hierarchy_place hierarchy.IncomingCalls = 16
hierarchy_place hierarchy.OutgoingCalls = 17
hierarchy_place hierarchy.PrepareTypeHierarchy = 18
hierarchy_place hierarchy.Supertypes = 19
hierarchy_place hierarchy.Subtypes = 20

-- what is shown in a document
abbrev pub show_row : ShowMethod → MethodData
show_row show.DocumentLink = request "textDocument/documentLink"
show_row show.DocumentLinkResolve = request "documentLink/resolve"
show_row show.Hover = request "textDocument/hover"
show_row show.CodeLens = request "textDocument/codeLens"
show_row show.CodeLensResolve = request "codeLens/resolve"
show_row show.FoldingRange = request "textDocument/foldingRange"
show_row show.SelectionRange = request "textDocument/selectionRange"
show_row show.DocumentSymbol = request "textDocument/documentSymbol"
show_row show.Moniker = request "textDocument/moniker"

abbrev pub show_place : ShowMethod → ℕ
show_place show.DocumentLink = 21
show_place show.DocumentLinkResolve = 22
show_place show.Hover = 23
show_place show.CodeLens = 24
show_place show.CodeLensResolve = 25
show_place show.FoldingRange = 26
show_place show.SelectionRange = 27
show_place show.DocumentSymbol = 28
show_place show.Moniker = 29

-- tokens, hints and values in a document
abbrev pub token_row : TokenMethod → MethodData
token_row token.SemanticTokensFull = request "textDocument/semanticTokens/full"
token_row token.SemanticTokensFullDelta = request "textDocument/semanticTokens/full/delta"
token_row token.SemanticTokensRange = request "textDocument/semanticTokens/range"
token_row token.InlineValue = request "textDocument/inlineValue"
token_row token.InlayHint = request "textDocument/inlayHint"
token_row token.InlayHintResolve = request "inlayHint/resolve"

abbrev pub token_place : TokenMethod → ℕ
token_place token.SemanticTokensFull = 30
token_place token.SemanticTokensFullDelta = 31
token_place token.SemanticTokensRange = 32
token_place token.InlineValue = 33
token_place token.InlayHint = 34
token_place token.InlayHintResolve = 35

-- completion, edits and diagnostics
abbrev pub edit_row : EditMethod → MethodData
edit_row edit.Completion = request "textDocument/completion"
edit_row edit.CompletionResolve = request "completionItem/resolve"
edit_row edit.SignatureHelp = request "textDocument/signatureHelp"
edit_row edit.CodeAction = request "textDocument/codeAction"
edit_row edit.CodeActionResolve = request "codeAction/resolve"
edit_row edit.Formatting = request "textDocument/formatting"
edit_row edit.RangeFormatting = request "textDocument/rangeFormatting"
edit_row edit.OnTypeFormatting = request "textDocument/onTypeFormatting"
edit_row edit.Rename = request "textDocument/rename"
edit_row edit.PrepareRename = request "textDocument/prepareRename"
edit_row edit.LinkedEditingRange = request "textDocument/linkedEditingRange"
edit_row edit.Diagnostic = request "textDocument/diagnostic"

abbrev pub edit_place : EditMethod → ℕ
edit_place edit.Completion = 36
edit_place edit.CompletionResolve = 37
edit_place edit.SignatureHelp = 38
edit_place edit.CodeAction = 39
edit_place edit.CodeActionResolve = 40
edit_place edit.Formatting = 41
edit_place edit.RangeFormatting = 42
edit_place edit.OnTypeFormatting = 43
edit_place edit.Rename = 44
edit_place edit.PrepareRename = 45
edit_place edit.LinkedEditingRange = 46
edit_place edit.Diagnostic = 47

-- the workspace
abbrev pub work_row : WorkMethod → MethodData
work_row work.WorkspaceDiagnostic = request "workspace/diagnostic"
work_row work.Symbol = request "workspace/symbol"
work_row work.SymbolResolve = request "workspaceSymbol/resolve"
work_row work.DidChangeConfiguration = notification "workspace/didChangeConfiguration"
work_row work.DidChangeWorkspaceFolders = notification "workspace/didChangeWorkspaceFolders"
work_row work.WillCreateFiles = request "workspace/willCreateFiles"
work_row work.DidCreateFiles = notification "workspace/didCreateFiles"
work_row work.WillRenameFiles = request "workspace/willRenameFiles"
work_row work.DidRenameFiles = notification "workspace/didRenameFiles"
work_row work.WillDeleteFiles = request "workspace/willDeleteFiles"
work_row work.DidDeleteFiles = notification "workspace/didDeleteFiles"
work_row work.DidChangeWatchedFiles = notification "workspace/didChangeWatchedFiles"
work_row work.ExecuteCommand = request "workspace/executeCommand"

abbrev pub work_place : WorkMethod → ℕ
work_place work.WorkspaceDiagnostic = 48
work_place work.Symbol = 49
work_place work.SymbolResolve = 50
work_place work.DidChangeConfiguration = 51
work_place work.DidChangeWorkspaceFolders = 52
work_place work.WillCreateFiles = 53
work_place work.DidCreateFiles = 54
work_place work.WillRenameFiles = 55
work_place work.DidRenameFiles = 56
work_place work.WillDeleteFiles = 57
work_place work.DidDeleteFiles = 58
work_place work.DidChangeWatchedFiles = 59
work_place work.ExecuteCommand = 60

abbrev pub method_row : Method → MethodData
method_row (methods.Life m) = life_row m
method_row (methods.Sync m) = sync_row m
method_row (methods.Goto m) = goto_row m
method_row (methods.Hierarchy m) = hierarchy_row m
method_row (methods.Show m) = show_row m
method_row (methods.Token m) = token_row m
method_row (methods.Edit m) = edit_row m
method_row (methods.Work m) = work_row m

abbrev pub place_of : Method → ℕ
place_of (methods.Life m) = life_place m
place_of (methods.Sync m) = sync_place m
place_of (methods.Goto m) = goto_place m
place_of (methods.Hierarchy m) = hierarchy_place m
place_of (methods.Show m) = show_place m
place_of (methods.Token m) = token_place m
place_of (methods.Edit m) = edit_place m
place_of (methods.Work m) = work_place m

-- in the order of the table
abbrev pub all_methods : List Method
all_methods =
    methods.Life life.Initialize
    ∷ methods.Life life.Initialized
    ∷ methods.Life life.Shutdown
    ∷ methods.Sync sync.DidOpen
    ∷ methods.Sync sync.DidChange
    ∷ methods.Sync sync.WillSave
    ∷ methods.Sync sync.WillSaveWaitUntil
    ∷ methods.Sync sync.DidSave
    ∷ methods.Sync sync.DidClose
    ∷ methods.Goto goto.GotoDeclaration
    ∷ methods.Goto goto.GotoDefinition
    ∷ methods.Goto goto.GotoTypeDefinition
    ∷ methods.Goto goto.GotoImplementation
    ∷ methods.Goto goto.References
    ∷ methods.Goto goto.DocumentHighlight
    ∷ methods.Hierarchy hierarchy.PrepareCallHierarchy
    ∷ methods.Hierarchy hierarchy.IncomingCalls
    ∷ methods.Hierarchy hierarchy.OutgoingCalls
    ∷ methods.Hierarchy hierarchy.PrepareTypeHierarchy
    ∷ methods.Hierarchy hierarchy.Supertypes
    ∷ methods.Hierarchy hierarchy.Subtypes
    ∷ methods.Show show.DocumentLink
    ∷ methods.Show show.DocumentLinkResolve
    ∷ methods.Show show.Hover
    ∷ methods.Show show.CodeLens
    ∷ methods.Show show.CodeLensResolve
    ∷ methods.Show show.FoldingRange
    ∷ methods.Show show.SelectionRange
    ∷ methods.Show show.DocumentSymbol
    ∷ methods.Show show.Moniker
    ∷ methods.Token token.SemanticTokensFull
    ∷ methods.Token token.SemanticTokensFullDelta
    ∷ methods.Token token.SemanticTokensRange
    ∷ methods.Token token.InlineValue
    ∷ methods.Token token.InlayHint
    ∷ methods.Token token.InlayHintResolve
    ∷ methods.Edit edit.Completion
    ∷ methods.Edit edit.CompletionResolve
    ∷ methods.Edit edit.SignatureHelp
    ∷ methods.Edit edit.CodeAction
    ∷ methods.Edit edit.CodeActionResolve
    ∷ methods.Edit edit.Formatting
    ∷ methods.Edit edit.RangeFormatting
    ∷ methods.Edit edit.OnTypeFormatting
    ∷ methods.Edit edit.Rename
    ∷ methods.Edit edit.PrepareRename
    ∷ methods.Edit edit.LinkedEditingRange
    ∷ methods.Edit edit.Diagnostic
    ∷ methods.Work work.WorkspaceDiagnostic
    ∷ methods.Work work.Symbol
    ∷ methods.Work work.SymbolResolve
    ∷ methods.Work work.DidChangeConfiguration
    ∷ methods.Work work.DidChangeWorkspaceFolders
    ∷ methods.Work work.WillCreateFiles
    ∷ methods.Work work.DidCreateFiles
    ∷ methods.Work work.WillRenameFiles
    ∷ methods.Work work.DidRenameFiles
    ∷ methods.Work work.WillDeleteFiles
    ∷ methods.Work work.DidDeleteFiles
    ∷ methods.Work work.DidChangeWatchedFiles
    ∷ methods.Work work.ExecuteCommand
    ∷ []

abbrev pub method_at : ℕ → Option Method
method_at place = slice_get all_methods place
