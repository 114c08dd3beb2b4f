-- The names and numbers of each kind, as LSP 3.17 gives them.
use Rattle.std.specs.Prelude.{ℤ, pos, List, [], ◌∷◌, codes}
use Rattle.lsp_kinds.specs.Named.{Name}

unfoldable pub diagnostic_severities : List (Name × ℤ)
diagnostic_severities = (codes "Error", pos 1) ∷ (codes "Warning", pos 2) ∷ (codes "Information", pos 3) ∷ (codes "Hint", pos 4) ∷ []

unfoldable pub diagnostic_tags : List (Name × ℤ)
diagnostic_tags = (codes "Unnecessary", pos 1) ∷ (codes "Deprecated", pos 2) ∷ []

unfoldable pub symbol_kinds : List (Name × ℤ)
symbol_kinds = (codes "File", pos 1) ∷ (codes "Module", pos 2) ∷ (codes "Namespace", pos 3) ∷ (codes "Package", pos 4) ∷ (codes "Class", pos 5)
    ∷ (codes "Method", pos 6) ∷ (codes "Property", pos 7) ∷ (codes "Field", pos 8) ∷ (codes "Constructor", pos 9) ∷ (codes "Enum", pos 10)
    ∷ (codes "Interface", pos 11) ∷ (codes "Function", pos 12) ∷ (codes "Variable", pos 13) ∷ (codes "Constant", pos 14) ∷ (codes "String", pos 15)
    ∷ (codes "Number", pos 16) ∷ (codes "Boolean", pos 17) ∷ (codes "Array", pos 18) ∷ (codes "Object", pos 19) ∷ (codes "Key", pos 20)
    ∷ (codes "Null", pos 21) ∷ (codes "EnumMember", pos 22) ∷ (codes "Struct", pos 23) ∷ (codes "Event", pos 24) ∷ (codes "Operator", pos 25)
    ∷ (codes "TypeParameter", pos 26) ∷ []

unfoldable pub symbol_tags : List (Name × ℤ)
symbol_tags = (codes "Deprecated", pos 1) ∷ []

unfoldable pub insert_text_formats : List (Name × ℤ)
insert_text_formats = (codes "PlainText", pos 1) ∷ (codes "Snippet", pos 2) ∷ []

unfoldable pub insert_text_modes : List (Name × ℤ)
insert_text_modes = (codes "AsIs", pos 1) ∷ (codes "AdjustIndentation", pos 2) ∷ []

unfoldable pub completion_item_kinds : List (Name × ℤ)
completion_item_kinds = (codes "Text", pos 1) ∷ (codes "Method", pos 2) ∷ (codes "Function", pos 3) ∷ (codes "Constructor", pos 4) ∷ (codes "Field", pos 5)
    ∷ (codes "Variable", pos 6) ∷ (codes "Class", pos 7) ∷ (codes "Interface", pos 8) ∷ (codes "Module", pos 9) ∷ (codes "Property", pos 10)
    ∷ (codes "Unit", pos 11) ∷ (codes "Value", pos 12) ∷ (codes "Enum", pos 13) ∷ (codes "Keyword", pos 14) ∷ (codes "Snippet", pos 15)
    ∷ (codes "Color", pos 16) ∷ (codes "File", pos 17) ∷ (codes "Reference", pos 18) ∷ (codes "Folder", pos 19) ∷ (codes "EnumMember", pos 20)
    ∷ (codes "Constant", pos 21) ∷ (codes "Struct", pos 22) ∷ (codes "Event", pos 23) ∷ (codes "Operator", pos 24) ∷ (codes "TypeParameter", pos 25) ∷ []

unfoldable pub completion_item_tags : List (Name × ℤ)
completion_item_tags = (codes "Deprecated", pos 1) ∷ []

unfoldable pub completion_trigger_kinds : List (Name × ℤ)
completion_trigger_kinds = (codes "Invoked", pos 1) ∷ (codes "TriggerCharacter", pos 2) ∷ (codes "TriggerForIncompleteCompletions", pos 3) ∷ []

unfoldable pub text_document_sync_kinds : List (Name × ℤ)
text_document_sync_kinds = (codes "None", pos 0) ∷ (codes "Full", pos 1) ∷ (codes "Incremental", pos 2) ∷ []

unfoldable pub text_document_save_reasons : List (Name × ℤ)
text_document_save_reasons = (codes "Manual", pos 1) ∷ (codes "AfterDelay", pos 2) ∷ (codes "FocusOut", pos 3) ∷ []

unfoldable pub code_action_trigger_kinds : List (Name × ℤ)
code_action_trigger_kinds = (codes "Invoked", pos 1) ∷ (codes "Automatic", pos 2) ∷ []

unfoldable pub document_highlight_kinds : List (Name × ℤ)
document_highlight_kinds = (codes "Text", pos 1) ∷ (codes "Read", pos 2) ∷ (codes "Write", pos 3) ∷ []

unfoldable pub inlay_hint_kinds : List (Name × ℤ)
inlay_hint_kinds = (codes "Type", pos 1) ∷ (codes "Parameter", pos 2) ∷ []

unfoldable pub prepare_support_default_behaviors : List (Name × ℤ)
prepare_support_default_behaviors = (codes "Identifier", pos 1) ∷ []

unfoldable pub signature_help_trigger_kinds : List (Name × ℤ)
signature_help_trigger_kinds = (codes "Invoked", pos 1) ∷ (codes "TriggerCharacter", pos 2) ∷ (codes "ContentChange", pos 3) ∷ []

unfoldable pub file_change_types : List (Name × ℤ)
file_change_types = (codes "Created", pos 1) ∷ (codes "Changed", pos 2) ∷ (codes "Deleted", pos 3) ∷ []

unfoldable pub message_types : List (Name × ℤ)
message_types = (codes "Error", pos 1) ∷ (codes "Warning", pos 2) ∷ (codes "Info", pos 3) ∷ (codes "Log", pos 4) ∷ []
