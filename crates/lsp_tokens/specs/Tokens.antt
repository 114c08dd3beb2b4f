-- Rows: semantic tokens, which are lists of numbers, five for a token.
use Rattle.std.specs.Prelude.{ℕ, List, [], ◌∷◌, ◌++◌, Vec}
use Rattle.std.specs.declared.alloc.Global.{Global}
use Rattle.lsp_shape.specs.Shape as shape
use Rattle.lsp_shape.specs.Shown.{show_tokens}
use Rattle.lsp_shape.specs.Row.{Row, row_of, fields, omitted, required, string, u32, ◌&◌}
use Rattle.lsp_tokens.specs.declared.tokens.SemanticToken.{SemanticToken}
use Rattle.lsp_tokens.specs.declared.tokens.SemanticTokens.{SemanticTokens}
use Rattle.lsp_tokens.specs.declared.tokens.SemanticTokensPartialResult.{SemanticTokensPartialResult}
use Rattle.lsp_tokens.specs.declared.tokens.SemanticTokensEdit.{SemanticTokensEdit}

-- the numbers of a token, in the order of the standard
unfoldable pub token_numbers : SemanticToken → List ℕ
token_numbers t = t.delta_line ∷ t.delta_start ∷ t.length ∷ t.token_type ∷ t.token_modifiers_bitset ∷ []

-- the numbers of tokens, one token after the other
abbrev pub numbers_of : List SemanticToken → List ℕ
numbers_of [] = []
numbers_of (t ∷ ts) = token_numbers t ++ numbers_of ts

unfoldable pub token_list : Row (Vec SemanticToken Global)
token_list = row_of shape.tokens (λ v. show_tokens (numbers_of v.items))

unfoldable pub semantic_tokens_row : Row SemanticTokens
semantic_tokens_row = fields (
    omitted "resultId" string (λ x. x.result_id) &
    required "data" token_list (λ x. x.payload))

unfoldable pub semantic_tokens_partial_result_row : Row SemanticTokensPartialResult
semantic_tokens_partial_result_row = fields (
    required "data" token_list (λ x. x.payload))

unfoldable pub semantic_tokens_edit_row : Row SemanticTokensEdit
semantic_tokens_edit_row = fields (
    required "start" u32 (λ x. x.start) &
    required "deleteCount" u32 (λ x. x.delete_count) &
    omitted "data" token_list (λ x. x.payload))
