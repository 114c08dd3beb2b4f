-- A value whose text reads back, by its outline.
use Rattle.std.proofs.Common.{◌≡◌, ℕ, ◌≤◌, max, suc, List, [], Some, refl, sym, ap, ap₂, ◌∙◌, arith, append-nil, Option, option_and_then, false}
use Rattle.json.specs.Token.{Token}
use Rattle.json.specs.Lex.{tokens}
use Rattle.json.specs.Json as json
use Rattle.json.specs.Tree as tree
use Rattle.json.specs.Tree.{json_tokens, HasNumbers}
use Rattle.json.proofs.Numbered.{ArePrintableOrBad-tokens, value-HasNumbers}
use Rattle.json.proofs.Printed.Tokens.{tokens-print}
use Rattle.json.proofs.Printed.Trees.{value-json_tokens, ArePrintable-json_tokens}
use Rattle.serde_json.specs.Data.{Data, null, boolean, number, string, array, object, Items, no_items, item, Members, no_members, member, depth, items_depth, members_depth}
use Rattle.serde_json.specs.Read.{read, of_json, max_depth}
use Rattle.serde_json.specs.Written.{has_float, compact_text, outline, items_outline, members_outline, IsInOrder}
use Rattle.serde_json.proofs.Texts.{tokens_from_order, print-outline}
use Rattle.lsp_rpc.specs.Back.{ReadsBack}

mutual
  pub depth-outline : (d : Data) → tree.depth (outline d) ≡ depth d
  depth-outline null = refl
  depth-outline (boolean b) = refl
  depth-outline (number n) = refl
  depth-outline (string s) = refl
  depth-outline (array ds) = ap suc (items_depth-outline ds)
  depth-outline (object ms) = ap suc (members_depth-outline ms)

  items_depth-outline : (ds : Items) → tree.items_depth (items_outline ds) ≡ items_depth ds
  items_depth-outline no_items = refl
  items_depth-outline (item d ds) = ap₂ max (depth-outline d) (items_depth-outline ds)

  members_depth-outline : (ms : Members) → tree.members_depth (members_outline ms) ≡ members_depth ms
  members_depth-outline no_members = refl
  members_depth-outline (member k d ms) = ap₂ max (depth-outline d) (members_depth-outline ms)

abbrev whole : Option (json.Json × List Token) → Option Data
whole o = option_and_then of_json (option_and_then (λ p. json.if_last p.0 p.1) o)

-- the grammar reads the tokens of an outline
parsed : (ts : List Token) (d : Data) → ts ≡ json_tokens (outline d) → depth d ≤ max_depth → json.value max_depth ts ≡ Some (outline d, [])
parsed ts d same shallow =
    ap (json.value max_depth) (same ∙ sym (append-nil (json_tokens (outline d))))
    ∙ value-json_tokens (outline d) max_depth [] (omega (arith, depth-outline d))

pub reads_back_of : (text : List ℕ) (d : Data) → IsInOrder text d → has_float d ≡ false → (depth d ≤ max_depth → read text ≡ Some d) → ReadsBack d
reads_back_of text d order clean reads shallow =
    let found = parsed (tokens text) d (tokens_from_order text d order clean) shallow in (
      value-HasNumbers max_depth (tokens text) [] (outline d) (ArePrintableOrBad-tokens text) found,
      sym (ap whole found) ∙ reads shallow,
    )

-- what is read of a compact text
pub read-compact_text : (d : Data) → HasNumbers (outline d) → depth d ≤ max_depth → read (compact_text d) ≡ of_json (outline d)
read-compact_text d numbers shallow =
    ap whole (parsed (tokens (compact_text d)) d
    (ap tokens (sym (print-outline d)) ∙ tokens-print (json_tokens (outline d)) (ArePrintable-json_tokens (outline d) numbers)) shallow)
