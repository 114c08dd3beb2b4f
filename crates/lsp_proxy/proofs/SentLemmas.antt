-- What is sent to each editor, the last one kept back.
use Rattle.std.proofs.Common.{ℕ, List, [], ◌∷◌, Option, Some, None}
use Rattle.lsp_rpc.specs.Message.{RequestData, MessageData, request}
use Rattle.lsp_proxy.specs.declared.side.Side.{Side}
use Rattle.lsp_proxy.specs.declared.side.Side.TheVariants.{Editor}

abbrev pub to_editor : RequestData → ℕ → Side × MessageData
to_editor r k = (Editor k, request r)

abbrev pub kept_back : RequestData → Option ℕ → List (Side × MessageData)
kept_back r None = []
kept_back r (Some k) = to_editor r k ∷ []
