use Rattle.std.proofs.Common.{◌∙◌}
use Rattle.serde_json.specs.View.{view}
use Rattle.lsp_shape.proofs.Refusals.{refuses_leads}
use Rattle.lsp_lang_goto.specs.Tree.{document_symbol_shape, document_symbol_level}
use Rattle.lsp_lang_goto.proofs.Unrolled.{read-level}
use Rattle.lsp_lang_goto.proofs.tree.DocumentSymbolWire.from_value.Goals as goal

pub returns-clause-read : goal.returns-clause-read
returns-clause-read c = rw (read-level (view c.args.value.now)) c.read_symbol.ensures.read

pub returns-clause-unfit : goal.returns-clause-unfit
returns-clause-unfit c = λ why is. refuses_leads {s = document_symbol_level.shape} {t = document_symbol_shape} (λ e none. read-level e ∙ none) (c.read_symbol.ensures.unfit why is)
