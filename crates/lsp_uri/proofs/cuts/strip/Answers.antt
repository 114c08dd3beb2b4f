use Rattle.std.proofs.lemmas.Str.Pattern.{strip_prefix_char}
use Rattle.lsp_uri.proofs.CutLemmas.{stripped_by}
use Rattle.lsp_uri.proofs.cuts.strip.Goals as goal

pub returns : goal.returns
returns c = stripped_by _ _ _ (strip_prefix_char _ _ _ c.strip_prefix.ensures.cases c.requires)
