use Rattle.lsp_lsif.specs.Vertex.{vertex_row, vertex_shape}
use Rattle.lsp_lsif.specs.Labels.{labels}
use Rattle.lsp_lsif.proofs.Tagged.{unnamed}
use Rattle.lsp_lsif.proofs.labels.VertexLabel.named.Goals as goal

pub returns-in_default : goal.returns-in_default
unfolding vertex_row vertex_shape
returns-in_default c =
    unnamed c.args.text.now (labels vertex_row.shape) (c.in_default.not-metaData, (c.in_default.not-project, (c.in_default.not-document, (c.in_default.not-range, (c.in_default.not-resultSet, (c.in_default.not-moniker, (c.in_default.not-packageInformation, (c.in_default.not-text, (c.in_default.not-definitionResult, (c.in_default.not-declarationResult, (c.in_default.not-typeDefinitionResult, (c.in_default.not-referenceResult, (c.in_default.not-implementationResult, (c.in_default.not-foldingRangeResult, (c.in_default.not-hoverResult, (c.in_default.not-documentSymbolResult, (c.in_default.not-documentLinkResult, (c.in_default.not-diagnosticResult, tt))))))))))))))))))
