use Rattle.std.proofs.Common.{List, ℕ, Bor, refl, ap, ◌∙◌, arith}
use Rattle.lsp_shape.proofs.Firsts.{first_or_all}
use Rattle.lsp_shape.proofs.why.MemberName.as_bytes.Goals as goal

pub returns : goal.returns
returns c = ap (λ (b : Bor (List ℕ)). b.now) c.unwrap_or.ensures ∙ first_or_all c.args.self.now.bytes c.args.self.now.len c.from.result c.get.result _ (omega arith) refl c.get.ensures.lookup
