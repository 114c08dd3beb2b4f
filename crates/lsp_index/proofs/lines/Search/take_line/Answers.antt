-- An empty line, a text, and a line that is none.
use Rattle.std.proofs.Common.{◌≡◌, ◌∙◌, sym, ap, subst, cond}
use Rattle.std.specs.Prelude.{None, option_and_then}
use Rattle.std.proofs.lemmas.Result.{IfOk-weaker}
use Rattle.serde_json.specs.Read as json_text
use Rattle.lsp_shape.specs.Read.{read}
use Rattle.lsp_lsif.specs.Entry.{entry_row}
use Rattle.lsp_index.specs.Entries.{value_of_line}
use Rattle.lsp_index.specs.Reading.{TookText}
use Rattle.lsp_index.proofs.ReadingLemmas.{took_empty, took_text, took_none}
use Rattle.lsp_index.proofs.lines.Search.take_line.Goals as goal

pub returns-then-is_empty-clause-took : goal.returns-then-is_empty-clause-took
returns-then-is_empty-clause-took c = took_empty c.args.self.now c.args.line.now (sym c.is_empty.ensures ∙ c.if-is_empty.true)

pub returns-in-Some-clause-took : goal.returns-in-Some-clause-took
returns-in-Some-clause-took c =
    let line = c.args.line.now in
    let value : option_and_then (read entry_row.shape) (json_text.read c.in-Some.text.now) ≡ value_of_line line =
    ap (λ l. option_and_then (read entry_row.shape) (json_text.read l)) c.in-Some.ensures.text
    ∙ ap (λ b. cond b (option_and_then (read entry_row.shape) (json_text.read line)) None) c.in-Some.ensures.test in
    IfOk-weaker c.take_text.result _ _ (λ good t. took_text c.args.self.now c.take_text.new.self line good (sym c.is_empty.ensures ∙ c.if-is_empty.false) (subst (λ v. TookText c.args.self.now v good c.take_text.new.self) value t)) c.take_text.ensures

pub returns-in-None-clause-took : goal.returns-in-None-clause-took
returns-in-None-clause-took c =
    rw c.refuse.ensures.0 (took_none c.args.self.now c.refuse.new.self c.args.line.now (sym c.is_empty.ensures ∙ c.if-is_empty.false) (ap (λ b. cond b (option_and_then (read entry_row.shape) (json_text.read c.args.line.now)) None) (sym c.in-None.ensures.test)) c.refuse.ensures.1)
