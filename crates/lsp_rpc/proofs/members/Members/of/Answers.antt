use Rattle.std.proofs.Common.{rules, ◌≡◌, ℕ, List, ◌∷◌, string_bytes, Option, codes, sym, ap, ◌∙◌}
use Rattle.serde_json.specs.Data.{Data, Members, member}
use Rattle.serde_json.specs.View.{view, members_view}
use Rattle.serde_json.proofs.Views.{Entry}
use Rattle.lsp_rpc.specs.Pieces.{first_member}
use Rattle.lsp_rpc.proofs.members.Members.of.Goals as goal

next : (key : List ℕ) (old new : Option Data) (all : Option Data) (es left : List Entry) (e : Entry) (name : List ℕ) → es ≡ e ∷ left → name ≡ string_bytes e.0 → ((rest : Members) → first_member key new rest ≡ first_member key old (member name (view e.1) rest))
    → first_member key old (members_view es) ≡ all → first_member key new (members_view left) ≡ all
next key old new all es left e name steps same keeps before =
    keeps (members_view left) ∙ ap (λ n. first_member key old (member n (view e.1) (members_view left))) same
    ∙ ap (λ es. first_member key old (members_view es)) (sym steps) ∙ before

pub loop-name-preserved : goal.loop-name-preserved
loop-name-preserved c =
    let same : c.as_str.result.now ≡ string_bytes c.in-Some.name = search rules in
    record {
      jsonrpc = next (codes "jsonrpc") _ _ _ _ _ _ _ c.in-Some.ensures.steps same c.keep.ensures.jsonrpc c.loop-name.invariant.jsonrpc;
      id = next (codes "id") _ _ _ _ _ _ _ c.in-Some.ensures.steps same c.keep.ensures.id c.loop-name.invariant.id;
      method = next (codes "method") _ _ _ _ _ _ _ c.in-Some.ensures.steps same c.keep.ensures.method c.loop-name.invariant.method;
      params = next (codes "params") _ _ _ _ _ _ _ c.in-Some.ensures.steps same c.keep.ensures.params c.loop-name.invariant.params;
      outcome = next (codes "result") _ _ _ _ _ _ _ c.in-Some.ensures.steps same c.keep.ensures.outcome c.loop-name.invariant.outcome;
      error = next (codes "error") _ _ _ _ _ _ _ c.in-Some.ensures.steps same c.keep.ensures.error c.loop-name.invariant.error;
    }
