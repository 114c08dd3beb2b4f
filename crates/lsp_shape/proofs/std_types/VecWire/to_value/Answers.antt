use Rattle.std.proofs.Common.{◌≡◌, ◌+◌, true, take, ap, ◌∙◌, subst, map, arith}
use Rattle.std.proofs.lemmas.Grind.{common_steps}
use Rattle.lsp_shape.proofs.Items.{items_of-written, one_written}
use Rattle.serde_json.proofs.Views.{view-Array}
use Rattle.serde_json.specs.Data.{array}
use Rattle.serde_json.specs.View.{view, items_of}
use Rattle.lsp_shape.specs.Plain.{parts_of}
use Rattle.lsp_shape.specs.Write.{write}
use Rattle.lsp_shape.specs.Values.{is_of, every}
use Rattle.lsp_shape.proofs.std_types.VecWire.to_value.Goals as goal

pub loop-x-preserved : goal.loop-x-preserved
loop-x-preserved g c =
    let before = c.loop-x.invariant.0 in
    let xs = c.deref-x-items.result.now in
    let one : map view c.push.new.self.items ≡ map (λ x. write g.T.Wire.shape (g.T.Wire.shown x)) (take (c.loop-x.x-index + 1) xs) = grind (arith, common_steps) in
    (one, one_written g.T.Wire.shown (is_of g.T.Wire.shape) xs c.loop-x.x-index c.x-item.result c.loop-x-test.true c.x-item.is c.loop-x.invariant.1 c.in_ok-to_value.ensures.of_shape)

pub returns : goal.returns
returns g c =
    let whole : take c.loop-x.x-index c.deref-x-items.result.now ≡ c.args.self.now.items = grind (arith, common_steps) in
    record {
      written = view-Array c.loop-x.items ∙ ap array (ap items_of (c.loop-x.invariant.0 ∙ ap (map (λ x. write g.T.Wire.shape (g.T.Wire.shown x))) whole) ∙ items_of-written g.T.Wire.shown (write g.T.Wire.shape) c.args.self.now.items);
      of_shape = subst (λ xs. every (is_of g.T.Wire.shape) (parts_of (map g.T.Wire.shown xs)) ≡ true) whole c.loop-x.invariant.1;
    }
