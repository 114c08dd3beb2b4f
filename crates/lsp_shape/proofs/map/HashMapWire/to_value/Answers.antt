use Rattle.std.proofs.Common.{◌≡◌, true, sym, ap, ◌∙◌, subst, refl}
use Rattle.serde_json.specs.Data.{object}
use Rattle.serde_json.specs.View.{members_view}
use Rattle.serde_json.proofs.Views.{view-Object}
use Rattle.lsp_shape.specs.Plain.{no_parts, put_entry}
use Rattle.lsp_shape.specs.Write.{write, write_entries}
use Rattle.lsp_shape.specs.Values.{is_of, every, is_entry}
use Rattle.lsp_shape.proofs.Tables.{puts, puts-entries_of, wrote_more, every-put}
use Rattle.lsp_shape.proofs.map.HashMapWire.to_value.Goals as goal

pub loop-key-init : goal.loop-key-init
loop-key-init g c =
    let start : c.into_iter-key-iterator.result ≡ c.args.self.now.entries = cc in
    (no_parts, ap members_view c.new-object.ensures.empty, ap (λ es. puts g.K.Key.key_text g.T.Wire.shown es no_parts) start, refl)

pub loop-key-preserved : goal.loop-key-preserved
loop-key-preserved g c =
    let before = c.loop-key.invariant in
    let done = before.0 in
    let text = g.K.Key.key_text c.in-Some.key.now in
    let value = g.T.Wire.shown c.in-Some.value.now in
    let steps = c.in-Some.ensures.steps in (
      put_entry text value done,
      wrote_more (write g.T.Wire.shape) c.as_text.result.now text value done (members_view c.put.new.object.entries) (members_view c.loop-key.object.entries) c.in_ok-put.ensures.ok c.as_text.ensures.shown before.1,
      ap (λ es. puts g.K.Key.key_text g.T.Wire.shown es done) (sym steps) ∙ before.2,
      every-put g.K.Key.is_key (is_of g.T.Wire.shape) text value done c.as_text.ensures.fits c.in_ok-put.ensures.of_shape before.3,
    )

pub returns-clause-written : goal.returns-clause-written
returns-clause-written g c =
    let before = c.loop-key.invariant in
    let whole = ap (λ es. puts g.K.Key.key_text g.T.Wire.shown es before.0) (sym c.in-None.ensures.steps.0) ∙ before.2
    ∙ puts-entries_of g.K.Key.key_text g.T.Wire.shown g.K.PartialEq.eq g.met.K.Key.told_by_text c.args.self.now.entries c.iter-key-items.ensures.unique in
    view-Object c.loop-key.object ∙ ap object (before.1 ∙ ap (write_entries (write g.T.Wire.shape)) whole)

pub returns-clause-of_shape : goal.returns-clause-of_shape
returns-clause-of_shape g c =
    let before = c.loop-key.invariant in
    let whole = ap (λ es. puts g.K.Key.key_text g.T.Wire.shown es before.0) (sym c.in-None.ensures.steps.0) ∙ before.2
    ∙ puts-entries_of g.K.Key.key_text g.T.Wire.shown g.K.PartialEq.eq g.met.K.Key.told_by_text c.args.self.now.entries c.iter-key-items.ensures.unique in
    subst (λ ps. every (is_entry g.K.Key.is_key (is_of g.T.Wire.shape)) ps ≡ true) whole before.3
