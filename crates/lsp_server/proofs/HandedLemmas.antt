-- What a run over all of a source's bytes hands back.
use Rattle.std.proofs.Common.{◌≡◌, ◌∙◌, ℕ, Bool, [], refl, ap, arith}
use Rattle.lsp_desk.specs.Meaning.{Meaning}
use Rattle.lsp_session.specs.Semantics.{Semantics, IsLawfulHandlers}
use Rattle.lsp_session.specs.State.{IsSettled, opening_by}
use Rattle.lsp_session.specs.Run.{Order, served}
use Rattle.lsp_session.specs.Session.{SessionView}
use Rattle.lsp_session.proofs.CountLemmas.{run_counts}
use Rattle.lsp_server.specs.Items.{stream_items}
use Rattle.lsp_server.specs.Course.{Setting, codec_of, opening_view, picked, course}
use Rattle.lsp_server.specs.Served.{CallBytes, RanFrom, handed_back, IsServed}

opening_settled : {H C T : Type 0} (service : H) (max wait : ℕ) (empty : Bool) → IsSettled (opening_by {H = H} {C = C} {T = T} service max wait empty)
opening_settled service max wait empty = record { ids_differ = tt; slots_few = omega arith; slots_full = λ h. absurd (omega (arith, h)) }

-- the session that a server makes of what it is given
pub opened : {H D C T P : Type 0} (setting : Setting H D P) (made : SessionView H D C T) (desk : D) → desk ≡ setting.desk
    → made ≡ record { desk = desk; state = opening_by setting.service setting.max setting.wait setting.empty_params; out = [] } → made ≡ opening_view setting
opened {H} {D} {C} {T} setting made desk desk_is made_is =
    made_is ∙ ap (λ (d : D). record { desk = d; state = opening_by setting.service setting.max setting.wait setting.empty_params; out = [] }) desk_is

module _ {H D C T P : Type 0} {semantics : Semantics H C T} (laws : IsLawfulHandlers semantics) (m : Meaning D) (order : Order P) (setting : Setting H D P) (call : CallBytes) where
  pub is_served : (view : SessionView H D semantics.Call semantics.Task) (p : P) → RanFrom (course semantics m order setting) call (served (semantics.find setting.service) (stream_items (codec_of setting) call.bytes)) (picked view p) view.desk
      → m.now view.desk ≡ view.state.desk → IsServed (course semantics m order setting) call (handed_back view) p
  is_served view p ran desk = record {
    last = picked view p;
    ran = ran;
    service_is = refl;
    desk_is = desk;
    exited_is = refl;
    unanswered_is = refl;
    pick_is = refl;
    counts = run_counts semantics order setting.rounds laws (course semantics m order setting).start (picked view p) (served (semantics.find setting.service) (stream_items (codec_of setting) call.bytes)) ran.effect
        (opening_settled setting.service setting.max setting.wait setting.empty_params) refl ran.run;
  }
