-- What a session comes to over the reads of a call.
use Rattle.std.proofs.Common.{◌≡◌, ◌≤◌, ℕ, List, [], length, refl, subst, true, false, arith}
use Rattle.std.specs.Prelude.{Option, Some, Result, Ok, Err, IfErr, IfSome, IfNone}
use Rattle.std.specs.Result.{result_err}
use Rattle.std.specs.Io.KnownBytes.{Consumes, Appends}
use Rattle.lsp_desk.specs.Meaning.{Meaning, Grown}
use Rattle.lsp_desk.specs.declared.desk.Caller.{Ghosts as CallerGhosts}
use Rattle.lsp_frame.specs.Codec.{At, start_by as start_codec, more, items_at}
use Rattle.lsp_frame.specs.declared.settings.CodecSettings.{CodecSettings}
use Rattle.lsp_session.specs.declared.handlers.Handlers.{Ghosts as HandlersGhosts}
use Rattle.lsp_session.specs.declared.session.Session.{Session}
use Rattle.lsp_session.specs.Semantics.{Semantics, IsLawfulHandlers}
use Rattle.lsp_session.specs.State.{State}
use Rattle.lsp_session.specs.Run.{Order, Picked, Step, served}
use Rattle.lsp_server.specs.declared.step.ServeError.{ServeError}
use Rattle.lsp_server.specs.declared.step.ServeError.TheVariants.{ReadFault, WriteFault, ReadsSpent, DeskSpent, NoMemory}
use Rattle.lsp_server.specs.Errors.{IsBetweenReads, EndsInStep, StaysWhole, SaysSpent}
use Rattle.lsp_server.specs.Items.{all_admitted, stream_items, Decodes}
use Rattle.lsp_server.specs.Course.{Course}
use Rattle.lsp_server.specs.Written.{Ran, IsPartOf}
use Rattle.lsp_server.specs.Served.{ServedTold, call_bytes, RanFrom, ReadEnough, RanTold, AllAnswered, WrotePart, ServesOver}
use Rattle.lsp_server.specs.Reads.{Moment, Made, InOrder}
use Rattle.lsp_server.specs.Consuming.{Given, piece, end, ConsumerOutcome, goes_on, done, stops, last_outcome, Did, Took, AllTook, bytes_of, IsTimely, TookLast}
use Rattle.lsp_server.specs.Serving.{after_taking, IsIdle, Here, find_here, IsOpen, Serves, serves}
use Rattle.lsp_server.specs.ServerView.{spot}
use Rattle.lsp_server.specs.Steps.{MayServe}
use Rattle.lsp_server.proofs.KnownLemmas.{consumes_none, end_before}
use Rattle.lsp_server.proofs.OrderLemmas.{made_in_order}
use Rattle.lsp_server.proofs.RanLemmas.{ran_onto, ran_grown, grown_after}
use Rattle.lsp_server.proofs.ServesLemmas.{told_onto, serves_lawful}
use Rattle.lsp_server.proofs.ServingLemmas.{Serving, way_from, exact, at_exit, enough_at_exit, at_end, enough_at_end, wrote_before, wrote_within, wrote_at_end}

-- ---- whatever is known of the bytes

module _ {H D C T P : Type 0} (semantics : Semantics H C T) (m : Meaning D) (order : Order P) (a b : Here semantics m order) (start now : Moment) where
  took_idle : Took (serves semantics m order) a start now b → IsIdle b
  took_idle t = t.did.does.0.idle

  pub took_open : Took (serves semantics m order) a start now b → IsOpen semantics m order b
  took_open t = t.did.does.1

  took_grown : Took (serves semantics m order) a start now b → Grown m a.desk b.desk
  took_grown t = ran_grown (after_taking (Some []) a) (after_taking (Some t.did.written) b) (all_admitted t.did.does.0.told.given) t.did.does.0.told.ran

module _ {H D C T P : Type 0} (semantics : Semantics H C T) (m : Meaning D) (order : Order P) where
  done_idle : (a b : Here semantics m order) (given : Given) (written : List ℕ) → Serves semantics m order a given done written b → IsIdle b
  done_idle a b (piece bytes) written d = d.idle
  done_idle a b end written d = d.idle

  stops_spent : (a b : Here semantics m order) (given : Given) (e : ServeError) (written : List ℕ) → Serves semantics m order a given (stops e) written b → SaysSpent m b.desk e
  stops_spent a b (piece bytes) e written d = d.spent
  stops_spent a b end e written d = d.spent

  step_grown : (a b : Here semantics m order) (given : Given) (outcome : ConsumerOutcome) (written : List ℕ) → Serves semantics m order a given outcome written b → Grown m a.desk b.desk
  step_grown a b (piece bytes) goes_on written d = ran_grown (after_taking (Some []) a) (after_taking (Some written) b) (all_admitted d.0.told.given) d.0.told.ran
  step_grown a b (piece bytes) done written d = ran_grown (after_taking (Some []) a) (after_taking (Some written) b) (all_admitted d.told.given) d.told.ran
  step_grown a b (piece bytes) (stops e) written d = d.grown
  step_grown a b end goes_on written d = absurd d
  step_grown a b end done written d = ran_grown (after_taking (Some []) a) (after_taking (Some written) b) (served (find_here semantics m order a) (all_admitted (items_at a.codec))) d.ran
  step_grown a b end (stops e) written d = d.grown

  module _ (a b : Here semantics m order) (start now : Moment) (size : ℕ) where
    last_grown : (outcome : ConsumerOutcome) → TookLast (serves semantics m order) a start now size outcome b → Grown m a.desk b.desk
    last_grown outcome t =
        grown_after (after_taking (Some []) a) (after_taking (Some t.took.did.written) t.mid) b.desk (all_admitted t.took.did.does.0.told.given) t.took.did.does.0.told.ran
        (step_grown t.mid b t.last outcome t.did.written t.did.does)

    last_idle : TookLast (serves semantics m order) a start now size done b → IsIdle b
    last_idle t = done_idle t.mid b t.last t.did.written t.did.does

    last_spent : (e : ServeError) → TookLast (serves semantics m order) a start now size (stops e) b → SaysSpent m b.desk e
    last_spent e t = stops_spent t.mid b t.last e t.did.written t.did.does

    module _ {A : Type 0} where
      pub all_grown : (r : Result A ServeError) → (EndsInStep r → TookLast (serves semantics m order) a start now size (last_outcome r) b) → IfErr r (λ e. IsBetweenReads e → Took (serves semantics m order) a start now b)
          → Grown m a.desk b.desk
      all_grown (Ok x) last took = last_grown done (last tt)
      all_grown (Err ReadFault) last took = took_grown semantics m order a b start now (took tt)
      all_grown (Err WriteFault) last took = last_grown (stops WriteFault) (last tt)
      all_grown (Err ReadsSpent) last took = took_grown semantics m order a b start now (took tt)
      all_grown (Err (DeskSpent n)) last took = last_grown (stops (DeskSpent n)) (last tt)
      all_grown (Err NoMemory) last took = last_grown (stops NoMemory) (last tt)

      pub all_spent : (r : Result A ServeError) → (EndsInStep r → TookLast (serves semantics m order) a start now size (last_outcome r) b) → IfErr r (SaysSpent m b.desk)
      all_spent (Ok x) last = tt
      all_spent (Err (DeskSpent n)) last = last_spent (DeskSpent n) (last tt)
      all_spent (Err ReadFault) last = tt
      all_spent (Err WriteFault) last = tt
      all_spent (Err ReadsSpent) last = tt
      all_spent (Err NoMemory) last = tt

  pub all_idle : {A : Type 0} (a b : Here semantics m order) (start now : Moment) (size : ℕ) (r : Result A ServeError) → (EndsInStep r → TookLast (serves semantics m order) a start now size (last_outcome r) b)
      → IfErr r (λ e. IsBetweenReads e → Took (serves semantics m order) a start now b) → StaysWhole r → IsIdle b
  all_idle a b start now size (Ok x) last took whole = last_idle a b start now size (last tt)
  all_idle a b start now size (Err e) last took whole = took_idle semantics m order a b start now (took whole)

-- a session that stands open may be served on
pub may_serve : {H D C T P : Type 0} {h : HandlersGhosts H D C T} {d : CallerGhosts D} (semantics : Semantics H C T) (m : Meaning D) (order : Order P) (session : Session H D C T h d) (p : P) (codec : At) (rounds : ℕ)
    → IsOpen semantics m order (spot semantics m session p codec rounds) → MayServe semantics m session
may_serve semantics m order session p codec rounds is = record { ready = record { running = is.idle.running; taken = is.idle.taken }; alive = is.lives; unexited = is.exited }

-- ---- where the bytes are told

module _ {H D C T P : Type 0} (semantics : Semantics H C T) (laws : IsLawfulHandlers semantics) (m : Meaning D) (order : Order P) (settings : CodecSettings)
    (a : Here semantics m order) (fresh : a.codec ≡ start_codec settings) (bytes : List ℕ) where
  abbrev way : Course (Picked (State H semantics.Call semantics.Task) P) D
  way = way_from semantics m order a.rounds settings (after_taking (Some []) a)

  serving_of : (b : Here semantics m order) (left1 taken0 taken1 : Option (List ℕ)) (fed : List ℕ) → Consumes (Some bytes) left1 fed → Did (serves semantics m order) a (piece fed) goes_on taken0 taken1 b
      → Serving semantics m order a.rounds settings (after_taking taken0 a) (Some bytes) (after_taking taken1 b) left1 b.codec
  serving_of b left1 taken0 taken1 fed gives d =
      let told = told_onto false (find_here semantics m order a) a b (more a.codec fed) b.codec d.written taken0 taken1 d.does.0.told d.writes in
      record {
        fed = fed;
        gives = gives;
        going = record {
          given = told.given;
          decodes = subst (λ k. Decodes (more k fed) told.given b.codec) fresh told.decodes;
          ran = told.ran;
          none = told.ends.0;
          goes_on = record { exited = d.does.1.exited; lives = d.does.1.lives };
        };
        told = told.ends.1;
      }

  module _ (start : Moment) (is : start.left ≡ Some bytes) where
    took_serving : (b : Here semantics m order) (now : Moment) → (t : Took (serves semantics m order) a start now b)
        → Serving semantics m order a.rounds settings (after_taking start.taken a) (Some bytes) (after_taking now.taken b) now.left b.codec
    took_serving b now t = serving_of b now.left start.taken now.taken t.read (subst (λ l. Consumes l now.left t.read) is t.gives) t.did

    between : (b : Here semantics m order) (now : Moment) → Took (serves semantics m order) a start now b → RanTold way (call_bytes bytes now.left start.taken now.taken) b.state b.desk
    between b now t = exact laws (after_taking start.taken a) bytes (after_taking now.taken b) now.left b.codec (took_serving b now t)

    all_answered : (now : Moment) → AllTook (serves semantics m order) a start now → AllAnswered way bytes start now
    all_answered now t = record { desk = t.consumer.desk; wrote = record { last = t.consumer.state; told = between t.consumer now t.took }; flushed = t.flushed }

    -- ---- the last step

    module _ (mid : Here semantics m order) (middle : Moment) (took : Took (serves semantics m order) a start middle mid) (b : Here semantics m order) (now : Moment) where
      abbrev here : Serving semantics m order a.rounds settings (after_taking start.taken a) (Some bytes) (after_taking middle.taken mid) middle.left mid.codec
      here = took_serving mid middle took

      empty_before : Consumes middle.left now.left [] → IsTimely end start.left now.left → (middle.left ≡ Some []) × (now.left ≡ Some [])
      empty_before gives timely =
          let after : now.left ≡ Some [] = rw is at timely in
          (end_before bytes took.read middle.left now.left (subst (λ l. Consumes l middle.left took.read) is took.gives) gives after, after)

      told_of : (xs : List ℕ) → Did (serves semantics m order) mid (piece xs) done middle.taken now.taken b
          → ServedTold (Step semantics order a.rounds) m (find_here semantics m order mid) (after_taking middle.taken mid) (more mid.codec xs) true (after_taking now.taken b) b.codec
      told_of xs d =
          told_onto true (find_here semantics m order mid) mid b (more mid.codec xs) b.codec d.written middle.taken now.taken
          (subst (λ n. ServedTold (Step semantics order n) m (find_here semantics m order mid) (after_taking (Some []) mid) (more mid.codec xs) true (after_taking (Some d.written) b) b.codec) took.did.does.0.rounds d.does.told) d.writes

      done_at : (last : Given) → Consumes middle.left now.left (bytes_of last) → IsTimely last start.left now.left → Did (serves semantics m order) mid last done middle.taken now.taken b
          → RanFrom way (call_bytes bytes now.left start.taken now.taken) (served (find_here semantics m order a) (stream_items settings bytes)) b.state b.desk
      done_at (piece xs) gives timely d =
          at_exit laws (after_taking start.taken a) bytes (after_taking middle.taken mid) middle.left mid.codec here now.left xs gives (after_taking now.taken b) b.codec (told_of xs d)
      done_at end gives timely d =
          let items = served (find_here semantics m order mid) (all_admitted (items_at mid.codec)) in
          let ran = ran_onto (after_taking (Some []) mid) (after_taking (Some d.written) b) items d.written middle.taken now.taken refl refl
          (subst (λ n. Ran (Step semantics order n) m (after_taking (Some []) mid) items (after_taking (Some d.written) b)) took.did.does.0.rounds d.does.ran) d.writes in
          at_end laws (after_taking start.taken a) bytes (after_taking middle.taken mid) middle.left mid.codec here now.left (after_taking now.taken b) (empty_before gives timely).0 ran

      enough_at : (size : ℕ) (last : Given) → Consumes middle.left now.left (bytes_of last) → length (bytes_of last) ≤ size → IsTimely last start.left now.left → Did (serves semantics m order) mid last done middle.taken now.taken b
          → ReadEnough way (call_bytes bytes now.left start.taken now.taken) size
      enough_at size (piece xs) gives short timely d =
          enough_at_exit laws (after_taking start.taken a) bytes (after_taking middle.taken mid) middle.left mid.codec here now.left xs gives (after_taking now.taken b) b.codec (told_of xs d) size short
      enough_at size end gives short timely d =
          enough_at_end laws (after_taking start.taken a) bytes (after_taking middle.taken mid) middle.left mid.codec here now.left now.taken size (empty_before gives timely).0 (empty_before gives timely).1

      part_at : (size : ℕ) (last : Given) (e : ServeError) → Consumes middle.left now.left (bytes_of last) → length (bytes_of last) ≤ size → IsTimely last start.left now.left
          → (written : List ℕ) → Serves semantics m order mid last (stops e) written b → Appends middle.taken now.taken written → WrotePart way (call_bytes bytes now.left start.taken now.taken) size b.desk
      part_at size (piece xs) e gives short timely written d writes =
          wrote_within laws (after_taking start.taken a) bytes (after_taking middle.taken mid) middle.left mid.codec here now.left now.taken b.desk xs size gives short
          (λ c. record {
            written = written;
            part = subst (λ n. IsPartOf (Step semantics order n) m mid.state mid.desk (served (find_here semantics m order mid) (all_admitted (items_at (more (more mid.codec xs) c)))) written b.desk) took.did.does.0.rounds (d.part c);
            writes = writes;
          })
      part_at size end e gives short timely written d writes =
          wrote_at_end laws (after_taking start.taken a) bytes (after_taking middle.taken mid) middle.left mid.codec here now.left now.taken b.desk size (empty_before gives timely).0 (empty_before gives timely).1
          (record {
            written = written;
            part = subst (λ n. IsPartOf (Step semantics order n) m mid.state mid.desk (served (find_here semantics m order mid) (all_admitted (items_at mid.codec))) written b.desk) took.did.does.0.rounds d.part;
            writes = writes;
          })

    module _ (b : Here semantics m order) (now : Moment) (size : ℕ) where
      done_all : TookLast (serves semantics m order) a start now size done b
          → RanFrom way (call_bytes bytes now.left start.taken now.taken) (served (find_here semantics m order a) (stream_items settings bytes)) b.state b.desk
      done_all t = done_at t.mid t.middle t.took b now t.last t.gives t.timely t.did

      done_enough : TookLast (serves semantics m order) a start now size done b → ReadEnough way (call_bytes bytes now.left start.taken now.taken) size
      done_enough t = enough_at t.mid t.middle t.took b now size t.last t.gives t.short t.timely t.did

      -- whatever came of the last step, a part was written
      last_part : (outcome : ConsumerOutcome) → TookLast (serves semantics m order) a start now size outcome b → WrotePart way (call_bytes bytes now.left start.taken now.taken) size b.desk
      last_part outcome t =
          part_at t.mid t.middle t.took b now size t.last NoMemory t.gives t.short t.timely t.did.written
          ((serves_lawful semantics laws m order).refused t.mid b t.last outcome t.did.written NoMemory t.did.does tt) t.did.writes

      between_part : Took (serves semantics m order) a start now b → WrotePart way (call_bytes bytes now.left start.taken now.taken) size b.desk
      between_part t =
          wrote_before laws (after_taking start.taken a) bytes (after_taking now.taken b) now.left b.codec (took_serving b now t) now.left [] size (consumes_none now.left) (omega arith)

      all_part : {A : Type 0} (r : Result A ServeError) → (EndsInStep r → TookLast (serves semantics m order) a start now size (last_outcome r) b) → IfErr r (λ e. IsBetweenReads e → Took (serves semantics m order) a start now b)
          → WrotePart way (call_bytes bytes now.left start.taken now.taken) size b.desk
      all_part (Ok x) last took = last_part done (last tt)
      all_part (Err ReadFault) last took = between_part (took tt)
      all_part (Err WriteFault) last took = last_part (stops WriteFault) (last tt)
      all_part (Err ReadsSpent) last took = between_part (took tt)
      all_part (Err (DeskSpent n)) last took = last_part (stops (DeskSpent n)) (last tt)
      all_part (Err NoMemory) last took = last_part (stops NoMemory) (last tt)

      -- ---- all of it, by the answer

      ok_of : {A : Type 0} (r : Result A ServeError) → (EndsInStep r → TookLast (serves semantics m order) a start now size (last_outcome r) b)
          → IfNone (result_err r) (RanFrom way (call_bytes bytes now.left start.taken now.taken) (served (find_here semantics m order a) (stream_items settings bytes)) b.state b.desk)
      ok_of (Ok x) last = done_all (last tt)
      ok_of (Err e) last = tt

      enough_of : {A : Type 0} (r : Result A ServeError) → (EndsInStep r → TookLast (serves semantics m order) a start now size (last_outcome r) b)
          → IfNone (result_err r) (ReadEnough way (call_bytes bytes now.left start.taken now.taken) size)
      enough_of (Ok x) last = done_enough (last tt)
      enough_of (Err e) last = tt

      exact_of : {A : Type 0} (r : Result A ServeError) → IfErr r (λ e. IsBetweenReads e → Took (serves semantics m order) a start now b)
          → IfSome (result_err r) (λ e. IsBetweenReads e → RanTold way (call_bytes bytes now.left start.taken now.taken) b.state b.desk)
      exact_of (Ok x) took = tt
      exact_of (Err e) took = λ is. between b now (took is)

      pub serves_over : {A : Type 0} (reads reads_after : Option (List Moment)) (r : Result A ServeError) → (EndsInStep r → TookLast (serves semantics m order) a start now size (last_outcome r) b)
          → IfErr r (λ e. IsBetweenReads e → Took (serves semantics m order) a start now b) → Made reads reads_after (InOrder (AllTook (serves semantics m order) a start))
          → ServesOver way bytes start now reads reads_after size b.state b.desk (result_err r)
      serves_over reads reads_after r last took made = record {
        ok = ok_of r last;
        enough = enough_of r last;
        exact = exact_of r took;
        part = all_part r last took;
        in_order = made_in_order reads reads_after (AllTook (serves semantics m order) a start) (AllAnswered way bytes start) all_answered made;
      }
