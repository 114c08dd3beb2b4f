-- What a relay comes to over a call.
use Rattle.std.proofs.Common.{◌≡◌, ◌≤◌, ℕ, List, [], length, refl, sym, ap, subst, arith}
use Rattle.std.specs.Prelude.{◌≢◌, Option, Some, Result, Ok, Err, IfErr}
use Rattle.std.specs.Io.KnownBytes.{Consumes, Appends}
use Rattle.std.proofs.lemmas.List.{append-nil}
use Rattle.lsp_frame.specs.Codec.{At, start as start_codec, more, items_at, told_at, default_limits}
use Rattle.lsp_server.specs.declared.step.ServeError.{ServeError}
use Rattle.lsp_server.specs.declared.step.ServeError.TheVariants.{ReadFault, WriteFault, ReadsSpent, DeskSpent, NoMemory}
use Rattle.lsp_server.specs.Errors.{IsBetweenReads, IsInStep, EndsInStep, ComesOfSink}
use Rattle.lsp_server.specs.Items.{Decodes}
use Rattle.lsp_server.specs.Served.{call_bytes}
use Rattle.lsp_server.specs.Reads.{Moment}
use Rattle.lsp_server.specs.Written.{IsPrefixOf}
use Rattle.lsp_server.specs.Consuming.{Given, piece, end, ConsumerOutcome, done, stops, last_outcome, Did, Took as TookBytes, AllTook, bytes_of, IsTimely, TookLast}
use Rattle.lsp_server.proofs.KnownLemmas.{appends_none, appends_more, consumes_none, end_before}
use Rattle.lsp_server.proofs.TakingLemmas.{did_none}
use Rattle.lsp_relay.specs.Relay.{RelayPlace, opening_place, events, TookItems, IsRelayed, RelayWroteTold, AllPassed, RelayWrotePart}
use Rattle.lsp_relay.specs.Relaying.{Stand, MayRelay, frames_from, Relays, relays}
use Rattle.lsp_relay.proofs.RelaysLemmas.{relays_lawful}
use Rattle.lsp_relay.proofs.GoingLemmas.{Going, exact, at_end, wrote_before, wrote_within}

-- nothing was taken
pub opened : (editors : ℕ) (a : Stand) → a.place ≡ opening_place editors → a.codec ≡ start_codec default_limits → MayRelay a
opened editors a opening fresh =
    let passed : a.place.passed ≡ 0 = ap (λ (p : RelayPlace). p.passed) opening in
    let dropped : a.place.dropped ≡ 0 = ap (λ (p : RelayPlace). p.dropped) opening in
    record { empty = ap (λ (p : RelayPlace). p.waiting) opening; told = ap told_at fresh; passed = omega (arith, passed); dropped = omega (arith, dropped) }

-- an error of the last step is one of the sink or of memory
of_sink : (a b : Stand) (given : Given) (e : ServeError) (written : List ℕ) → Relays a given (stops e) written b → ComesOfSink e
of_sink a b (piece bytes) e written d = d.0
of_sink a b end e written d = d.0

pub no_desk_of : (a b : Stand) (begin now : Moment) (size : ℕ) (e : ServeError) → (IsInStep e → TookLast relays a begin now size (stops e) b) → (n : ℕ) → e ≢ DeskSpent n
no_desk_of a b begin now size (DeskSpent n) last = let t = last tt in absurd (of_sink t.mid b t.last (DeskSpent n) t.did.written t.did.does)
no_desk_of a b begin now size ReadFault last = λ n is. absurd (cc)
no_desk_of a b begin now size WriteFault last = λ n is. absurd (cc)
no_desk_of a b begin now size ReadsSpent last = λ n is. absurd (cc)
no_desk_of a b begin now size NoMemory last = λ n is. absurd (cc)

-- nothing more was written
going_on : {bytes : List ℕ} (editors : ℕ) (left1 taken0 taken1 taken2 : Option (List ℕ)) (place : RelayPlace) (codec : At) → Going editors (Some bytes) left1 taken0 taken1 place codec → Appends taken1 taken2 []
    → Going editors (Some bytes) left1 taken0 taken2 place codec
going_on editors left1 taken0 taken1 taken2 place codec going nothing = record {
  fed = going.fed;
  gives = going.gives;
  given = going.given;
  decodes = going.decodes;
  written = going.written;
  took = going.took;
  empty = going.empty;
  writes = subst (λ l. Appends taken0 taken2 l) (append-nil going.written) (appends_more taken0 taken1 taken2 going.written [] going.writes nothing);
  told = going.told;
}

-- ---- where the bytes are told

module _ (editors : ℕ) (a : Stand) (opening : a.place ≡ opening_place editors) (fresh : a.codec ≡ start_codec default_limits) (bytes : List ℕ) (begin : Moment) (is : begin.left ≡ Some bytes) where
  going : (b : Stand) (now : Moment) → TookBytes relays a begin now b → Going editors (Some bytes) now.left begin.taken now.taken b.place b.codec
  going b now t = record {
    fed = t.read;
    gives = subst (λ l. Consumes l now.left t.read) is t.gives;
    given = t.did.does.given;
    decodes = subst (λ k. Decodes (more k t.read) t.did.does.given b.codec) fresh t.did.does.decodes;
    written = t.did.written;
    took = subst (λ p. TookItems p t.did.does.given (record b.place { waiting = t.did.written })) opening t.did.does.took;
    empty = t.did.does.opened.empty;
    writes = t.did.writes;
    told = t.did.does.opened.told;
  }

  pub between : (b : Stand) (now : Moment) → TookBytes relays a begin now b → RelayWroteTold editors (call_bytes bytes now.left begin.taken now.taken)
  between b now t = exact editors bytes now.left begin.taken now.taken b.place b.codec (going b now t)

  pub all_passed : (now : Moment) → AllTook relays a begin now → AllPassed editors bytes begin now
  all_passed now t = record { wrote = between t.consumer now t.took; flushed = t.flushed }

  -- ---- the last step

  module _ (mid : Stand) (middle : Moment) (took : TookBytes relays a begin middle mid) (b : Stand) (now : Moment) where
    empty_before : Consumes middle.left now.left [] → IsTimely end begin.left now.left → (middle.left ≡ Some []) × (now.left ≡ Some [])
    empty_before gives timely =
        let after : now.left ≡ Some [] = rw is at timely in
        (end_before bytes took.read middle.left now.left (subst (λ l. Consumes l middle.left took.read) is took.gives) gives after, after)

    -- at the end nothing is written
    done_at : (last : Given) → Consumes middle.left now.left (bytes_of last) → IsTimely last begin.left now.left → Did relays mid last done middle.taken now.taken b
        → IsRelayed editors (call_bytes bytes now.left begin.taken now.taken) b.place.passed b.place.dropped
    done_at (piece xs) gives timely d = absurd d.does
    done_at end gives timely d =
        let ends = empty_before gives timely in
        let so_far = going mid middle took in
        at_end editors bytes middle.left begin.taken now.taken mid.place mid.codec
        (going_on editors middle.left begin.taken middle.taken now.taken mid.place mid.codec so_far (subst (λ l. Appends middle.taken now.taken l) d.does.none d.writes))
        now.left ends.0 ends.1 b.place d.does.took d.does.silent

    part_at : (size : ℕ) (last : Given) (e : ServeError) → Consumes middle.left now.left (bytes_of last) → length (bytes_of last) ≤ size
        → (written : List ℕ) → Relays mid last (stops e) written b → Appends middle.taken now.taken written → RelayWrotePart editors (call_bytes bytes now.left begin.taken now.taken) size
    part_at size (piece xs) e gives short written d writes =
        wrote_within editors bytes middle.left begin.taken middle.taken mid.place mid.codec (going mid middle took) now.left now.taken xs size gives short written d.1 writes
    part_at size end e gives short written d writes =
        wrote_within editors bytes middle.left begin.taken middle.taken mid.place mid.codec (going mid middle took) now.left now.taken [] size gives short written
        (λ rest. subst (λ l. IsPrefixOf l (frames_from mid.place (items_at (more (more mid.codec []) rest)))) (sym d.1) (frames_from mid.place (items_at (more (more mid.codec []) rest)), refl)) writes

  module _ (b : Stand) (now : Moment) (size : ℕ) where
    pub done_all : TookLast relays a begin now size done b → IsRelayed editors (call_bytes bytes now.left begin.taken now.taken) b.place.passed b.place.dropped
    done_all t = done_at t.mid t.middle t.took b now t.last t.gives t.timely t.did

    last_part : (outcome : ConsumerOutcome) → TookLast relays a begin now size outcome b → RelayWrotePart editors (call_bytes bytes now.left begin.taken now.taken) size
    last_part outcome t =
        part_at t.mid t.middle t.took b now size t.last NoMemory t.gives t.short t.did.written
        (relays_lawful.refused t.mid b t.last outcome t.did.written NoMemory t.did.does tt) t.did.writes

    between_part : TookBytes relays a begin now b → RelayWrotePart editors (call_bytes bytes now.left begin.taken now.taken) size
    between_part t =
        wrote_before editors bytes now.left begin.taken now.taken b.place b.codec (going b now t) now.left [] size (consumes_none now.left) (omega arith)

    pub all_part : {A : Type 0} (r : Result A ServeError) → (EndsInStep r → TookLast relays a begin now size (last_outcome r) b) → IfErr r (λ e. IsBetweenReads e → TookBytes relays a begin now b)
        → RelayWrotePart editors (call_bytes bytes now.left begin.taken now.taken) size
    all_part (Ok x) last took = last_part done (last tt)
    all_part (Err ReadFault) last took = between_part (took tt)
    all_part (Err WriteFault) last took = last_part (stops WriteFault) (last tt)
    all_part (Err ReadsSpent) last took = between_part (took tt)
    all_part (Err (DeskSpent n)) last took = last_part (stops (DeskSpent n)) (last tt)
    all_part (Err NoMemory) last took = last_part (stops NoMemory) (last tt)

    -- ---- all of it, by the answer

    pub exact_of : {A : Type 0} (r : Result A ServeError) → IfErr r (λ e. IsBetweenReads e → TookBytes relays a begin now b)
        → IfErr r (λ e. IsBetweenReads e → RelayWroteTold editors (call_bytes bytes now.left begin.taken now.taken))
    exact_of (Ok x) took = tt
    exact_of (Err e) took = λ at. between b now (took at)

-- where nothing was read
pub nothing_part : (editors : ℕ) (bytes : List ℕ) (begin : Moment) (size : ℕ) → begin.left ≡ Some bytes → RelayWrotePart editors (call_bytes bytes begin.left begin.taken begin.taken) size
nothing_part editors bytes begin size is =
    let a : Stand = record { place = opening_place editors; codec = start_codec default_limits } in
    between_part editors a refl refl bytes begin is a begin size (record { read = []; gives = consumes_none begin.left; did = did_none relays relays_lawful a begin.taken (opened editors a refl refl) })

-- ---- a step that writes nothing

pub did_nothing : (a b : Stand) (bytes : List ℕ) (taken : Option (List ℕ)) (e : ServeError) → ComesOfSink e → Did relays a (piece bytes) (stops e) taken taken b
did_nothing a b bytes taken e sink = record {
  written = [];
  does = (sink, λ c. (frames_from a.place (items_at (more (more a.codec bytes) c)), refl));
  writes = appends_none taken;
}

pub did_no_end : (a b : Stand) (taken : Option (List ℕ)) (e : ServeError) → ComesOfSink e → Did relays a end (stops e) taken taken b
did_no_end a b taken e sink = record { written = []; does = (sink, refl); writes = appends_none taken }

pub did_end : (a b : Stand) (taken : Option (List ℕ)) → TookItems a.place (items_at a.codec) b.place → events a.place.editors (items_at a.codec) ≡ [] → Did relays a end done taken taken b
did_end a b taken took silent = record { written = []; does = record { took = took; silent = silent; none = refl }; writes = appends_none taken }
