-- What reading a dump comes to over a call.
use Rattle.std.proofs.Common.{◌≡◌, ◌≤◌, ℕ, List, length, arith, [], ◌++◌, Bool, true, false, ◌⊎◌, inl, inr, refl, sym, ◌∙◌, ap, subst}
use Rattle.std.specs.Prelude.{◌≢◌, ⊤, Option, Some, IfSome, Result, Ok, Err, OnOk, OnErr, IfErr, not, String}
use Rattle.std.specs.declared.alloc.Global.{Global}
use Rattle.std.specs.Bool.{MatchBool}
use Rattle.std.specs.Result.{result_err}
use Rattle.std.specs.Io.KnownBytes.{Consumes, Appends}
use Rattle.std.proofs.lemmas.List.{append-nil}
use Rattle.lsp_server.specs.declared.step.ServeError.{ServeError}
use Rattle.lsp_server.specs.declared.step.ServeError.TheVariants.{ReadFault, WriteFault, ReadsSpent, DeskSpent, NoMemory}
use Rattle.lsp_server.specs.Errors.{IsInStep, IsBetweenReads, ComesOfSink, EndsInStep}
use Rattle.lsp_server.specs.Leaves.{StaysFlushed, TellsFaults, WithinReads}
use Rattle.lsp_server.specs.Reads.{Moment, moment}
use Rattle.lsp_server.specs.Served.{call_bytes}
use Rattle.lsp_server.specs.ServesSession.{SourceSinkTold}
use Rattle.lsp_server.specs.Written.{IsPrefixOf}
use Rattle.lsp_server.specs.Consuming.{Given, piece, end, ConsumerOutcome, goes_on, done, stops, IsLawfulConsumer, Did, Took, bytes_of, IsTimely, TookLast, consumer_outcome, last_outcome}
use Rattle.lsp_server.proofs.KnownLemmas.{if_told, consumes_none, appends_none, appends_more, consumes_more, what_is_left, all_read, end_before, prefix_all}
use Rattle.lsp_index.specs.declared.lines.Lines.{Lines}
use Rattle.lsp_index.specs.declared.lines.Search.{Search}
use Rattle.lsp_index.specs.Graph.{Graph}
use Rattle.lsp_index.specs.Queries.{QueryData}
use Rattle.lsp_index.specs.Entries.{HasBadLine, EndsBadLine}
use Rattle.lsp_index.specs.Shown.{show_query}
use Rattle.lsp_index.specs.Words.{query_asked}
use Rattle.lsp_index.specs.Kept.{IsKept}
use Rattle.lsp_index.specs.Answered.{IsAnswerLine, IsQueryAnswered, IsRefused, WroteBegun, WroteNone, ReadGood, WhereAsked, IsLine}
use Rattle.lsp_index.specs.Ended.{AnswerEnded, ended_with}
use Rattle.lsp_index.specs.Reading.{IsAfter, TookEnd, TookEndPart, TookGood, TookBad, TookBytes, Reads, dump_reading}
use Rattle.lsp_index.proofs.LineLemmas.{bad_stays, bad_ended, ends_bad, entries_good, ended_good}
use Rattle.lsp_index.proofs.ReadingLemmas.{took_both, took_last_bad, answer_line}

-- ---- the laws

reads_none : (a : Lines × Search) → Reads a (piece []) goes_on [] a
reads_none a = (refl, λ q before after. subst (λ l. IsAfter q l a) (sym (append-nil before)) after)

reads_more : (a b c : Lines × Search) (xs ys ws vs : List ℕ) → Reads a (piece xs) goes_on ws b → Reads b (piece ys) goes_on vs c → Reads a (piece (xs ++ ys)) goes_on (ws ++ vs) c
reads_more a b c xs ys ws vs p r = (ap (λ l. l ++ vs) p.0 ∙ r.0, took_both a b c xs ys p.1 r.1)

abbrev EndPart : QueryData → List ℕ → List ℕ → Type 0
EndPart q bytes written = (written ≡ []) ⊎ ((line : List ℕ) × IsAnswerLine q bytes line × IsPrefixOf written line)

end_part : (q : QueryData) (bytes written : List ℕ) (t : Bool) → MatchBool t (HasBadLine bytes × (written ≡ [])) (IsAnswerLine q bytes written) → EndPart q bytes written
end_part q bytes written true p = inl p.1
end_part q bytes written false p = inr (written, p, prefix_all written)

-- the line is begun only at the end
at_end : {q : QueryData} (left : Option (List ℕ)) → left ≡ Some [] → (bytes written : List ℕ) → EndPart q bytes written
    → (written ≡ []) ⊎ ((left ≡ Some []) × (line : List ℕ) × IsAnswerLine q bytes line × IsPrefixOf written line)
at_end left ends bytes written (inl none) = inl none
at_end left ends bytes written (inr part) = inr (ends, part.0, part.1, part.2)

pub took_end_part : (a b : Lines × Search) (written : List ℕ) → TookEnd a written b → TookEndPart a written
took_end_part a b written p = λ q bytes after. end_part q bytes written b.1.is_bad (p q bytes after)

reads_refused : (a b : Lines × Search) (given : Given) (outcome : ConsumerOutcome) (written : List ℕ) (e : ServeError) → Reads a given outcome written b → ComesOfSink e → Reads a given (stops e) written b
reads_refused a b (piece bytes) goes_on written e p sink = (sink, p.0)
reads_refused a b (piece bytes) done written e p sink = (sink, p.0)
reads_refused a b (piece bytes) (stops e0) written e p sink = (sink, p.1)
reads_refused a b end goes_on written e p sink = absurd p
reads_refused a b end done written e p sink = (sink, took_end_part a b written p)
reads_refused a b end (stops e0) written e p sink = (sink, p.1)

pub reading_lawful : IsLawfulConsumer dump_reading
reading_lawful = record { opens = λ a b given written p. tt; none = λ a is. reads_none a; more = reads_more; refused = reads_refused }

-- ---- what the consumer did

pub did_piece : (a b : Lines × Search) (bytes : List ℕ) (taken : Option (List ℕ)) (good : Bool) → TookBytes a bytes good b → Did dump_reading a (piece bytes) (consumer_outcome (Ok (not good))) taken taken b
did_piece a b bytes taken true t = record { written = []; does = (refl, t); writes = appends_none taken }
did_piece a b bytes taken false t = record { written = []; does = (refl, t); writes = appends_none taken }

pub did_nothing : (a b : Lines × Search) (bytes : List ℕ) (taken : Option (List ℕ)) (e : ServeError) → ComesOfSink e → Did dump_reading a (piece bytes) (stops e) taken taken b
did_nothing a b bytes taken e sink = record { written = []; does = (sink, refl); writes = appends_none taken }

pub did_no_end : (a b : Lines × Search) (taken : Option (List ℕ)) (e : ServeError) → ComesOfSink e → Did dump_reading a end (stops e) taken taken b
did_no_end a b taken e sink = record { written = []; does = (sink, λ q bytes after. inl refl); writes = appends_none taken }

-- the last line is bad
pub did_bad_end : (lines : Lines) (search new : Search) (taken : Option (List ℕ)) → TookBad search lines.part.items new → Did dump_reading (lines, search) end done taken taken (lines, new)
did_bad_end lines search new taken t =
    let nothing : List ℕ = [] in
    let same : nothing ≡ nothing = refl in
    record {
      written = nothing;
      does = λ q bytes after. subst (λ b. MatchBool b (HasBadLine bytes × (nothing ≡ [])) (IsAnswerLine q bytes nothing)) (sym t.is_bad) (took_last_bad q bytes lines search after new t, same);
      writes = appends_none taken;
    }

abbrev Answers : Search → List ℕ → Type 0
Answers new line = (g : Graph) → IsKept g new.index → IsLine (show_query new.query) g line

-- the line of the answer was written
did_end : (lines : Lines) (search new : Search) (line : List ℕ) (taken taken_after : Option (List ℕ)) → TookGood search lines.part.items new → Answers new line → Appends taken taken_after line
    → Did dump_reading (lines, search) end done taken taken_after (lines, new)
did_end lines search new line taken taken_after t answers writes = record {
  written = line;
  does = λ q bytes after. subst (λ b. MatchBool b (HasBadLine bytes × (line ≡ [])) (IsAnswerLine q bytes line)) (sym (t.good ∙ after.good)) (answer_line q bytes lines search after new t line answers);
  writes = writes;
}

-- some of it was written
did_end_part : (lines : Lines) (search new : Search) (line : List ℕ) (taken taken_after : Option (List ℕ)) (e : ServeError) → ComesOfSink e → TookGood search lines.part.items new → Answers new line
    → (written : List ℕ) × IsPrefixOf written line × Appends taken taken_after written → Did dump_reading (lines, search) end (stops e) taken taken_after (lines, new)
did_end_part lines search new line taken taken_after e sink t answers part = record {
  written = part.0;
  does = (sink, λ q bytes after. inr (line, answer_line q bytes lines search after new t line answers, part.1));
  writes = part.2;
}

-- the line of the answer was sent
pub did_sent : (lines : Lines) (search new : Search) (line : List ℕ) (taken taken_after : Option (List ℕ)) (r : Result Unit ServeError) → TookGood search lines.part.items new → Answers new line
    → OnOk r (Appends taken taken_after line) → OnErr r ((written : List ℕ) × IsPrefixOf written line × Appends taken taken_after written) → IfErr r ComesOfSink
    → Did dump_reading (lines, search) end (last_outcome r) taken taken_after (lines, new)
did_sent lines search new line taken taken_after (Ok x) t answers all part others = did_end lines search new line taken taken_after t answers all
did_sent lines search new line taken taken_after (Err e) t answers all part others = did_end_part lines search new line taken taken_after e others t answers part

-- ---- a call

of_sink : (a b : Lines × Search) (given : Given) (e : ServeError) (written : List ℕ) → Reads a given (stops e) written b → ComesOfSink e
of_sink a b (piece bytes) e written d = d.0
of_sink a b end e written d = d.0

pub no_desk_of : (a b : Lines × Search) (begin now : Moment) (size : ℕ) (e : ServeError) → (IsInStep e → TookLast dump_reading a begin now size (stops e) b) → (n : ℕ) → e ≢ DeskSpent n
no_desk_of a b begin now size (DeskSpent n) last = let t = last tt in absurd (of_sink t.mid b t.last (DeskSpent n) t.did.written t.did.does)
no_desk_of a b begin now size ReadFault last = λ n is. absurd (cc)
no_desk_of a b begin now size WriteFault last = λ n is. absurd (cc)
no_desk_of a b begin now size ReadsSpent last = λ n is. absurd (cc)
no_desk_of a b begin now size NoMemory last = λ n is. absurd (cc)

module _ (q : QueryData) (a : Lines × Search) (start : IsAfter q [] a) (bytes : List ℕ) (begin : Moment) (is : begin.left ≡ Some bytes) where
  -- nothing is written between two reads
  quiet : (b : Lines × Search) (now : Moment) → Took dump_reading a begin now b → Appends begin.taken now.taken []
  quiet b now t = subst (λ l. Appends begin.taken now.taken l) t.did.does.0 t.did.writes

  -- and each line that ended is an entry
  all_good : (b : Lines × Search) (now : Moment) (t : Took dump_reading a begin now b) → ¬ EndsBadLine t.read
  all_good b now t = let after = t.did.does.1 q [] start in ended_good t.read after.es after.values

  pub between : (b : Lines × Search) (now : Moment) → Took dump_reading a begin now b → WroteNone (call_bytes bytes now.left begin.taken now.taken)
  between b now t = record { read = t.read; gives = subst (λ l. Consumes l now.left t.read) is t.gives; good = all_good b now t; writes = quiet b now t }

  module _ (mid : Lines × Search) (middle : Moment) (took : Took dump_reading a begin middle mid) where
    gave : Consumes (Some bytes) middle.left took.read
    gave = subst (λ l. Consumes l middle.left took.read) is took.gives

    after : IsAfter q took.read mid
    after = took.did.does.1 q [] start

    more_written : (now : Moment) (written : List ℕ) → Appends middle.taken now.taken written → Appends begin.taken now.taken written
    more_written now written writes = appends_more begin.taken middle.taken now.taken [] written (quiet mid middle took) writes

    -- what was read, with the last piece
    read_good : (now : Moment) (xs : List ℕ) → Consumes middle.left now.left xs → length xs ≤ 4096 → ReadGood (call_bytes bytes now.left begin.taken now.taken)
    read_good now xs gives short = record {
      early = took.read;
      piece = xs;
      gives = consumes_more (Some bytes) middle.left now.left took.read xs gave gives;
      short = short;
      good = all_good mid middle took;
    }

    module _ (b : Lines × Search) (now : Moment) where
      refused_at : (xs : List ℕ) → Consumes middle.left now.left xs → length xs ≤ 4096 → Did dump_reading mid (piece xs) done middle.taken now.taken b → IsRefused (call_bytes bytes now.left begin.taken now.taken)
      unfolding read_good
      refused_at xs gives short d =
          let ended = d.does.1.1 q took.read after in
          let left = what_is_left bytes now.left (took.read ++ xs) (consumes_more (Some bytes) middle.left now.left took.read xs gave gives) in
          record {
            bad = subst HasBadLine (sym left.2) (bad_ended ((took.read ++ xs) ++ left.0) (bad_stays (took.read ++ xs) left.0 ended));
            read = read_good now xs gives short;
            enough = inr (ends_bad (took.read ++ xs) ended);
            writes = more_written now [] (subst (λ l. Appends middle.taken now.taken l) d.does.0 d.writes);
          }

      whole : Consumes middle.left now.left [] → IsTimely end begin.left now.left → (bytes ≡ took.read) × (now.left ≡ Some [])
      whole gives timely =
          let last : now.left ≡ Some [] = rw is at timely in
          (all_read bytes took.read middle.left gave (end_before bytes took.read middle.left now.left gave gives last), last)

      ended_at : Consumes middle.left now.left [] → IsTimely end begin.left now.left → (t : Bool) (written : List ℕ)
          → MatchBool t (HasBadLine took.read × (written ≡ [])) (IsAnswerLine q took.read written) → Appends middle.taken now.taken written
          → MatchBool t (IsRefused (call_bytes bytes now.left begin.taken now.taken)) (IsQueryAnswered q (call_bytes bytes now.left begin.taken now.taken))
      ended_at gives timely true written p writes =
          let w = whole gives timely in
          record {
            bad = subst HasBadLine (sym w.0) p.0;
            read = read_good now [] gives (omega arith);
            enough = inl w.1;
            writes = more_written now [] (subst (λ l. Appends middle.taken now.taken l) p.1 writes);
          }
      ended_at gives timely false written p writes =
          let w = whole gives timely in
          let answers : IsAnswerLine q bytes written = subst (λ l. IsAnswerLine q l written) (sym w.0) p in
          record { good = entries_good bytes answers.es answers.entries; ends = w.1; line = written; answers = answers; writes = more_written now written writes }

      ended : (last : Given) → Consumes middle.left now.left (bytes_of last) → length (bytes_of last) ≤ 4096 → IsTimely last begin.left now.left → Did dump_reading mid last done middle.taken now.taken b
          → MatchBool b.1.is_bad (IsRefused (call_bytes bytes now.left begin.taken now.taken)) (IsQueryAnswered q (call_bytes bytes now.left begin.taken now.taken))
      ended (piece xs) gives short timely d =
          subst (λ t. MatchBool t (IsRefused (call_bytes bytes now.left begin.taken now.taken)) (IsQueryAnswered q (call_bytes bytes now.left begin.taken now.taken))) (sym d.does.1.0) (refused_at xs gives short d)
      ended end gives short timely d = ended_at gives timely b.1.is_bad d.written (d.does q took.read after) d.writes

      begun : (last : Given) (e : ServeError) → Consumes middle.left now.left (bytes_of last) → length (bytes_of last) ≤ 4096 → IsTimely last begin.left now.left → Did dump_reading mid last (stops e) middle.taken now.taken b
          → WroteBegun q (call_bytes bytes now.left begin.taken now.taken)
      begun (piece xs) e gives short timely d = record { read = read_good now xs gives short; written = d.written; begins = inl d.does.1; writes = more_written now d.written d.writes }
      begun end e gives short timely d =
          let w = whole gives timely in
          record {
            read = read_good now [] gives short;
            written = d.written;
            begins = at_end now.left w.1 bytes d.written (subst (λ l. EndPart q l d.written) (sym w.0) (d.does.1 q took.read after));
            writes = more_written now d.written d.writes;
          }

  module _ (b : Lines × Search) (now : Moment) where
    pub done_all : TookLast dump_reading a begin now 4096 done b → MatchBool b.1.is_bad (IsRefused (call_bytes bytes now.left begin.taken now.taken)) (IsQueryAnswered q (call_bytes bytes now.left begin.taken now.taken))
    done_all t = ended t.mid t.middle t.took b now t.last t.gives t.short t.timely t.did

    pub begun_last : (e : ServeError) → TookLast dump_reading a begin now 4096 (stops e) b → WroteBegun q (call_bytes bytes now.left begin.taken now.taken)
    begun_last e t = begun t.mid t.middle t.took b now t.last e t.gives t.short t.timely t.did

    pub begun_between : Took dump_reading a begin now b → WroteBegun q (call_bytes bytes now.left begin.taken now.taken)
    begun_between t =
        let none = between b now t in
        record {
          read = record { early = none.read; piece = []; gives = subst (Consumes (Some bytes) now.left) (sym (append-nil none.read)) none.gives; short = omega arith; good = none.good };
          written = [];
          begins = inl refl;
          writes = none.writes;
        }

    -- what was written at any error
    pub begun_any : (e : ServeError) → (IsInStep e → TookLast dump_reading a begin now 4096 (stops e) b) → (IsBetweenReads e → Took dump_reading a begin now b) → WroteBegun q (call_bytes bytes now.left begin.taken now.taken)
    begun_any ReadFault last took = begun_between (took tt)
    begun_any WriteFault last took = begun_last WriteFault (last tt)
    begun_any ReadsSpent last took = begun_between (took tt)
    begun_any (DeskSpent n) last took = begun_last (DeskSpent n) (last tt)
    begun_any NoMemory last took = begun_last NoMemory (last tt)

-- nothing was read, nor written
pub nothing_read : (words : List (String Global)) (left taken : Option (List ℕ)) → WhereAsked words left (λ q bytes. WroteBegun q (call_bytes bytes left taken taken))
nothing_read words left taken = if_told (query_asked words) (λ q. IfSome left (λ bytes. WroteBegun q (call_bytes bytes left taken taken))) (λ q asked. if_told left _ (λ bytes is. record {
  read = record { early = []; piece = []; gives = subst (λ o. Consumes o left []) is (consumes_none left); short = omega arith; good = ended_good [] [] refl };
  written = [];
  begins = inl refl;
  writes = appends_none taken;
}))

-- whether no line is bad
pub flipped : (bad : Bool) (P Q : Type 0) → MatchBool bad P Q → MatchBool (not bad) Q P
flipped true P Q p = p
flipped false P Q p = p

-- what the reads come to is what answering ends with
pub answer_ended : (q : QueryData) (a b : Lines × Search) (start : IsAfter q [] a) (count : ℕ) (told : SourceSinkTold) (made made_after : Option (List Moment)) (r : Result ⊤ ServeError)
    → (EndsInStep r → TookLast dump_reading a (moment told.left told.taken told.flushed) (moment told.left_after told.taken_after told.flushed_after) 4096 (last_outcome r) b)
    → IfErr r (λ e. IsBetweenReads e → Took dump_reading a (moment told.left told.taken told.flushed) (moment told.left_after told.taken_after told.flushed_after) b)
    → StaysFlushed told.taken told.flushed told.taken_after told.flushed_after (result_err r) → TellsFaults told.reads_failed told.reads_failed_after told.writes_failed told.writes_failed_after (result_err r)
    → WithinReads count 4096 told.left told.left_after made made_after (result_err r) → AnswerEnded q count told made made_after (ended_with r (not b.1.is_bad))
answer_ended q a b start count told made made_after (Ok x) last took flushed faults within =
    let begin : Moment = moment told.left told.taken told.flushed in
    let now : Moment = moment told.left_after told.taken_after told.flushed_after in
    record {
      done = if_told told.left _ (λ bytes is. flipped b.1.is_bad _ _ (done_all q a start bytes begin is b now (last tt)));
      flushed = flushed;
      faults = faults;
      within = within;
      no_desk = tt;
      between = tt;
      part = tt;
    }
answer_ended q a b start count told made made_after (Err e) last took flushed faults within =
    let begin : Moment = moment told.left told.taken told.flushed in
    let now : Moment = moment told.left_after told.taken_after told.flushed_after in
    record {
      done = tt;
      flushed = flushed;
      faults = faults;
      within = within;
      no_desk = no_desk_of a b begin now 4096 e last;
      between = λ at. if_told told.left _ (λ bytes is. between q a start bytes begin is b now (took at));
      part = if_told told.left _ (λ bytes is. begun_any q a start bytes begin is b now e last took);
    }
