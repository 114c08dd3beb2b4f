-- A run of handlers is one of the same handlers with other tasks in the code: it speaks of their plain data alone.
use Rattle.std.proofs.Common.{ℕ, zero, suc, List, [], ◌∷◌}
use Rattle.lsp_desk.specs.Trace.{DeskEntry}
use Rattle.lsp_session.specs.Item.{ItemData}
use Rattle.lsp_session.specs.Semantics.{Semantics, Polls, Phase, Fresh, Held, Progress}
use Rattle.lsp_session.specs.Admission.{Verdict, Silence, Refuses, Answers, Cancels, Exits, Starts, Admission}
use Rattle.lsp_session.specs.State.{State, Effect}
use Rattle.lsp_session.specs.Run.{Applies, Admits, admission_of, Order, Poll, PollsAt, Round, Rounds, Picked, Step, Run}

module _ {H C T U : Type 0} (semantics : Semantics H C T) (show_task : U → semantics.Task) where
  abbrev pub again : Semantics H C U
  again = record {
    Call = semantics.Call;
    show_call = semantics.show_call;
    Task = semantics.Task;
    show_task = show_task;
    call_of = semantics.call_of;
    find = semantics.find;
    reads = semantics.reads;
    is_sound = semantics.is_sound;
    begins = semantics.begins;
    resumes = semantics.resumes;
    answers = semantics.answers;
  }

  abbrev Place : Type 0
  Place = State H semantics.Call semantics.Task

  polls_again : (s : H) (phase : Phase semantics.Call semantics.Task) (asked : List DeskEntry) (s2 : H) (progress : Progress semantics.Task) → Polls semantics s phase asked s2 progress → Polls again s phase asked s2 progress
  polls_again s (Fresh c) asked s2 progress p = p
  polls_again s (Held t) asked s2 progress p = p

  applies_again : (s : Place) (v : Verdict semantics.Call) (e : Effect) (s2 : Place) → Applies semantics s v e s2 → Applies again s v e s2
  applies_again s Silence e s2 p = p
  applies_again s (Refuses i error) e s2 p = p
  applies_again s (Answers r) e s2 p = p
  applies_again s (Cancels i) e s2 p = p
  applies_again s Exits e s2 p = p
  applies_again s (Starts id entry call) e s2 p = p

  admits_again : (s : Place) (a : Admission semantics.Call) (e : Effect) (s2 : Place) → Admits semantics s a e s2 → Admits again s a e s2
  admits_again s a e s2 p = record { first = p.first; mid = p.mid; changes = p.changes; rest = p.rest; applies = applies_again p.mid a.verdict p.rest s2 p.applies; adds = p.adds }

  poll_again : (s : Place) (place : ℕ) (e : Effect) (s2 : Place) → Poll semantics s place e s2 → Poll again s place e s2
  poll_again s place e s2 p = record {
    before = p.before;
    work = p.work;
    after = p.after;
    stands = p.stands;
    is_due = p.is_due;
    at_place = p.at_place;
    asked = p.asked;
    polled = p.polled;
    polled_desk = p.polled_desk;
    asks = p.asks;
    service = p.service;
    progress = p.progress;
    polls = polls_again s.service p.work.phase p.asked p.service p.progress p.polls;
    messages = p.messages;
    taken = p.taken;
    taken_desk = p.taken_desk;
    takes = p.takes;
    changed = p.changed;
    desk = p.desk;
    changes = p.changes;
    leaves = p.leaves;
    adds = p.adds;
  }

  module _ {P : Type 0} (order : Order P) where
    polls_at_again : (s : Place) (p : P) (places : List ℕ) (e : Effect) (s2 : Place) (p2 : P) → PollsAt semantics order s p places e s2 p2 → PollsAt again order s p places e s2 p2
    polls_at_again s p [] e s2 p2 h = h
    polls_at_again s p (place ∷ places) e s2 p2 h = (h.0, h.1, h.2, poll_again s place h.1 h.0 h.3, h.4, polls_at_again h.0 _ places h.2 s2 p2 h.5, h.6)

    round_again : (s : Place) (p : P) (e : Effect) (s2 : Place) (p2 : P) → Round semantics order s p e s2 p2 → Round again order s p e s2 p2
    round_again s p e s2 p2 h = record { places = h.places; polls = polls_at_again _ p h.places e s2 p2 h.polls; none_left = h.none_left }

    rounds_again : (n : ℕ) (s : Place) (p : P) (e : Effect) (s2 : Place) (p2 : P) → Rounds semantics order n s p e s2 p2 → Rounds again order n s p e s2 p2
    rounds_again zero s p e s2 p2 h = h
    rounds_again (suc n) s p e s2 p2 h = (h.0, h.1, h.2, h.3, rounds_again n s p h.2 h.0 h.1 h.4, round_again h.0 h.1 h.3 s2 p2 h.5, h.6)

    step_again : (rounds : ℕ) (s : Picked Place P) (item : ItemData) (e : Effect) (s2 : Picked Place P) → Step semantics order rounds s item e s2 → Step again order rounds s item e s2
    step_again rounds s item e s2 h = record {
      first = h.first;
      admitted = h.admitted;
      admits = admits_again s.session (admission_of semantics s.session item) h.first h.admitted h.admits;
      second = h.second;
      polled = h.polled;
      polls = rounds_again rounds h.admitted s.pick h.second h.polled s2.pick h.polls;
      third = h.third;
      drains = h.drains;
      adds = h.adds;
    }

    pub run_again : (rounds : ℕ) (s : Picked Place P) (items : List ItemData) (e : Effect) (s2 : Picked Place P) → Run (Step semantics order rounds) s items e s2 → Run (Step again order rounds) s items e s2
    run_again rounds s [] e s2 h = h
    run_again rounds s (item ∷ items) e s2 h = (h.0, h.1, h.2, step_again rounds s item h.1 h.0 h.3, run_again rounds h.0 items h.2 s2 h.4, h.5)
