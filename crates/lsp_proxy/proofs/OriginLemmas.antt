-- What a proxy knows of the history that led to its state.
use Rattle.std.proofs.Common.{◌≡◌, ◌<◌, ◌≤◌, ◌+◌, arith, ℕ, pos, negsuc, List, append-nil, [], ◌∷◌, ◌++◌, Bool, true, false, cond, ◌==◌, Option, Some, None, option_and_then, Result, Ok, Err, map, nat_lt, codes, refl, sym, ap, ◌∙◌, subst, inl, inr, true≢false}
use Rattle.std.specs.Prelude.{⊤}
use Rattle.std.specs.List.{AllByRecursion, filter}
use Rattle.std.proofs.lemmas.Bool.{eqb-true, eq-eqb, and_from}
use Rattle.std.proofs.lemmas.Slice.Eq.{bytes_eq-Decides}
use Rattle.serde_json.specs.Data.{Data}
use Rattle.lsp_rpc.specs.Message.{IdData, number_id, text_id, null_id, ErrorData, RequestData, ResponseData, response, request}
use Rattle.lsp_rpc.specs.Ids.{same_id-Decides}
use Rattle.lsp_proxy.specs.declared.side.Side.{Side}
use Rattle.lsp_proxy.specs.declared.side.Side.TheVariants.{Server, Editor}
use Rattle.lsp_proxy.specs.Entries.{AskerData, Entry, asker_at, without_entry, AreBelow}
use Rattle.lsp_rpc.specs.Cancel.{cancelled_id}
use Rattle.lsp_proxy.specs.Proxy.{ProxyState, Sent, Opening, unopened, awaited, opened, response_to, drawn, drawn_of, bare, cancel_limit, cancel_note, shutdown_request, exit_note, refused, is_asked_by, cancel_passed, asked_place, answered_to, opening_after, is_here_in, is_here, is_closing, first_requested, cancel_entry, here_from}
use Rattle.lsp_proxy.specs.Law.{Event, react, is_same_id, is_request_of}
use Rattle.lsp_proxy.specs.Origin.{state_of, is_drawn, is_response_under, WasPassed, HasInitialized, AwaitsInitialize, since_initialize, HasAnswered, IsOwn, HasOrigin}
use Rattle.lsp_proxy.proofs.EntryLemmas.{below_head, below_tail, below_cons}
use Rattle.lsp_proxy.proofs.ProxyLemmas.{below_next, below_pushed, below-without}
use Rattle.lsp_proxy.proofs.RowLemmas.{IsUnawaited, IsOwnAnswer, Row, idle, begins, waits, shuts, passes, answers, announces, notes, cancels, leaves, closes, ends, replies, stray, is_shut, opens, returns, calls, refuses, server_cancels, tells, event_of, after, sent_at, row}

-- ---- entries and their ids

-- no two entries have one id
abbrev AreNumbered : List Entry → Type 0
AreNumbered [] = ⊤
AreNumbered (e ∷ es) = (asker_at e.n es ≡ None) × AreNumbered es

none_at : (n : ℕ) (es : List Entry) → AreBelow n es → asker_at n es ≡ None
none_at n [] h = refl
none_at n (e ∷ es) h = go (n == e.n) refl (below_head n e es h) (none_at n es (below_tail n e es h))
  where
    go : (b : Bool) → (n == e.n) ≡ b → e.n < n → asker_at n es ≡ None → cond b (Some e.asker) (asker_at n es) ≡ None
    go true is less later =
        let same : n ≡ e.n = eqb-true n e.n is in
        absurd (omega arith)
    go false is less later = later

differs : (n : ℕ) (e : Entry) (es : List Entry) → asker_at n (e ∷ es) ≡ None → ((n == e.n) ≡ false) × (asker_at n es ≡ None)
differs n e es h = go (n == e.n) refl h
  where
    go : (b : Bool) → (n == e.n) ≡ b → cond b (Some e.asker) (asker_at n es) ≡ None → ((n == e.n) ≡ false) × (asker_at n es ≡ None)
    go true is h = absurd (cc)
    go false is h = (is, h)

eqb-less : (m n : ℕ) → m < n → (m == n) ≡ false
eqb-less m n less = go (m == n) refl
  where
    go : (b : Bool) → (m == n) ≡ b → b ≡ false
    go true is =
        let same : m ≡ n = eqb-true m n is in
        absurd (omega arith)
    go false is = refl

eqb-sym : (a b : ℕ) → (a == b) ≡ false → (b == a) ≡ false
eqb-sym a b h = go (b == a) refl
  where
    go : (c : Bool) → (b == a) ≡ c → c ≡ false
    go true is = absurd (true≢false (sym (eq-eqb a b (sym (eqb-true b a is))) ∙ h))
    go false is = refl

asker_at-append : (n : ℕ) (e : Entry) (es : List Entry) → asker_at n es ≡ None → (n == e.n) ≡ false → asker_at n (es ++ e ∷ []) ≡ None
asker_at-append n e [] h apart = ap (λ b. cond b (Some e.asker) None) apart
asker_at-append n e (x ∷ es) h apart =
    let d = differs n x es h in
    ap (λ b. cond b (Some x.asker) (asker_at n (es ++ e ∷ []))) d.0 ∙ asker_at-append n e es d.1 apart

numbered_pushed : (n : ℕ) (a : AskerData) (es : List Entry) → AreNumbered es → AreBelow n es → AreNumbered (es ++ record { n = n; asker = a } ∷ [])
numbered_pushed n a [] h below = (refl, tt)
numbered_pushed n a (e ∷ es) h below = (
  asker_at-append e.n (record { n = n; asker = a }) es h.0 (eqb-less e.n n (below_head n e es below)),
  numbered_pushed n a es h.1 (below_tail n e es below),
)

asker_at-without : (m n : ℕ) (es : List Entry) → asker_at m es ≡ None → asker_at m (without_entry n es) ≡ None
asker_at-without m n [] h = refl
asker_at-without m n (e ∷ es) h = go (n == e.n) (differs m e es h) (asker_at-without m n es)
  where
    go : (b : Bool) → ((m == e.n) ≡ false) × (asker_at m es ≡ None) → (asker_at m es ≡ None → asker_at m (without_entry n es) ≡ None) → asker_at m (cond b es (e ∷ without_entry n es)) ≡ None
    go true d later = d.1
    go false d later = ap (λ b. cond b (Some e.asker) (asker_at m (without_entry n es))) d.0 ∙ later d.1

numbered-without : (n : ℕ) (es : List Entry) → AreNumbered es → AreNumbered (without_entry n es)
numbered-without n [] h = tt
numbered-without n (e ∷ es) h = go (n == e.n) (numbered-without n es h.1)
  where
    go : (b : Bool) → AreNumbered (without_entry n es) → AreNumbered (cond b es (e ∷ without_entry n es))
    go true later = h.1
    go false later = (asker_at-without e.n n es h.0, later)

-- what was taken out isn't there again
gone_without : (n : ℕ) (es : List Entry) → AreNumbered es → asker_at n (without_entry n es) ≡ None
gone_without n [] h = refl
gone_without n (e ∷ es) h = go (n == e.n) refl (gone_without n es h.1)
  where
    go : (b : Bool) → (n == e.n) ≡ b → asker_at n (without_entry n es) ≡ None → asker_at n (cond b es (e ∷ without_entry n es)) ≡ None
    go true is later = ap (λ m. asker_at m es) (eqb-true n e.n is) ∙ h.0
    go false is later = ap (λ b. cond b (Some e.asker) (asker_at n (without_entry n es))) is ∙ later

all_without : (P : Entry → Type 0) (n : ℕ) (es : List Entry) → AllByRecursion P es → AllByRecursion P (without_entry n es)
all_without P n [] h = tt
all_without P n (e ∷ es) h = go (n == e.n) (all_without P n es h.1)
  where
    go : (b : Bool) → AllByRecursion P (without_entry n es) → AllByRecursion P (cond b es (e ∷ without_entry n es))
    go true later = h.1
    go false later = (h.0, later)

all_append : {X : Type 0} (P : X → Type 0) (xs : List X) (x : X) → AllByRecursion P xs → P x → AllByRecursion P (xs ++ x ∷ [])
all_append P [] x h p = (p, tt)
all_append P (y ∷ xs) x h p = (h.0, all_append P xs x h.1 p)

all_filter : {X : Type 0} (P : X → Type 0) (p : X → Bool) (xs : List X) → AllByRecursion P xs → AllByRecursion P (filter p xs)
all_filter P p [] h = tt
all_filter P p (x ∷ xs) h = go (p x) (all_filter P p xs h.1)
  where
    go : (b : Bool) → AllByRecursion P (filter p xs) → AllByRecursion P (cond b (x ∷ filter p xs) (filter p xs))
    go true later = (h.0, later)
    go false later = later

-- ---- histories

module _ (editors : ℕ) where
  abbrev PassedOn : List Event → Entry → Type 0
  PassedOn h x = WasPassed editors h x.n x.asker.editor x.asker.id

  abbrev Waits : List Event → AskerData → Type 0
  Waits since a = HasInitialized since a.editor a.id

  -- an `initialize` is awaited under n, and each asker shares in it
  abbrev AllShare : List Event → ℕ → List AskerData → Type 0
  AllShare h n askers = (a : AwaitsInitialize editors h n) × AllByRecursion (Waits (since_initialize a)) askers

  abbrev passed_later : (h : List Event) (e : Event) (x : Entry) → is_response_under x.n e ≡ false → PassedOn h x → PassedOn (e ∷ h) x
  passed_later h e x quiet w = record {
    later = e ∷ w.later;
    earlier = w.earlier;
    call = w.call;
    split = ap (λ l. e ∷ l) w.split;
    under = w.under;
    passed = w.passed;
    first = (quiet, w.first);
  }

  abbrev awaits_later : (h : List Event) (e : Event) (n : ℕ) → is_response_under n e ≡ false → AwaitsInitialize editors h n → AwaitsInitialize editors (e ∷ h) n
  awaits_later h e n quiet a = record {
    opener = a.opener;
    id = a.id;
    passed = passed_later h e (record { n = n; asker = record { editor = a.opener; id = a.id } }) quiet a.passed;
    method = a.method;
  }

  waits_later : (h : List Event) (e : Event) (a : AskerData) → Waits h a → Waits (e ∷ h) a
  waits_later h e a w = record { later = e ∷ w.later; earlier = w.earlier; call = w.call; split = ap (λ l. e ∷ l) w.split; under = w.under; method = w.method }

  answered_later : (h : List Event) (e : Event) (v : Data) → HasAnswered editors h v → HasAnswered editors (e ∷ h) v
  answered_later h e v w = record { later = e ∷ w.later; earlier = w.earlier; n = w.n; split = ap (λ l. e ∷ l) w.split; awaits = w.awaits }

  all_waits_later : (h : List Event) (e : Event) (askers : List AskerData) → AllByRecursion (Waits h) askers → AllByRecursion (Waits (e ∷ h)) askers
  all_waits_later h e [] w = tt
  all_waits_later h e (a ∷ askers) w = (waits_later h e a w.0, all_waits_later h e askers w.1)

  all_share_later : (h : List Event) (e : Event) (n : ℕ) (askers : List AskerData) → is_response_under n e ≡ false → AllShare h n askers → AllShare (e ∷ h) n askers
  all_share_later h e n askers quiet shared = (awaits_later h e n quiet shared.0, all_waits_later (since_initialize shared.0) e askers shared.1)

  all_passed_later : (h : List Event) (e : Event) (xs : List Entry) → AllByRecursion (λ x. is_response_under x.n e ≡ false) xs → AllByRecursion (PassedOn h) xs → AllByRecursion (PassedOn (e ∷ h)) xs
  all_passed_later h e [] q w = tt
  all_passed_later h e (x ∷ xs) q w = (passed_later h e x q.0 w.0, all_passed_later h e xs q.1 w.1)

  all_quiet : (e : Event) (xs : List Entry) → ((n : ℕ) → is_response_under n e ≡ false) → AllByRecursion (λ x. is_response_under x.n e ≡ false) xs
  all_quiet e [] q = tt
  all_quiet e (x ∷ xs) q = (q x.n, all_quiet e xs q)

  none_under : (n : ℕ) (r : ResponseData) (xs : List Entry) → drawn_of r.id ≡ Some n → asker_at n xs ≡ None → AllByRecursion (λ x. is_response_under x.n (Server, response r) ≡ false) xs
  none_under n r [] is none = tt
  none_under n r (x ∷ xs) is none =
      let d = differs n x xs none in (
        ap (is_drawn x.n) is ∙ eqb-sym n x.n d.0,
        none_under n r xs is d.1,
      )

  -- ---- what is known of a state

  ClosingIs : ℕ → List Entry → Option ℕ → Type 0
  ClosingIs next es None = ⊤
  ClosingIs next es (Some m) = (m < next) × (asker_at m es ≡ None)

  -- the id was drawn, and neither an entry nor the proxy's own `shutdown` has it
  abbrev IsApart : ℕ → List Entry → Option ℕ → ℕ → Type 0
  IsApart next es closing m = (m < next) × ((asker_at m es ≡ None) × (is_closing closing m ≡ false))

  -- this holds of the id under which `initialize` is awaited, by askers that share in it
  OpeningIs : List Event → (ℕ → Type 0) → Opening → Type 0
  OpeningIs h Holds unopened = ⊤
  OpeningIs h Holds (awaited m askers) = Holds m × AllShare h m askers
  OpeningIs h Holds (opened v) = HasAnswered editors h v

  record Known (h : List Event) (next : ℕ) (asked : List Entry) (closing : Option ℕ) (opening : Opening) : Type 0 where
    below : AreBelow next asked
    numbered : AreNumbered asked
    passed : AllByRecursion (PassedOn h) asked
    shut : ClosingIs next asked closing
    begun : OpeningIs h (IsApart next asked closing) opening

  abbrev KnownOf : List Event → ProxyState → Type 0
  KnownOf h s = Known h s.next s.asked s.closing s.opening

  closing_more : (a b : ℕ) (es : List Entry) (o : Option ℕ) → a ≤ b → ClosingIs a es o → ClosingIs b es o
  unfolding ClosingIs
  closing_more a b es None le h = tt
  closing_more a b es (Some m) le h = (omega (arith, h.0), h.1)

  -- the event is no response to the awaited `initialize`
  abbrev LeavesAwaited : Event → Opening → Type 0
  LeavesAwaited e unopened = ⊤
  LeavesAwaited e (awaited m askers) = is_response_under m e ≡ false
  LeavesAwaited e (opened v) = ⊤

  quiet_leaves : (e : Event) (o : Opening) → ((n : ℕ) → is_response_under n e ≡ false) → LeavesAwaited e o
  quiet_leaves e unopened q = tt
  quiet_leaves e (awaited m askers) q = q m
  quiet_leaves e (opened v) q = tt

  opening_later : (h : List Event) (e : Event) (Old New : ℕ → Type 0) (o : Opening) → ((m : ℕ) → Old m → New m) → LeavesAwaited e o → OpeningIs h Old o → OpeningIs (e ∷ h) New o
  unfolding OpeningIs
  opening_later h e Old New unopened more apart k = tt
  opening_later h e Old New (awaited m askers) more apart k = (more m k.0, all_share_later h e m askers apart k.1)
  opening_later h e Old New (opened v) more apart k = answered_later h e v k

  -- the same, where no response comes
  opening_quiet : (h : List Event) (e : Event) (Old New : ℕ → Type 0) (o : Opening) → ((m : ℕ) → Old m → New m) → ((n : ℕ) → is_response_under n e ≡ false) → OpeningIs h Old o → OpeningIs (e ∷ h) New o
  opening_quiet h e Old New o more q k = opening_later h e Old New o more (quiet_leaves e o q) k

  below_more : (a b : ℕ) (es : List Entry) → a ≤ b → AreBelow a es → AreBelow b es
  below_more a b [] le h = refl
  below_more a b (x ∷ es) le h =
      let less : x.n < a = below_head a x es h in
      below_cons b x es (omega arith) (below_more a b es le (below_tail a x es h))

  abbrev Sends : List Event → Event → Sent → Type 0
  Sends h e sent = AllByRecursion (HasOrigin editors h e) sent

  no_note : (e : Event) (h : List Event) (r : RequestData) (ks : List ℕ) → Sends h e (map (λ j. (Editor j, request r)) ks)
  no_note e h r [] = tt
  no_note e h r (j ∷ ks) = (tt, no_note e h r ks)

  no_refused : (e : Event) (h : List Event) (es : List Entry) (more : Sent) → Sends h e more → Sends h e (map refused es ++ more)
  no_refused e h [] more m = m
  no_refused e h (x ∷ es) more m = (tt, no_refused e h es more m)

  no_cancel : (e : Event) (h : List Event) (to : Side) (o : Option ℕ) → Sends h e (cancel_passed to o)
  no_cancel e h to None = tt
  no_cancel e h Server (Some n) = go (nat_lt n cancel_limit)
    where
      go : (b : Bool) → Sends h e (cond b ((Server, cancel_note n) ∷ []) [])
      go true = (tt, tt)
      go false = tt
  no_cancel e h (Editor j) (Some n) = go (nat_lt n cancel_limit)
    where
      go : (b : Bool) → Sends h e (cond b ((Editor j, cancel_note n) ∷ []) [])
      go true = (tt, tt)
      go false = tt

  no_entry : (e : Event) (h : List Event) (o : Option Entry) → Sends h e (cancel_entry o)
  no_entry e h None = tt
  no_entry e h (Some x) = no_cancel e h (Editor x.asker.editor) (Some x.n)

  drawn_is : (i : IdData) (n : ℕ) → drawn_of i ≡ Some n → i ≡ drawn n
  drawn_is (number_id (pos m)) n is = let same : m ≡ n = cc in ap drawn same
  drawn_is (number_id (negsuc m)) n is = absurd (cc)
  drawn_is (text_id t) n is = absurd (cc)
  drawn_is null_id n is = absurd (cc)

  event_is : (r : ResponseData) (n : ℕ) → drawn_of r.id ≡ Some n → ◌≡◌ {A = Event} (Server, response r) (Server, response_to (drawn n) r.body)
  event_is r n is =
      let under : IdData → Event = λ i. (Server, response_to i r.body) in
      ap under (drawn_is r.id n is)

  module _ (h : List Event) (known : KnownOf h (state_of editors h)) where
    abbrev s : ProxyState
    s = state_of editors h

    -- ---- the state after each row

    -- no response of the server, and maybe another next id and another `closing`
    quiet_more : (e : Event) (next : ℕ) (closing : Option ℕ) → ((n : ℕ) → is_response_under n e ≡ false) → s.next ≤ next → ClosingIs next s.asked closing
        → ((m : ℕ) → m < s.next → is_closing s.closing m ≡ false → is_closing closing m ≡ false) → Known (e ∷ h) next s.asked closing s.opening
    quiet_more e next closing q le c others = record {
      below = below_more s.next next s.asked le known.below;
      numbered = known.numbered;
      passed = all_passed_later h e s.asked (all_quiet e s.asked q) known.passed;
      shut = c;
      begun = opening_quiet h e (IsApart s.next s.asked s.closing) (IsApart next s.asked closing) s.opening (λ m a. (omega (arith, a.0), (a.1.0, others m a.0 a.1.1))) q known.begun;
    }

    quiet : (e : Event) → ((n : ℕ) → is_response_under n e ≡ false) → KnownOf (e ∷ h) s
    quiet e q = quiet_more e s.next s.closing q (omega arith) known.shut (λ m less c. c)

    -- a response of the server to nothing
    unasked : (r : ResponseData) → AllByRecursion (λ x. is_response_under x.n (Server, response r) ≡ false) s.asked → LeavesAwaited (Server, response r) s.opening → KnownOf ((Server, response r) ∷ h) s
    unasked r q apart = record {
      below = known.below;
      numbered = known.numbered;
      passed = all_passed_later h (Server, response r) s.asked q known.passed;
      shut = known.shut;
      begun = opening_later h (Server, response r) (IsApart s.next s.asked s.closing) (IsApart s.next s.asked s.closing) s.opening (λ m a. a) apart known.begun;
    }

    leaves_awaited : (r : ResponseData) (n : ℕ) (o : Opening) → drawn_of r.id ≡ Some n → IsUnawaited n o → LeavesAwaited (Server, response r) o
    leaves_awaited r n unopened under apart = tt
    leaves_awaited r n (awaited m askers) under apart = ap (is_drawn m) under ∙ eqb-sym n m apart
    leaves_awaited r n (opened v) under apart = tt

    not_closing : (o : Option ℕ) → ClosingIs s.next s.asked o → is_closing o s.next ≡ false
    unfolding ClosingIs
    not_closing None c = refl
    not_closing (Some m) c = eqb-sym m s.next (eqb-less m s.next c.0)

    -- the response to the proxy's own `shutdown` answers no request and no `initialize`
    closing_none : (n : ℕ) (o : Option ℕ) → is_closing o n ≡ true → ClosingIs s.next s.asked o → asker_at n s.asked ≡ None
    unfolding ClosingIs
    closing_none n None at c = absurd (true≢false (sym at))
    closing_none n (Some m) at c = ap (λ x. asker_at x s.asked) (eqb-true n m at) ∙ c.1

    closing_leaves : (r : ResponseData) (n : ℕ) (o : Opening) → drawn_of r.id ≡ Some n → is_closing s.closing n ≡ true → OpeningIs h (IsApart s.next s.asked s.closing) o → LeavesAwaited (Server, response r) o
    unfolding OpeningIs
    closing_leaves r n unopened is at k = tt
    closing_leaves r n (awaited m askers) is at k = ap (is_drawn m) is ∙ go (m == n) refl
      where
        go : (b : Bool) → (m == n) ≡ b → b ≡ false
        go true same = absurd (true≢false (sym at ∙ ap (is_closing s.closing) (sym (eqb-true m n same)) ∙ k.0.1.1))
        go false same = refl
    closing_leaves r n (opened v) is at k = tt

    closing_pushed : (o : Option ℕ) (x : Entry) → x.n ≡ s.next → ClosingIs s.next s.asked o → ClosingIs (s.next + 1) (s.asked ++ x ∷ []) o
    unfolding ClosingIs
    closing_pushed None x at c = tt
    closing_pushed (Some m) x at c = (omega (arith, c.0), asker_at-append m x s.asked c.1 (eqb-less m x.n (omega (arith, at, c.0))))

    closing_without : (n : ℕ) (o : Option ℕ) → ClosingIs s.next s.asked o → ClosingIs s.next (without_entry n s.asked) o
    unfolding ClosingIs
    closing_without n None c = tt
    closing_without n (Some m) c = (c.0, asker_at-without m n s.asked c.1)

    settled_is : (r : ResponseData) (n : ℕ) (body : Result Data ErrorData) → drawn_of r.id ≡ Some n → r.body ≡ body → AwaitsInitialize editors h n
        → OpeningIs ((Server, response r) ∷ h) (IsApart s.next s.asked s.closing) (opening_after body)
    unfolding OpeningIs
    settled_is r n (Ok v) is at awaits =
        let with_body : Result Data ErrorData → List Event = λ b. (Server, response_to (drawn n) b) ∷ h in
        let first : Event → List Event = λ x. x ∷ h in
        record { later = []; earlier = h; n = n; split = ap first (event_is r n is) ∙ ap with_body at; awaits = awaits }
    settled_is r n (Err x) is at awaits = tt

    -- what `initialize` is awaited under, where it is
    abbrev Begun : Opening → Type 0
    Begun o = OpeningIs h (IsApart s.next s.asked s.closing) o

    shared : (n m : ℕ) (askers : List AskerData) → s.opening ≡ awaited m askers → (n == m) ≡ true → IsApart s.next s.asked s.closing n × AllShare h n askers
    unfolding OpeningIs
    shared n m askers is at =
        let o : Begun (awaited m askers) = subst Begun is known.begun in
        subst (λ x. IsApart s.next s.asked s.closing x × AllShare h x askers) (sym (eqb-true n m at)) o

    known_row : (x : Row s) → (after x, sent_at x) ≡ react (event_of x) s → KnownOf (event_of x ∷ h) (after x)
    unfolding OpeningIs ClosingIs
    known_row (idle e q) made = quiet e q
    known_row (begins k r i under method is) made =
        let initialize = (bytes_eq-Decides r.method (codes "initialize")).0 method in
        let e : Event = (Editor k, request r) in
        record {
          below = below_next s.next s.asked known.below;
          numbered = known.numbered;
          passed = all_passed_later h e s.asked (all_quiet e s.asked (λ n. refl)) known.passed;
          shut = closing_more s.next (s.next + 1) s.asked s.closing (omega arith) known.shut;
          begun = (
            (omega arith, (none_at s.next s.asked known.below, not_closing s.closing known.shut)),
            (
              record {
                opener = k;
                id = i;
                passed = record { later = []; earlier = h; call = r; split = refl; under = under; passed = sym (ap (λ o. o.1) made); first = tt };
                method = initialize;
              },
              (record { later = []; earlier = []; call = r; split = refl; under = under; method = initialize }, tt),
            ),
          );
        }
    known_row (waits k r i m askers under method is) made =
        let e : Event = (Editor k, request r) in
        let o : Begun (awaited m askers) = subst Begun is known.begun in
        let since = since_initialize o.1.0 in
        let initialize = (bytes_eq-Decides r.method (codes "initialize")).0 method in
        record {
          below = known.below;
          numbered = known.numbered;
          passed = all_passed_later h e s.asked (all_quiet e s.asked (λ n. refl)) known.passed;
          shut = known.shut;
          begun = (
            o.0,
            (
              awaits_later h e m refl o.1.0,
              all_append (Waits (e ∷ since)) askers (record { editor = k; id = i }) (all_waits_later since e askers o.1.1)
                  (record { later = []; earlier = since; call = r; split = refl; under = under; method = initialize }),
            ),
          );
        }
    known_row (passes k r i under) made =
        let e : Event = (Editor k, request r) in
        let x : Entry = record { n = s.next; asker = record { editor = k; id = i } } in
        record {
          below = below_pushed s.next x.asker s.asked known.below;
          numbered = numbered_pushed s.next x.asker s.asked known.numbered known.below;
          passed = all_append (PassedOn (e ∷ h)) s.asked x (all_passed_later h e s.asked (all_quiet e s.asked (λ n. refl)) known.passed)
              (record { later = []; earlier = h; call = r; split = refl; under = under; passed = sym (ap (λ o. o.1) made); first = tt });
          shut = closing_pushed s.closing x refl known.shut;
          begun = opening_quiet h e (IsApart s.next s.asked s.closing) (IsApart (s.next + 1) (s.asked ++ x ∷ []) s.closing) s.opening
              (λ m a. (omega (arith, a.0), (asker_at-append m x s.asked a.1.0 (eqb-less m s.next a.0), a.1.1))) (λ n. refl) known.begun;
        }
    known_row (closes k r exit) made =
        quiet_more (Editor k, request r) (s.next + 1) (Some s.next) (λ n. refl) (omega arith) (omega arith, none_at s.next s.asked known.below) (λ m less c. eqb-less m s.next less)
    known_row (stray r n under none apart) made = unasked r (none_under n r s.asked under none) (leaves_awaited r n s.opening under apart)
    known_row (is_shut r n under at) made =
        let none = closing_none n s.closing at known.shut in
        let apart = closing_leaves r n s.opening under at known.begun in
        record {
          below = known.below;
          numbered = known.numbered;
          passed = all_passed_later h (Server, response r) s.asked (none_under n r s.asked under none) known.passed;
          shut = tt;
          begun = opening_later h (Server, response r) (IsApart s.next s.asked s.closing) (IsApart s.next s.asked None) s.opening (λ m a. (a.0, (a.1.0, refl))) apart known.begun;
        }
    known_row (opens r n m askers under is at) made =
        let begun = shared n m askers is at in
        record {
          below = known.below;
          numbered = known.numbered;
          passed = all_passed_later h (Server, response r) s.asked (none_under n r s.asked under begun.0.1.0) known.passed;
          shut = known.shut;
          begun = settled_is r n r.body under refl begun.1.0;
        }
    known_row (returns r n a under at apart) made = record {
      below = below-without s.next n s.asked known.below;
      numbered = numbered-without n s.asked known.numbered;
      passed = all_passed_later h (Server, response r) (without_entry n s.asked) (none_under n r (without_entry n s.asked) under (gone_without n s.asked known.numbered)) (all_without (PassedOn h) n s.asked known.passed);
      shut = closing_without n s.closing known.shut;
      begun = opening_later h (Server, response r) (IsApart s.next s.asked s.closing) (IsApart s.next (without_entry n s.asked) s.closing) s.opening
          (λ m x. (x.0, (asker_at-without m n s.asked x.1.0, x.1.1))) (leaves_awaited r n s.opening under apart) known.begun;
    }
    known_row (calls k r i under to) made =
        quiet_more (Server, request r) (s.next + 1) s.closing (λ n. refl) (omega arith) (closing_more s.next (s.next + 1) s.asked s.closing (omega arith) known.shut) (λ m less c. c)
    known_row (shuts k r i under method here) made = quiet (Editor k, request r) (λ n. refl)
    known_row (answers k r i body under own here) made = quiet (Editor k, request r) (λ n. refl)
    known_row (announces k r) made = quiet (Editor k, request r) (λ n. refl)
    known_row (notes k r) made = quiet (Editor k, request r) (λ n. refl)
    known_row (cancels k r) made = quiet (Editor k, request r) (λ n. refl)
    known_row (leaves k r exit) made = quiet (Editor k, request r) (λ n. refl)
    known_row (ends k r exit) made = quiet (Editor k, request r) (λ n. refl)
    known_row (replies k r n a at) made = quiet (Editor k, response r) (λ n. refl)
    known_row (refuses r i under) made = quiet (Server, request r) (λ n. refl)
    known_row (server_cancels r) made = quiet (Server, request r) (λ n. refl)
    known_row (tells r) made = quiet (Server, request r) (λ n. refl)

    -- ---- what each row sends

    asked_by : (k : ℕ) (r : RequestData) (i : IdData) → r.id ≡ Some i → is_request_of k i (Editor k, request r) ≡ true
    asked_by k r i under = and_from (k == k) (is_same_id i r.id) (eq-eqb k k refl) (ap (is_same_id i) under ∙ (same_id-Decides i i).1 refl)

    own_is : (k : ℕ) (r : RequestData) (body : Result Data ErrorData) → IsOwnAnswer s r body → IsOwn editors h (Editor k, request r) body
    unfolding OpeningIs
    own_is k r body (inl is) = inr (inl is)
    own_is k r body (inr (inl is)) = inr (inr (inl is))
    own_is k r body (inr (inr known_before)) = inr (inr (inr (known_before.0, known_before.1, known_before.2, subst Begun known_before.3 known.begun)))

    passed_at : (n : ℕ) (a : AskerData) (xs : List Entry) → asker_at n xs ≡ Some a → AllByRecursion (PassedOn h) xs → WasPassed editors h n a.editor a.id
    passed_at n a [] at all = absurd (cc)
    passed_at n a (x ∷ xs) at all = go (n == x.n) refl at (λ later. passed_at n a xs later all.1)
      where
        go : (b : Bool) → (n == x.n) ≡ b → cond b (Some x.asker) (asker_at n xs) ≡ Some a → (asker_at n xs ≡ Some a → WasPassed editors h n a.editor a.id) → WasPassed editors h n a.editor a.id
        go true is at later =
            let same : x.asker ≡ a = cc in
            subst (λ b. WasPassed editors h n b.editor b.id) same (subst (λ m. WasPassed editors h m x.asker.editor x.asker.id) (sym (eqb-true n x.n is)) all.0)
        go false is at later = later at

    waiting_sends : (r : ResponseData) (n : ℕ) (awaits : AwaitsInitialize editors h n) (askers : List AskerData) → drawn_of r.id ≡ Some n → AllByRecursion (Waits (since_initialize awaits)) askers
        → Sends h (Server, response r) (map (answered_to r.body) askers)
    waiting_sends r n awaits [] is w = tt
    waiting_sends r n awaits (a ∷ askers) is w = (inr (n, event_is r n is, inr (record { awaits = awaits; sent = w.0 })), waiting_sends r n awaits askers is w.1)

    sends_row : (x : Row s) → Sends h (event_of x) (sent_at x)
    sends_row (idle e q) = tt
    sends_row (begins k r i under method is) = (tt, tt)
    sends_row (waits k r i m askers under method is) = tt
    sends_row (shuts k r i under method here) = (inl (asked_by k r i under, inl (method, refl)), tt)
    sends_row (passes k r i under) = (tt, tt)
    sends_row (answers k r i body under own here) = (inl (asked_by k r i under, own_is k r body own), tt)
    sends_row (announces k r) = (tt, tt)
    sends_row (notes k r) = (tt, tt)
    sends_row (cancels k r) = no_cancel (Editor k, request r) h Server (asked_place k (cancelled_id r.params) s)
    sends_row (leaves k r exit) = subst (Sends h (Editor k, request r)) (append-nil (map refused (filter (is_asked_by k) s.requested))) (no_refused (Editor k, request r) h (filter (is_asked_by k) s.requested) [] tt)
    sends_row (closes k r exit) = no_refused (Editor k, request r) h (filter (is_asked_by k) s.requested) ((Server, shutdown_request s.next) ∷ []) (tt, tt)
    sends_row (ends k r exit) = no_refused (Editor k, request r) h (filter (is_asked_by k) s.requested) ((Server, exit_note) ∷ []) (tt, tt)
    sends_row (replies k r n a at) = (tt, tt)
    sends_row (stray r n under none apart) = tt
    sends_row (is_shut r n under at) = (tt, tt)
    sends_row (opens r n m askers under is at) =
        let begun = shared n m askers is at in
        waiting_sends r n begun.1.0 (filter (is_here_in s.editors) askers) under (all_filter (Waits (since_initialize begun.1.0)) (is_here_in s.editors) askers begun.1.1)
    sends_row (returns r n a under at apart) = go (is_here s a)
      where
        go : (b : Bool) → Sends h (Server, response r) (cond b (answered_to r.body a ∷ []) [])
        go true = (inr (n, event_is r n under, inl (passed_at n a s.asked at known.passed)), tt)
        go false = tt
    sends_row (calls k r i under to) = (tt, tt)
    sends_row (refuses r i under) = (tt, tt)
    sends_row (server_cancels r) = no_entry (Server, request r) h (option_and_then (λ i. first_requested i s.requested) (cancelled_id r.params))
    sends_row (tells r) = no_note (Server, request r) h (bare r) (here_from 0 s.editors)

    -- ---- after an event

    known_step : (e : Event) → KnownOf (e ∷ h) (react e s).0
    known_step e =
        let x = row s e in
        let made : (after x.0, sent_at x.0) ≡ react (event_of x.0) s = x.2 ∙ ap (λ d. react d s) (sym x.1) in
        subst (λ d. KnownOf (d ∷ h) (react d s).0) x.1 (subst (λ o. KnownOf (event_of x.0 ∷ h) o.0) made (known_row x.0 made))

    sends_step : (e : Event) → Sends h e (react e s).1
    sends_step e =
        let x = row s e in
        subst (λ o. Sends h e o.1) x.2 (subst (λ d. Sends h d (sent_at x.0)) x.1 (sends_row x.0))

  -- ---- over all histories

  known : (h : List Event) → KnownOf h (state_of editors h)
  unfolding ClosingIs OpeningIs
  known [] = record { below = refl; numbered = tt; passed = tt; shut = tt; begun = tt }
  known (e ∷ h) = known_step h (known h) e

  pub all_have_origins : (h : List Event) (e : Event) → AllByRecursion (HasOrigin editors h e) (react e (state_of editors h)).1
  all_have_origins h e = sends_step h (known h) e
