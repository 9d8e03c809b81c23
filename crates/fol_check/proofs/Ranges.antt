-- The events of a legal history are in range, where its report is short enough.
use Rattle.std.proofs.Common.{◌≡◌, ℕ, ◌+◌, ◌*◌, ◌<◌, ◌≤◌, ◌^◌, suc, refl, sym, ◌∙◌, ap, subst, arith, true, ◌&&◌, inl, inr, None, Some, List, [], ◌∷◌, ◌++◌, length, append_assoc, length-append}
use Rattle.std.specs.Prelude.{Option, cond, nat_eq, nat_le, count_by, flat_map, codes, decimal}
use Rattle.std.specs.List.{AllByRecursion, join_with_byte, list_all}
use Rattle.std.proofs.lemmas.Bool.{and_parts, cases_Bool, cases_lt, eq-eqb, leb-true}
use Rattle.std.proofs.lemmas.List.Concat.{flat_map-cons}
use Rattle.fol_model.specs.declared.places.ChunkPos.{ChunkPos}
use Rattle.fol_model.specs.declared.places.BlockPos.{BlockPos}
use Rattle.fol_model.specs.declared.actions.Action.{Action}
use Rattle.fol_model.specs.declared.actions.Action.TheVariants as action
use Rattle.fol_model.specs.declared.openings.Opening.{Opening}
use Rattle.fol_model.specs.declared.regions.State.TheVariants.{Dead, Ready, Ticking}
use Rattle.fol_model.specs.declared.tasks.Ran.{Ran}
use Rattle.fol_model.specs.declared.tasks.Wish.{Wish}
use Rattle.fol_model.specs.declared.events.Accept.{Accept}
use Rattle.fol_model.specs.declared.events.Accept.TheVariants as accepts
use Rattle.fol_model.specs.declared.events.Loaded.{Loaded}
use Rattle.fol_model.specs.declared.events.Unloaded.{Unloaded}
use Rattle.fol_model.specs.declared.events.Event.{Event}
use Rattle.fol_model.specs.declared.events.Event.TheVariants as events
use Rattle.fol_model.specs.declared.events.Entry.{Entry}
use Rattle.fol_model.specs.ActionStep.{Recorded}
use Rattle.fol_model.specs.Add.{is_full}
use Rattle.fol_model.specs.End.{accepted, answers, dropped, put_back, run_down, ticked}
use Rattle.fol_model.specs.Geometry.{is_chunk}
use Rattle.fol_model.specs.GridNumbers.{IsGrid}
use Rattle.fol_model.specs.Holds.{posted, posting}
use Rattle.fol_model.specs.Legal.{is_of}
use Rattle.fol_model.specs.LineWords.{Word, line, lines_of}
use Rattle.fol_model.specs.ReportWords.{accept_words, end_words, entry_words, event_words, ran_words}
use Rattle.fol_model.specs.Run.{Allowed, RunFrom, after, after_all, load_answer, unload_answer}
use Rattle.fol_model.specs.World.{World, start}
use Rattle.fol_laws.specs.Growth.{answered, answers_in, ends, ends_in}
use Rattle.fol_laws.proofs.DueNames.{ended_new}
use Rattle.fol_laws.proofs.ListCounts.{count_by-cons}
use Rattle.fol_laws.proofs.NumberGrowth.{ids_grow, jobs_grow}
use Rattle.fol_laws.proofs.SoundRuns.{Ending, accepted_ending, run_down_ending, wishes_ok}
use Rattle.fol_laws.proofs.SoundState.{SoundWorld}
use Rattle.fol_laws.proofs.WholeRuns.{counters_most, good_run}
use Rattle.fol_laws.proofs.WishLimits.{WishOk}
use Rattle.fol_events.specs.InRange.{AcceptInRange, AllInRange, InRange, LoadedInRange, RanInRange, UnloadedInRange}
use Rattle.fol_world.proofs.MostParts.{wanted_few}
use Rattle.fol_check.specs.Laws.{PostIsShort}

-- ---- how long lines are

joined_least : (w : Word) (ws : List Word) → length ws ≤ length (join_with_byte 32 (w ∷ ws))
joined_least w [] = omega arith
joined_least w (v ∷ ws) = let rest = joined_least v ws in let both = length-append w (32 ∷ join_with_byte 32 (v ∷ ws)) in omega arith

-- a line has at least as many bytes as words
line_least : (ws : List Word) → length ws ≤ length (line ws)
line_least [] = omega arith
line_least (w ∷ ws) = let joined = joined_least w ws in let both = length-append (join_with_byte 32 (w ∷ ws)) (10 ∷ []) in omega arith

line_some : (ws : List Word) → 1 ≤ length (line ws)
line_some ws = let both = length-append (join_with_byte 32 ws) (10 ∷ []) in omega arith

flat_least : {X : Type 0} (f : X → List Word) (xs : List X) → ((x : X) → 1 ≤ length (f x)) → length xs ≤ length (flat_map f xs)
flat_least f [] some = omega arith
flat_least f (x ∷ xs) some =
    let first = some x in
    let rest = flat_least f xs some in
    let split = ap length (flat_map-cons f x xs) in
    let both = length-append (f x) (flat_map f xs) in
    omega arith

accept_some : (a : Accept) → 1 ≤ length (accept_words a)
accept_some (accepts.Posted n) = omega arith
accept_some (accepts.Full p w) = omega arith

end_least : (k r t : ℕ) (xs : List Ran) (ks : List Accept) → 1 + length xs + length ks ≤ length (line (end_words k r t xs ks))
end_least k r t xs ks =
    let least = line_least (end_words k r t xs ks) in
    let rans = flat_least ran_words xs (λ x. omega arith) in
    let answers = flat_least accept_words ks accept_some in
    let both = length-append (flat_map ran_words xs) (codes "accepted" ∷ decimal (length ks) ∷ flat_map accept_words ks) in
    omega arith

-- a line has room for each answer of its event
pub event_least : (e : Event) → 1 + answers_in e ≤ length (line (event_words e))
event_least (events.Load k c a) = line_some (event_words (events.Load k c a))
event_least (events.Unload k c a) = line_some (event_words (events.Unload k c a))
event_least (events.Post k c d x a) = line_some (event_words (events.Post k c d x a))
event_least (events.PhaseOpen n) = line_some (event_words (events.PhaseOpen n))
event_least (events.Begin k r) = line_some (event_words (events.Begin k r))
event_least (events.End k r t xs ks) = let least = end_least k r t xs ks in omega arith
event_least events.PhaseClose = line_some (event_words events.PhaseClose)
event_least events.Finish = line_some (event_words events.Finish)
event_least (events.Stop k) = line_some (event_words (events.Stop k))

-- ---- answers

loaded_in : (w : World) (c : ChunkPos) → SoundWorld w → is_chunk c ≡ true → LoadedInRange (load_answer w c)
loaded_in w c sound within = elim (cases_Bool (is_full w.grid c)) [
  | inl full ↦ rw full (let few = sound.rules.count in omega arith, let few = wanted_few w.grid c sound.grid within in omega arith)
  | inr room ↦ rw room tt
]

unloaded_in : (w : World) (c : ChunkPos) → UnloadedInRange (unload_answer w c)
unloaded_in w c = elim (cases_Bool (nat_eq (w.tickets c) 0)) [ inl none ↦ rw none tt | inr some ↦ rw some tt ]

posting_in : (w : World) (c : ChunkPos) → SoundWorld w → is_chunk c ≡ true → w.next_job < 2 ^ 64 → AcceptInRange (posting w c)
posting_in w c sound within few = elim (cases_Bool (is_full w.grid c)) [
  | inl full ↦ rw full (let few = sound.rules.count in omega arith, let few = wanted_few w.grid c sound.grid within in omega arith)
  | inr room ↦ rw room few
]

back_next : (w : World) (a : Action) (b : Option BlockPos) → (put_back w a b).next_job ≡ w.next_job
back_next w (action.Set at id) b = refl
back_next w (action.Copy at to) b = refl
back_next w (action.Load c) b = refl
back_next w (action.Unload c) b = refl
back_next w (action.Post c d inner) b = refl
back_next w (action.Send id to) b = refl
back_next w (action.Arrive e) None = refl
back_next w (action.Arrive e) (Some b) = refl
back_next w (action.Every p l inner) b = refl

accepted_next : (w : World) (x : Wish) → (accepted w x).next_job ≤ w.next_job + 1
unfolding accepted posted
accepted_next w x = elim (cases_Bool (is_full w.grid x.chunk)) [
  | inl full ↦ rw full (let same = back_next w x.action x.back in omega arith)
  | inr room ↦ rw room (omega arith)
]

answers_in_range : (rec : Recorded) (w : World) (xs : List Wish) (r : ℕ) → Ending r w → AllByRecursion (WishOk rec) xs → w.next_job + length xs < 2 ^ 64 → AllByRecursion AcceptInRange (answers w xs)
answers_in_range rec w [] r m ok few = tt
answers_in_range rec w (x ∷ xs) r m ok few =
    let more = accepted_next w x in
    (posting_in w x.chunk m.sound ok.0.chunk (omega arith), answers_in_range rec (accepted w x) xs r (accepted_ending rec w x r m ok.0) ok.1 (omega arith))

answers_many : (w : World) (xs : List Wish) → length (answers w xs) ≡ length xs
answers_many w [] = refl
answers_many w (x ∷ xs) = ap suc (answers_many (accepted w x) xs)

-- ---- the tasks that ran

numbers_low : (m : ℕ) (xs : List Ran) → ((n : ℕ) → m ≤ n → count_by (λ (x : Ran). nat_eq x.number n) xs ≡ 0) → m ≤ 2 ^ 64 → AllByRecursion RanInRange xs
numbers_low m [] none few = tt
numbers_low m (x ∷ xs) none few = (
  elim (cases_lt x.number m) [
    | inl low ↦ omega arith
    | inr high ↦ absurd (
        let here = none x.number high in
        let split = count_by-cons (λ (y : Ran). nat_eq y.number x.number) x xs in
        let own = eq-eqb x.number x.number refl in
        let one : cond {A = ℕ} (nat_eq x.number x.number) 1 0 ≡ 1 = rw own refl in
        omega (arith, here, split, one))
  ],
  numbers_low m xs (λ n high. let all = none n high in let split = count_by-cons (λ (y : Ran). nat_eq y.number n) x xs in omega arith) few,
)

-- ---- one event

down_next : (w : World) (r : ℕ) (xs : List Ran) → (run_down w r xs).next_job ≡ w.next_job
unfolding dropped
down_next w r xs = refl

-- no number of the world is above n
record Most (w : World) (n : ℕ) : Type 0 where
  jobs : w.next_job ≤ n
  ids : w.grid.next ≤ n
  ticks : (r : ℕ) → w.tick r ≤ n

of_most : (k : ℕ) → (nat_le 1 k && nat_le k 64) ≡ true → k ≤ 64
of_most k h = leb-true k 64 (and_parts (nat_le 1 k) (nat_le k 64) h).1

module _ (w : World) (n : ℕ) (sound : SoundWorld w) (most : Most w n) (few : n < 2 ^ 62) where
  end_in : (k r t : ℕ) (xs : List Ran) (ks : List Accept) → Allowed w (events.End k r t xs ks) → is_of 64 (events.End k r t xs ks) ≡ true → length (line (end_words k r t xs ks)) < 2 ^ 62
      → InRange (events.End k r t xs ks)
  end_in k r t xs ks ok of short =
      let ticks = ok.0 in
      let lives : w.grid.state r ≡ Dead → ⊥ = λ dead. let never : Ticking ≡ Dead = sym ticks ∙ dead in cc in
      let worker = of_most k of in
      let below = sound.rules.below_next r lives in
      let ids = most.ids in
      let jobs = most.jobs in
      let counter = most.ticks r in
      let next = ok.2 in
      let least = end_least k r t xs ks in
      let many = ap length ok.4 ∙ answers_many (run_down w r xs) (ticked w r xs).wishes in
      let same : (run_down w r xs).next_job ≡ w.next_job = down_next w r xs in
      record {
        small_worker = omega arith;
        wide_region = omega arith;
        wide_tick = omega arith;
        rans = omega arith;
        each_ran = numbers_low w.next_job xs (λ m high. ended_new m w r xs high ok.3) (omega arith);
        answers = omega arith;
        each_answer = let P : List Accept → Type 0 = AllByRecursion AcceptInRange in
            subst P (sym ok.4) (answers_in_range (w.recorded r) (run_down w r xs) (ticked w r xs).wishes r (run_down_ending w r xs sound ticks) (wishes_ok w r xs sound) (omega arith));
      }

  event_in : (e : Event) → Allowed w e → is_of 64 e ≡ true → PostIsShort e → length (line (event_words e)) < 2 ^ 62 → InRange e
  event_in (events.Load k c a) ok of entity short =
      let caller = leb-true k 64 of in
      (omega arith, ok.0, (let P : Loaded → Type 0 = LoadedInRange in subst P (sym ok.1) (loaded_in w c sound ok.0)))
  event_in (events.Unload k c a) ok of entity short =
      let caller = leb-true k 64 of in
      (omega arith, ok.0, (let P : Unloaded → Type 0 = UnloadedInRange in subst P (sym ok.1) (unloaded_in w c)))
  event_in (events.Post k c d x a) ok of entity short =
      let caller = leb-true k 64 of in
      let jobs = most.jobs in (
        omega arith,
        record { chunk = ok.0; delay = ok.1; action = ok.2; may_post = ok.3; entity = entity },
        (let P : Accept → Type 0 = AcceptInRange in subst P (sym ok.4) (posting_in w c sound ok.0 (omega arith))),
      )
  event_in (events.PhaseOpen m) ok of entity short = let sum = ok.3 in omega arith
  event_in (events.Begin k r) ok of entity short =
      let worker = of_most k of in
      let below = sound.rules.below_next r (λ dead. let ready = ok.0 in let never : Ready ≡ Dead = sym ready ∙ dead in cc) in
      let ids = most.ids in
      (omega arith, omega arith)
  event_in (events.End k r t xs ks) ok of entity short = end_in k r t xs ks ok of short
  event_in events.PhaseClose ok of entity short = tt
  event_in events.Finish ok of entity short = tt
  event_in (events.Stop k) ok of entity short = absurd (cc)

-- ---- all events

ends_few : (es : List Entry) → ends es ≤ length es
ends_few [] = omega arith
ends_few (e ∷ es) = let first = one_end e.event in let rest = ends_few es in omega arith
  where
    one_end : (e : Event) → ends_in e ≤ 1
    one_end (events.Load k c a) = omega arith
    one_end (events.Unload k c a) = omega arith
    one_end (events.Post k c d x a) = omega arith
    one_end (events.PhaseOpen n) = omega arith
    one_end (events.Begin k r) = omega arith
    one_end (events.End k r t xs ks) = omega arith
    one_end events.PhaseClose = omega arith
    one_end events.Finish = omega arith
    one_end (events.Stop k) = omega arith

answered_more : (es : List Entry) (e : Entry) → answered (es ++ e ∷ []) ≡ answered es + answers_in e.event
answered_more [] e = omega arith
answered_more (x ∷ es) e = let rest = answered_more es e in omega arith

next_allowed : (w : World) (es : List Entry) (e : Entry) (rest : List Entry) → RunFrom w (es ++ e ∷ rest) → Allowed (after_all w es) e.event
next_allowed w [] e rest run = run.1
next_allowed w (x ∷ es) e rest run = next_allowed (after w x.event) es e rest run.2

abbrev pub AllShort : List Entry → Type 0
AllShort es = AllByRecursion (λ e. PostIsShort e.event) es

module _ (o : Opening) (grid : IsGrid o.grid) where
  -- es went before
  pub all_in : (rest es : List Entry) → RunFrom (start o) (es ++ rest) → list_all (λ (e : Entry). is_of 64 e.event) rest ≡ true → AllShort rest
      → length es + answered es + length (lines_of entry_words rest) ≤ 16777216 → AllInRange rest
  all_in [] es run of short size = tt
  all_in (e ∷ rest) es run of short size =
      let w = after_all (start o) es in
      let both = and_parts (is_of 64 e.event) (list_all (λ (x : Entry). is_of 64 x.event) rest) of in
      let split = ap length (flat_map-cons (λ (x : Entry). line (entry_words x)) e rest) ∙ length-append (line (event_words e.event)) (lines_of entry_words rest) in
      let jobs = jobs_grow o es (e ∷ rest) grid run in
      let ids = ids_grow o es (e ∷ rest) grid run in
      let few = ends_few es in
      let least = event_least e.event in
      let more = answered_more es e in
      let long = length-append es (e ∷ []) in
      let most : Most w (1 + 1821 * 16777216) = record { jobs = omega arith; ids = omega arith; ticks = λ r. let counter = counters_most o es r in omega arith } in
      let P : List Entry → Type 0 = RunFrom (start o) in (
        event_in w (1 + 1821 * 16777216) (good_run o es (e ∷ rest) grid run).sound most (omega arith) e.event (next_allowed (start o) es e rest run) both.0 short.0 (omega arith),
        all_in rest (es ++ e ∷ []) (subst P (sym (append_assoc es (e ∷ []) rest)) run) both.1 short.1 (omega arith),
      )
