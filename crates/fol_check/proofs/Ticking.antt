-- How a worker's tick begins and ends in a replay.
use Rattle.std.proofs.Common.{◌≡◌, ℕ, ◌<◌, ◌≤◌, refl, sym, ◌∙◌, ap, arith, true, false, inl, inr, Some, None, List, [], ◌∷◌, length, drop, filter, get_or, set}
use Rattle.std.specs.Prelude.{◌≢◌, ◌&&◌, Option, suc, zero, nat_eq, nat_le, vec_len}
use Rattle.std.specs.List.{filter_map, list_any}
use Rattle.std.proofs.lemmas.Bool.{and_from, cases_eq, eq-eqb, le-leb, ne_eqb}
use Rattle.std.proofs.lemmas.List.{get_or-set_other, get_or-set_same}
use Rattle.fol_model.specs.ActionStep.{plain_of}
use Rattle.fol_model.specs.FlatTick.{Rising, flat_tick}
use Rattle.fol_model.specs.QueuedTask.{begun}
use Rattle.fol_model.specs.declared.events.Accept.{Accept}
use Rattle.fol_model.specs.declared.events.Event.{Event}
use Rattle.fol_model.specs.declared.events.Event.TheVariants as events
use Rattle.fol_model.specs.declared.tasks.Ran.{Ran}
use Rattle.fol_model.specs.declared.tasks.Task.{Task}
use Rattle.fol_model.specs.OpenTick.{is_end}
use Rattle.fol_model.specs.Run.{Allowed, Run, world}
use Rattle.fol_model.specs.World.{World, due, start}
use Rattle.fol_model.specs.Legal.{IsTurn, asking, idle, ticking, turn, worker_of}
use Rattle.fol_laws.proofs.OutcomeLaws.{due_tasks_rise}
use Rattle.fol_laws.proofs.OwnedRuns.{began_ticks}
use Rattle.fol_chunks.specs.Contents.{flat_of, is_recorded}
use Rattle.fol_data.specs.declared.tick.Tick.{Tick}
use Rattle.fol_tick.specs.Calls.{AreCallsOf, HostCall, hosted, told}
use Rattle.fol_tick.specs.ListAnswers.{Answers}
use Rattle.fol_tick.specs.Runs.{Finishes}
use Rattle.fol_tick.specs.declared.list_host.HostAnswer.{HostAnswer}
use Rattle.fol_core.specs.Answers.{Begins}
use Rattle.fol_world.specs.AtEnd.{end_event}
use Rattle.fol_core.specs.Meaning.{Meaning, Stays, world_of}
use Rattle.fol_core.specs.Meaning as meaning
use Rattle.fol_core.specs.Ticks.{IsTick}
use Rattle.fol_core.specs.declared.answers.BeginAnswer.TheVariants.{Got}
use Rattle.fol_tick_laws.proofs.BegunTicks.{due_is}
use Rattle.fol_tick_laws.proofs.FinishedTicks.{all_ran, all_served}
use Rattle.fol_tick_laws.proofs.OpenTicks.{opens}
use Rattle.fol_tick_laws.proofs.ToldAgain.{told_again, told_marked}
use Rattle.fol_seat_laws.specs.Turns.{Turns}
use Rattle.fol_seat_laws.proofs.Phases.{phase_begun, phase_ended}
use Rattle.fol_seat_laws.proofs.Ticking.{begun_worker}
use Rattle.fol_seat_laws.proofs.Turning.{turned}
use Rattle.fol_check.specs.Asks.{ask_in, told_by}
use Rattle.fol_check.specs.Asked.{HasOpen, IsAt, doing_in}
use Rattle.fol_check.specs.Next.{IsNext, entry_of}
use Rattle.fol_check.specs.Standing.{EndsWith, Records, Stands}
use Rattle.fol_check.specs.declared.asks.Open.{Open}
use Rattle.fol_check.specs.declared.replay.Replay.{Replay}
use Rattle.fol_check.proofs.Answering.{as_many, asks_are, told_is}
use Rattle.fol_check.proofs.Determined.{AreMarked, one_list}
use Rattle.fol_check.proofs.Following.{last_allowed}
use Rattle.fol_check.proofs.Growing.{Grows, grown_by_none, still_at, turns_now, was, world_now}

-- ---- the worker k alone goes on

module _ (s u : Replay) (e : Event) (k : ℕ) (st : Stands s) (g : Grows s u e) (own : worker_of e ≡ suc k) (low : k < 64) where
  mine : nat_eq (worker_of e) (suc k) ≡ true
  mine = eq-eqb (worker_of e) (suc k) own

  -- what it is at is in its place
  pub placed : (o : Option Open) → u.workers.items ≡ set s.workers.items k o → IsAt u.core (suc k) o
      → ((p : Open) (j : ℕ) → j < 64 → j ≢ k → get_or s.workers.items j None ≡ Some p → is_end p.tick.region e ≡ false)
      → (j : ℕ) → j < 64 → IsAt u.core (suc j) (get_or u.workers.items j None)
  placed o items at others j within =
      let many = st.count in
      elim (cases_eq j k) [
        | inl same ↦
            let inside : k < length s.workers.items = omega arith in
            let there : get_or u.workers.items k None ≡ o = rw items (get_or-set_same s.workers.items k o None inside) in
            rw (same, there) at
        | inr other ↦
            let kept : get_or u.workers.items j None ≡ get_or s.workers.items j None = rw items (get_or-set_other s.workers.items k j o None other) in
            let not_mine : nat_eq (worker_of e) (suc j) ≡ false = ne_eqb (worker_of e) (suc j) (λ passed. other (let both = sym own ∙ passed in omega arith)) in
            rw kept (still_at s u e st g (suc j) (get_or s.workers.items j None) not_mine (λ p here. others p j within other here) (st.workers j within))
      ]

one_of : (k : ℕ) → k < 64 → (nat_le 1 (suc k) && nat_le (suc k) 64) ≡ true
one_of k less = and_from (nat_le 1 (suc k)) (nat_le (suc k) 64) (le-leb 1 (suc k) (omega arith)) (le-leb (suc k) 64 (omega arith))

-- ---- a Begin

module _ (s u : Replay) (m : Meaning) (k r : ℕ) (p : Open) (st : Stands s) (g : Grows s u (events.Begin (suc k) r)) (low : k < 64)
    (stays : Stays s.core m) (begins : Begins m u.core (suc k) (suc k) r (Got p.tick)) (idles : get_or s.workers.items k None ≡ None)
    (asks : p.asks.items ≡ filter_map (λ (t : Task). ask_in (plain_of t.action)) p.tick.due) (none : p.answers.items ≡ []) where
  abbrev e : Event
  e = events.Begin (suc k) r

  abbrev w : World
  w = world_of s.core

  same_world : world_of m ≡ w
  same_world = let opening = stays.opening in let history = stays.history in rw (opening, history) refl

  tick_is : IsTick (world_of m) (length m.history) (suc k) r p.tick
  tick_is = begins.2

  due_then : p.tick.due ≡ due (begun w (suc k) r) r
  due_then = due_is (world_of m) (suc k) r (length m.history) p.tick tick_is ∙ ap (λ (x : World). due (begun x (suc k) r) r) same_world

  now_is : world_of u.core ≡ begun w (suc k) r
  now_is = world_now s u e st g

  has_open : HasOpen u.core (suc k) p
  has_open =
      let region = tick_is.region in
      record {
        worker = tick_is.worker;
        is_open = opens m u.core (suc k) (suc k) r p.tick begins;
        ticks = rw (region, now_is) (began_ticks w e r (eq-eqb r r refl));
        seat = rw (region, now_is) (begun_worker w (suc k) r);
        due = rw (region, now_is) due_then;
        asks = rw asks (asks_are p.tick.due);
        answers = rw none tt;
        given = rw none refl;
      }

  begun_at : ticking r (asking (due (begun w (suc k) r) r)) [] ≡ doing_in p
  begun_at =
      let region = tick_is.region in
      rw (none, region, due_then) refl

  turns_begun : Turns (suc k) (start u.core.opening) idle u.core.history (doing_in p)
  turns_begun =
      let before : Turns (suc k) (start s.core.opening) idle s.core.history idle = let at = rw idles at (st.workers k low) in at.turns in
      let turns : Turns (suc k) (start u.core.opening) idle u.core.history (turned (suc k) w idle (entry_of e)) = turns_now s u e st g (suc k) idle before (λ passed. tt) in
      let own : nat_eq (suc k) (suc k) ≡ true = eq-eqb (suc k) (suc k) refl in
      rw (← begun_at) (rw own at turns)

  pub begun_next : u.next ≡ s.next → u.workers.items ≡ set s.workers.items k (Some p) → vec_len u.workers ≡ 64 → Records s u e
  begun_next next items count =
      grown_by_none s u e st g next refl (one_of k low) (((phase_begun w (suc k) r).finished) ∙ (was s u e st g).0) count
      (placed s u e k st g refl low (Some p) items (record { tick = has_open; turns = turns_begun }) (λ q j within other here. refl))

-- ---- an End

-- the turn of a worker that ends a tick: all of its tasks that ask were answered
pub end_turn : (k r q t : ℕ) (ts : List Task) (told xs : List Ran) (ks : List Accept) → IsTurn (ticking r ts told) (events.End k q t xs ks)
    → (ts ≡ []) × (q ≡ r) × (filter (λ (x : Ran). list_any (λ (y : Ran). nat_eq y.number x.number) told) xs ≡ told)
end_turn k r q t [] told xs ks turn = (refl, turn.0, turn.1)
end_turn k r q t (x ∷ ts) told xs ks turn = absurd turn

all_dropped : {X : Type 0} (xs : List X) (n : ℕ) → length xs ≤ n → drop n xs ≡ []
all_dropped [] zero few = refl
all_dropped [] (suc n) few = refl
all_dropped (x ∷ xs) zero few = absurd (omega arith)
all_dropped (x ∷ xs) (suc n) few = all_dropped xs n (omega arith)

ended_with : (w : World) (k r t : ℕ) (xs ys : List Ran) (ks : List Accept) → EndsWith (end_event w k r xs) t ys ks → end_event w k r xs ≡ events.End k r t ys ks
ended_with w k r t xs ys ks ends = let a = ends.0 in let b = ends.1 in let c = ends.2 in cc

-- a tick of which all tasks that ask have their answers, after it ran on these
module _ (s : Replay) (k : ℕ) (p : Open) (st : Stands s) (has : HasOpen s.core (suc k) p) (many : length p.answers.items ≡ length p.asks.items)
    (done : Tick) (xs : List HostCall) (left : List HostAnswer) (given : Answers p.answers.items xs left) (fin : Finishes p.tick done xs) where
  abbrev w' : World
  w' = world_of s.core

  abbrev r' : ℕ
  r' = p.tick.region

  abbrev told' : List Ran
  told' = told_by (hosted p.tick.due) p.answers.items

  is_tick : IsTick (world s.core.opening has.is_open.made.before) (length has.is_open.made.before) p.tick.worker p.tick.region p.tick
  is_tick = has.is_open.is

  served : AreCallsOf p.tick.due xs
  served = all_served s.core.opening has.is_open.made.before p.tick.worker p.tick.region p.tick done xs is_tick fin

  told_now : told (hosted p.tick.due) xs ≡ told'
  told_now = told_is (hosted p.tick.due) p.asks.items p.answers.items left xs has.answers many has.asks served given

  rises : Rising p.tick.due
  rises = rw has.due (due_tasks_rise w' r')

  pub again : filter (λ (x : Ran). list_any (λ (y : Ran). nat_eq y.number x.number) told') done.log.ran ≡ told'
  again = rw (← told_now) (rw (all_ran s.core.opening has.is_open.made.before p.tick.worker p.tick.region p.tick done xs is_tick fin)
      (told_again (is_recorded p.tick.chunks) (flat_of p.tick.body.chunks) p.tick.due xs rises served))

  marked : AreMarked (λ n. list_any (λ (y : Ran). nat_eq y.number n) told') (due w' r')
  marked = rw (← told_now) (rw (← has.due) (told_marked p.tick.due xs rises served))

  answered : drop (length p.answers.items) (hosted p.tick.due) ≡ []
  answered = let all = as_many p.asks.items (hosted p.tick.due) has.asks in all_dropped (hosted p.tick.due) (length p.answers.items) (omega arith)

  -- the outcomes of an End that may come next are those of the tick
  pub same_ran : (t : ℕ) (ran : List Ran) (accepts : List Accept) → Allowed w' (events.End (suc k) r' t ran accepts) → Allowed w' (end_event w' (suc k) r' done.log.ran)
      → filter (λ (x : Ran). list_any (λ (y : Ran). nat_eq y.number x.number) told') ran ≡ told' → ran ≡ done.log.ran
  unfolding flat_tick
  same_ran t ran accepts ok own filtered =
      one_list (w'.recorded r') (λ n. list_any (λ (y : Ran). nat_eq y.number n) told') w'.flat (due w' r') told' ran done.log.ran marked filtered again ok.3 own.3

  -- the End is the turn of the worker
  pub turn_is : (t : ℕ) (ran : List Ran) (accepts : List Accept) → ran ≡ done.log.ran → IsTurn (doing_in p) (events.End (suc k) r' t ran accepts)
  turn_is t ran accepts same = rw answered (refl, rw same again)

-- the core took the finished tick back
module _ (s u : Replay) (k : ℕ) (p : Open) (st : Stands s) (low : k < 64) (here : get_or s.workers.items k None ≡ Some p) (many : length p.answers.items ≡ length p.asks.items)
    (done : Tick) (xs : List HostCall) (left : List HostAnswer) (given : Answers p.answers.items xs left) (fin : Finishes p.tick done xs)
    (recorded : meaning.Records s.core u.core done.worker (end_event (world_of s.core) done.worker done.region done.log.ran)) (run : Run u.core.opening u.core.history) where
  at_p : IsAt s.core (suc k) (Some p)
  at_p = rw here at (st.workers k low)

  has_p : HasOpen s.core (suc k) p
  has_p = at_p.tick

  abbrev v : World
  v = world_of s.core

  pub own_event : end_event v done.worker done.region done.log.ran ≡ end_event v (suc k) p.tick.region done.log.ran
  own_event = let worker = fin.same.worker ∙ has_p.worker in let region = fin.same.region in rw (worker, region) refl

  records_own : meaning.Records s.core u.core (suc k) (end_event v (suc k) p.tick.region done.log.ran)
  records_own =
      let worker = fin.same.worker ∙ has_p.worker in
      record {
        opening = recorded.opening;
        history = recorded.history ∙ (rw (own_event, worker) refl);
        prepared = recorded.prepared;
      }

  own_allowed : Allowed v (end_event v (suc k) p.tick.region done.log.ran)
  own_allowed =
      let opening = records_own.opening in
      let history = records_own.history in
      (last_allowed (start s.core.opening) s.core.history (entry_of (end_event v (suc k) p.tick.region done.log.ran)) (rw (opening, history) at run)).1

  -- an End that may come next is the one that the core recorded
  pub end_told : (t : ℕ) (ran : List Ran) (accepts : List Accept) → IsNext s (events.End (suc k) p.tick.region t ran accepts)
      → EndsWith (end_event v (suc k) p.tick.region done.log.ran) t ran accepts
  end_told t ran accepts is =
      let turn : IsTurn (doing_in p) (events.End (suc k) p.tick.region t ran accepts) = rw here at (is.turn k low refl) in
      let filtered = (end_turn (suc k) p.tick.region p.tick.region t (drop (length p.answers.items) (hosted p.tick.due)) (told_by (hosted p.tick.due) p.answers.items) ran accepts turn).2 in
      let same : ran ≡ done.log.ran = same_ran s k p st has_p many done xs left given fin t ran accepts is.allowed own_allowed filtered in
      (sym is.allowed.2, sym same, rw (← same) (sym is.allowed.4))

  -- and where the End is that one, the replay goes on
  pub end_next : (t : ℕ) (ran : List Ran) (accepts : List Accept) → EndsWith (end_event v (suc k) p.tick.region done.log.ran) t ran accepts
      → u.script ≡ s.script → u.next ≡ s.next → u.workers.items ≡ set s.workers.items k None → vec_len u.workers ≡ 64 → Records s u (events.End (suc k) p.tick.region t ran accepts)
  end_next t ran accepts ends script next items count =
      let is_event : end_event v (suc k) p.tick.region done.log.ran ≡ events.End (suc k) p.tick.region t ran accepts = ended_with v (suc k) p.tick.region t done.log.ran ran accepts ends in
      let g : Grows s u (events.End (suc k) p.tick.region t ran accepts) = record {
        opening = records_own.opening;
        history = records_own.history ∙ (rw is_event refl);
        prepared = records_own.prepared;
        run = run;
        script = script;
      } in
      let ok : IsTurn (doing_in p) (events.End (suc k) p.tick.region t ran accepts) = turn_is s k p st has_p many done xs left given fin t ran accepts (sym ends.1) in
      let turns : Turns (suc k) (start u.core.opening) idle u.core.history (turned (suc k) v (doing_in p) (entry_of (events.End (suc k) p.tick.region t ran accepts)))
      = turns_now s u (events.End (suc k) p.tick.region t ran accepts) st g (suc k) (doing_in p) at_p.turns (λ passed. ok) in
      let own : nat_eq (suc k) (suc k) ≡ true = eq-eqb (suc k) (suc k) refl in
      let none : drop (length p.answers.items) (hosted p.tick.due) ≡ [] = answered s k p st has_p many done xs left given fin in
      let idles : turn v (doing_in p) (events.End (suc k) p.tick.region t ran accepts) ≡ idle
      = ap (λ (ts : List Task). turn v (ticking p.tick.region ts (told_by (hosted p.tick.due) p.answers.items)) (events.End (suc k) p.tick.region t ran accepts)) none in
      let now : Turns (suc k) (start u.core.opening) idle u.core.history (turn v (doing_in p) (events.End (suc k) p.tick.region t ran accepts)) = rw own at turns in
      grown_by_none s u (events.End (suc k) p.tick.region t ran accepts) st g next refl (one_of k low)
      ((phase_ended v p.tick.region ran).finished ∙ (was s u (events.End (suc k) p.tick.region t ran accepts) st g).0) count
      (placed s u (events.End (suc k) p.tick.region t ran accepts) k st g refl low None items (record { tick = tt; turns = rw idles at now })
      (λ q j within other there. ne_eqb p.tick.region q.tick.region (λ same. other (one_seat q j within there same))))
    where
      one_seat : (q : Open) (j : ℕ) → j < 64 → get_or s.workers.items j None ≡ Some q → p.tick.region ≡ q.tick.region → j ≡ k
      one_seat q j within there same =
          let at_q : IsAt s.core (suc j) (Some q) = rw there at (st.workers j within) in
          let theirs : v.worker q.tick.region ≡ suc j = at_q.tick.seat in
          let mine : v.worker p.tick.region ≡ suc k = has_p.seat in
          let both : suc j ≡ suc k = sym theirs ∙ ap v.worker (sym same) ∙ mine in
          omega arith
