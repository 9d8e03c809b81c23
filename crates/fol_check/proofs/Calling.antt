-- What a worker loads and unloads in a replay.
use Rattle.std.proofs.Common.{◌≡◌, ℕ, ◌<◌, refl, sym, ◌∙◌, ap, arith, true, false, inl, inr, Some, None, List, [], ◌∷◌, ◌++◌, length, drop, get_or}
use Rattle.std.specs.Prelude.{◌≢◌, Option, suc, nat_eq, slice_get}
use Rattle.std.proofs.lemmas.Bool.{cases_eq, eq-eqb, leb-true, ne_eqb}
use Rattle.fol_model.specs.ActionStep.{plain_of}
use Rattle.fol_model.specs.declared.places.ChunkPos.{ChunkPos}
use Rattle.fol_model.specs.declared.events.Event.{Event}
use Rattle.fol_model.specs.declared.events.Event.TheVariants as events
use Rattle.fol_model.specs.declared.events.Loaded.{Loaded}
use Rattle.fol_model.specs.declared.events.Loaded.TheVariants as loads
use Rattle.fol_model.specs.declared.events.Unloaded.{Unloaded}
use Rattle.fol_model.specs.declared.events.Unloaded.TheVariants as unloads
use Rattle.fol_model.specs.declared.tasks.Ran.{Ran}
use Rattle.fol_model.specs.declared.tasks.Task.{Task}
use Rattle.fol_model.specs.OpenTick.{is_end}
use Rattle.fol_model.specs.Run.{after}
use Rattle.fol_model.specs.World.{World, start}
use Rattle.fol_model.specs.Legal.{Doing, IsTurn, idle, is_of, orders_of, ticking, turn, worker_of}
use Rattle.fol_tick.specs.Calls.{hosted}
use Rattle.fol_tick.specs.ListAnswers.{is_answer}
use Rattle.fol_tick.specs.declared.list_host.HostAnswer.{HostAnswer}
use Rattle.fol_tick.specs.declared.list_host.HostAnswer.TheVariants as answers
use Rattle.fol_core.specs.Meaning.{world_of}
use Rattle.fol_seat_laws.specs.Turns.{Turns}
use Rattle.fol_seat_laws.proofs.Phases.{phase_loaded, phase_unloaded}
use Rattle.fol_seat_laws.proofs.Turning.{turned}
use Rattle.fol_check.specs.Asks.{IsAnswerTo, action_asked, outcome_answered, told_by}
use Rattle.fol_check.specs.Asked.{HasOpen, IsAt, doing_at, doing_in}
use Rattle.fol_check.specs.Next.{IsNext, entry_of}
use Rattle.fol_check.specs.Standing.{HasAsked, Noted, Notes, Records, Stands}
use Rattle.fol_check.specs.declared.asks.Ask.{Ask}
use Rattle.fol_check.specs.declared.asks.Ask.TheVariants as asks
use Rattle.fol_check.specs.declared.asks.Open.{Open}
use Rattle.fol_check.specs.declared.replay.Replay.{Replay}
use Rattle.fol_check.proofs.Answering.{AskedBy, answers_with, ask_at, asked_by, told_with}
use Rattle.fol_check.proofs.Following.{all_with, dropped_at, first_left}
use Rattle.fol_check.proofs.Growing.{Grows, grown_by_none, still_at, still_tick, turns_now, was}

-- the answer to a call is the turn of a worker whose next task asks for it
pub record IsCall (e : Event) (ask : Ask) (answer : HostAnswer) : Type 0 where
  pub own : (r : ℕ) (t : Task) (ts : List Task) (told : List Ran) → plain_of t.action ≡ action_asked ask → IsTurn (ticking r (t ∷ ts) told) e
  pub turns : (w : World) (r : ℕ) (t : Task) (ts : List Task) (told : List Ran)
      → turn w (ticking r (t ∷ ts) told) e ≡ ticking r ts (told ++ (record { number = t.number; outcome = outcome_answered answer }) ∷ [])
  pub answers : IsAnswerTo ask answer
  pub given : is_answer answer ≡ true
  pub ends : (r : ℕ) → is_end r e ≡ false
  pub orders : orders_of e ≡ []
  pub goes_on : (w : World) → w.finished ≡ false → (after w e).finished ≡ false

module _ (s u : Replay) (e : Event) (k : ℕ) (ask : Ask) (answer : HostAnswer) (st : Stands s) (g : Grows s u e) (own : worker_of e ≡ suc k) (call : IsCall e ask answer) where
  -- the worker's own tick
  noted_at : (p : Open) (o : Option Open) → slice_get p.asks.items (length p.answers.items) ≡ Some ask → Noted answer (Some p) o → IsAt s.core (suc k) (Some p) → IsAt u.core (suc k) o
  noted_at p None next noted at = absurd noted
  noted_at p (Some q) next noted at =
      let hs = p.answers.items in
      let ts = hosted p.tick.due in
      let tick = noted.0 in
      let same_asks = noted.1 in
      let more = noted.2 in
      let kept = still_tick s u e st g (suc k) (Some p) (λ x here. call.ends x.tick.region) at.tick in
      let by : AskedBy (hosted p.tick.due) (length p.answers.items) ask = asked_by p.asks.items (hosted p.tick.due) (length p.answers.items) ask at.tick.asks next in
      let first : drop (length p.answers.items) (hosted p.tick.due) ≡ by.task ∷ drop (suc (length p.answers.items)) (hosted p.tick.due)
      = dropped_at (hosted p.tick.due) by.task (length p.answers.items) by.at in
      let was_at : doing_in p ≡ ticking p.tick.region (by.task ∷ drop (suc (length p.answers.items)) (hosted p.tick.due)) (told_by (hosted p.tick.due) p.answers.items)
      = ap (λ (xs : List Task). ticking p.tick.region xs (told_by (hosted p.tick.due) p.answers.items)) first in
      let mine : nat_eq (worker_of e) (suc k) ≡ true = eq-eqb (worker_of e) (suc k) own in
      let turns : Turns (suc k) (start u.core.opening) idle u.core.history (turned (suc k) (world_of s.core) (doing_in p) (entry_of e))
      = turns_now s u e st g (suc k) (doing_in p) at.turns (λ passed. rw was_at (call.own p.tick.region by.task (drop (suc (length p.answers.items)) (hosted p.tick.due)) (told_by (hosted p.tick.due) p.answers.items) by.plain)) in
      let count : length (p.answers.items ++ answer ∷ []) ≡ suc (length p.answers.items) = one_longer p.answers.items answer in
      let now_at : turn (world_of s.core) (doing_in p) e ≡ doing_in q
      = ap (λ (d : Doing). turn (world_of s.core) d e) was_at
      ∙ call.turns (world_of s.core) p.tick.region by.task (drop (suc (length p.answers.items)) (hosted p.tick.due)) (told_by (hosted p.tick.due) p.answers.items)
      ∙ (rw (more, tick, count) (ap (λ (xs : List Ran). ticking p.tick.region (drop (suc (length p.answers.items)) (hosted p.tick.due)) xs)
      (sym (told_with (hosted p.tick.due) p.answers.items by.task answer by.at)))) in
      record {
        tick = record {
          worker = rw tick kept.worker;
          is_open = rw tick kept.is_open;
          ticks = rw tick kept.ticks;
          seat = rw tick kept.seat;
          due = rw tick kept.due;
          asks = rw (same_asks, tick) kept.asks;
          answers = rw (same_asks, more) (answers_with p.asks.items p.answers.items ask answer kept.answers next call.answers);
          given = rw more (all_with is_answer p.answers.items answer kept.given call.given);
        };
        turns = rw (← now_at) (rw mine at turns);
      }
    where
      one_longer : (hs : List HostAnswer) (h : HostAnswer) → length (hs ++ h ∷ []) ≡ suc (length hs)
      one_longer [] h = refl
      one_longer (x ∷ hs) h = ap suc (one_longer hs h)

  module _ (t : Replay) (workers : t.workers ≡ s.workers) (notes : Notes t u (suc k) answer) (low : k < 64) (asked : HasAsked s (suc k) ask) where
    place_is : asked.place ≡ k
    place_is = let own' = asked.own in omega arith

    held_here : get_or s.workers.items k None ≡ Some asked.held
    held_here = let same = place_is in rw same at asked.at

    at_each : (j : ℕ) → j < 64 → IsAt u.core (suc j) (get_or u.workers.items j None)
    at_each j within = elim (cases_eq j k) [
      | inl same ↦
          let noted : Noted answer (get_or t.workers.items k None) (get_or u.workers.items k None) = notes.own k refl in
          let from : Noted answer (Some asked.held) (get_or u.workers.items k None) = let there = held_here in rw (workers, there) at noted in
          let before : IsAt s.core (suc k) (Some asked.held) = let there = held_here in rw there at (st.workers k low) in
          rw same (noted_at asked.held (get_or u.workers.items k None) asked.asked from before)
      | inr other ↦
          let same : get_or u.workers.items j None ≡ get_or s.workers.items j None = rw workers at (notes.others j (λ both. other (cc))) in
          let not_mine : nat_eq (worker_of e) (suc j) ≡ false = ne_eqb (worker_of e) (suc j) (λ mine. other (let both = sym own ∙ mine in omega arith)) in
          rw same (still_at s u e st g (suc j) (get_or s.workers.items j None) not_mine (λ p is. call.ends p.tick.region) (st.workers j within))
    ]

    pub called : u.next ≡ s.next → is_of 64 e ≡ true → Records s u e
    called next of =
        let count = notes.count in
        grown_by_none s u e st g next call.orders of (call.goes_on (world_of s.core) (was s u e st g).0) (rw (count, workers) st.count) at_each

-- ---- the events

pub load_call : (k : ℕ) (c : ChunkPos) (a : Loaded) → is_answer (answers.Load a) ≡ true → IsCall (events.Load (suc k) c a) (asks.Load c) (answers.Load a)
load_call k c a given = record {
  own = λ r t ts told plain. plain;
  turns = λ w r t ts told. refl;
  answers = tt;
  given = given;
  ends = λ r. refl;
  orders = let other : nat_eq (suc k) 0 ≡ false = ne_eqb (suc k) 0 (λ none. omega (arith, none)) in rw other refl;
  goes_on = λ w going. (phase_loaded w c).finished ∙ going;
}

pub unload_call : (k : ℕ) (c : ChunkPos) (a : Unloaded) → is_answer (answers.Unload a) ≡ true → IsCall (events.Unload (suc k) c a) (asks.Unload c) (answers.Unload a)
unload_call k c a given = record {
  own = λ r t ts told plain. plain;
  turns = λ w r t ts told. refl;
  answers = tt;
  given = given;
  ends = λ r. refl;
  orders = let other : nat_eq (suc k) 0 ≡ false = ne_eqb (suc k) 0 (λ none. omega (arith, none)) in rw other refl;
  goes_on = λ w going. (phase_unloaded w c).finished ∙ going;
}

pub load_is_answer : (a : Loaded) → a ≢ loads.Over → is_answer (answers.Load a) ≡ true
load_is_answer loads.Counted on = refl
load_is_answer (loads.Full present wanted) on = refl
load_is_answer loads.Over on = absurd (on refl)

pub unload_is_answer : (a : Unloaded) → a ≢ unloads.Over → is_answer (answers.Unload a) ≡ true
unload_is_answer unloads.Lowered on = refl
unload_is_answer unloads.NoTicket on = refl
unload_is_answer unloads.Over on = absurd (on refl)

-- ---- what is next

-- the tasks that still ask are those behind the answers
asked_at : (s : Replay) (k : ℕ) (ask : Ask) (p : Open) (t : Task) (ts : List Task) → k < 64 → get_or s.workers.items k None ≡ Some p → HasOpen s.core (suc k) p
    → drop (length p.answers.items) (hosted p.tick.due) ≡ t ∷ ts → plain_of t.action ≡ action_asked ask → HasAsked s (suc k) ask
asked_at s k ask p t ts low here has left plain = record {
  within = omega arith;
  place = k;
  own = refl;
  held = p;
  at = here;
  asked = ask_at p.asks.items (hosted p.tick.due) (length p.answers.items) t ask has.asks (first_left (hosted p.tick.due) ts t (length p.answers.items) (sym left)) plain;
}

module _ (s : Replay) (k : ℕ) (st : Stands s) (low : k < 64) where
  load_in : (c : ChunkPos) (a : Loaded) (p : Open) (ts : List Task) (told : List Ran) → get_or s.workers.items k None ≡ Some p → HasOpen s.core (suc k) p
      → drop (length p.answers.items) (hosted p.tick.due) ≡ ts → IsTurn (ticking p.tick.region ts told) (events.Load (suc k) c a) → HasAsked s (suc k) (asks.Load c)
  load_in c a p [] told here has left turn = absurd turn
  load_in c a p (t ∷ ts) told here has left turn = asked_at s k (asks.Load c) p t ts low here has left turn

  load_from : (c : ChunkPos) (a : Loaded) (o : Option Open) → get_or s.workers.items k None ≡ o → IsAt s.core (suc k) o → IsTurn (doing_at o) (events.Load (suc k) c a) → HasAsked s (suc k) (asks.Load c)
  load_from c a None here at turn = absurd turn
  load_from c a (Some p) here at turn = load_in c a p (drop (length p.answers.items) (hosted p.tick.due)) (told_by (hosted p.tick.due) p.answers.items) here at.tick refl turn

  unload_in : (c : ChunkPos) (a : Unloaded) (p : Open) (ts : List Task) (told : List Ran) → get_or s.workers.items k None ≡ Some p → HasOpen s.core (suc k) p
      → drop (length p.answers.items) (hosted p.tick.due) ≡ ts → IsTurn (ticking p.tick.region ts told) (events.Unload (suc k) c a) → HasAsked s (suc k) (asks.Unload c)
  unload_in c a p [] told here has left turn = absurd turn
  unload_in c a p (t ∷ ts) told here has left turn = asked_at s k (asks.Unload c) p t ts low here has left turn

  unload_from : (c : ChunkPos) (a : Unloaded) (o : Option Open) → get_or s.workers.items k None ≡ o → IsAt s.core (suc k) o → IsTurn (doing_at o) (events.Unload (suc k) c a) → HasAsked s (suc k) (asks.Unload c)
  unload_from c a None here at turn = absurd turn
  unload_from c a (Some p) here at turn = unload_in c a p (drop (length p.answers.items) (hosted p.tick.due)) (told_by (hosted p.tick.due) p.answers.items) here at.tick refl turn

-- a load of a worker that may come next is what its tick asks for
pub load_asked : (s : Replay) (k : ℕ) (c : ChunkPos) (a : Loaded) → Stands s → IsNext s (events.Load (suc k) c a) → HasAsked s (suc k) (asks.Load c)
load_asked s k c a st is =
    let most = leb-true (suc k) 64 is.worker in
    let low : k < 64 = omega arith in
    load_from s k st low c a (get_or s.workers.items k None) refl (st.workers k low) (is.turn k low refl)

pub unload_asked : (s : Replay) (k : ℕ) (c : ChunkPos) (a : Unloaded) → Stands s → IsNext s (events.Unload (suc k) c a) → HasAsked s (suc k) (asks.Unload c)
unload_asked s k c a st is =
    let most = leb-true (suc k) 64 is.worker in
    let low : k < 64 = omega arith in
    unload_from s k st low c a (get_or s.workers.items k None) refl (st.workers k low) (is.turn k low refl)
