-- A replay that went on by one event.
use Rattle.std.proofs.Common.{◌≡◌, ℕ, ◌+◌, ◌<◌, ◌≤◌, refl, sym, ◌∙◌, ap, arith, true, false, Some, None, List, [], ◌∷◌, ◌++◌, length, map, take, drop, get_or, append-nil, IsTrue}
use Rattle.std.specs.Prelude.{◌↔◌, Bool, Option, suc, zero, nat_eq, slice_get, vec_len}
use Rattle.std.proofs.lemmas.Bool.{eq-eqb, ne_eqb}
use Rattle.std.proofs.lemmas.List.{take-append-drop}
use Rattle.std.proofs.lemmas.Option.{slice_get-map}
use Rattle.fol_model.specs.declared.openings.Opening.{Opening}
use Rattle.fol_model.specs.declared.events.Entry.{Entry}
use Rattle.fol_model.specs.declared.events.Event.{Event}
use Rattle.fol_model.specs.OpenTick.{is_end}
use Rattle.fol_model.specs.World.{World, start}
use Rattle.fol_model.specs.Run.{Allowed, Run, RunFrom, after, world}
use Rattle.fol_model.specs.Legal.{Doing, IsTurn, Order, idle, is_of, order, orders, orders_of, worker_of}
use Rattle.fol_model.specs.SoFar.{SoFar, TicksSoFar}
use Rattle.fol_model.specs.declared.scripts.Command.{Command}
use Rattle.fol_laws.proofs.LongerRuns.{world_more}
use Rattle.fol_laws.proofs.OwnedRuns.{untouched_along}
use Rattle.fol_laws.proofs.WholeRuns.{Good, good_run}
use Rattle.fol_core.specs.Meaning as meaning
use Rattle.fol_core.specs.Meaning.{Meaning, is_prepared, world_of}
use Rattle.fol_seat_laws.specs.Turns.{Turns}
use Rattle.fol_seat_laws.proofs.Turning.{turned, turns_more}
use Rattle.fol_tick_laws.proofs.OpenTicks.{open_more}
use Rattle.fol_tick_laws.proofs.Unprepared.{still_none}
use Rattle.fol_check.specs.Asked.{HasTick, IsAt, doing_at}
use Rattle.fol_check.specs.Next.{IsNext, entry_of, next_order}
use Rattle.fol_check.specs.Standing.{Records, Stands}
use Rattle.fol_check.specs.declared.asks.Open.{Open}
use Rattle.fol_check.specs.declared.replay.Replay.{Replay}
use Rattle.fol_check.proofs.Following.{all_with, first_left, last_allowed, last_of, last_turn, left_behind, orders_with, taken_with, turns_so_far}

-- ---- a replay stands for the beginning of a history of the script

pub so_far : (s : Replay) → Stands s → SoFar s.core.opening s.script 64 s.core.history
so_far s st = record {
  run = st.run;
  later = drop s.next (map order s.script);
  commands = ap (λ (os : List Order). os ++ drop s.next (map order s.script)) st.commands ∙ take-append-drop s.next (map order s.script);
  workers = st.callers;
  ticks = λ k low high. so_far_at s st k low high;
  finish = λ finished. none_behind s.next s.script (st.done finished);
}
  where
    none_behind : (n : ℕ) (cs : List Command) → n ≡ length cs → drop n (map order cs) ≡ []
    none_behind n [] e = rw e refl
    none_behind n (c ∷ cs) e = rw e (none_behind (length cs) cs refl)

    so_far_at : (s : Replay) → Stands s → (k : ℕ) → 1 ≤ k → k ≤ 64 → TicksSoFar k (start s.core.opening) idle s.core.history
    so_far_at s st zero low high = absurd (omega arith)
    so_far_at s st (suc k) low high = turns_so_far (suc k) (start s.core.opening) idle (doing_at (get_or s.workers.items k None)) s.core.history (st.workers k (omega arith)).turns

-- an event with which the history is the beginning of one is next
pub next_is : (s : Replay) (e : Event) → Stands s → SoFar s.core.opening s.script 64 (s.core.history ++ entry_of e ∷ []) → IsNext s e
next_is s e st so =
    let o = s.core.opening in
    let h = s.core.history in
    let last = last_allowed (start o) h (entry_of e) so.run in
    let whole : (orders h ++ orders_of e) ++ so.later ≡ map order s.script = ap (λ (os : List Order). os ++ so.later) (sym (orders_with h (entry_of e))) ∙ so.commands in
    record {
      going = last.0;
      allowed = last.1;
      later = so.later;
      command = left_behind (map order s.script) (orders h) (orders_of e) so.later s.next st.commands whole;
      finish = λ finished. so.finish (ap (λ (w : World). w.finished) (world_more (start o) h (entry_of e)) ∙ finished);
      worker = last_of (λ (x : Entry). is_of 64 x.event) h (entry_of e) so.workers;
      turn = λ k low own. last_turn (suc k) (start o) idle (doing_at (get_or s.workers.items k None)) h (entry_of e) (st.workers k low).turns
          (so.ticks (suc k) (omega arith) (omega arith)) (eq-eqb (worker_of e) (suc k) own);
    }

-- ---- one event more

-- the core of the one is that of the other after the event
pub record Grows (s u : Replay) (e : Event) : Type 0 where
  pub opening : u.core.opening ≡ s.core.opening
  pub history : u.core.history ≡ s.core.history ++ entry_of e ∷ []
  pub prepared : is_prepared u.core ≡ is_prepared s.core
  pub run : Run u.core.opening u.core.history
  pub script : u.script ≡ s.script

-- a command that is next is one of the script
pub order_within : (cs : List Command) (n : ℕ) (x : Order) → next_order cs n ≡ Some x → n < length cs
order_within [] n x at = absurd (cc)
order_within (c ∷ cs) zero x at = omega arith
order_within (c ∷ cs) (suc n) x at = let rest = order_within cs n x at in omega arith

module _ (s u : Replay) (e : Event) (st : Stands s) (g : Grows s u e) where
  abbrev m : Meaning
  m = s.core

  abbrev w : World
  w = world_of s.core

  run_with : RunFrom (start m.opening) (m.history ++ entry_of e ∷ [])
  run_with = rw (g.opening, g.history) at g.run

  pub was : (w.finished ≡ false) × Allowed w e
  was = last_allowed (start m.opening) m.history (entry_of e) run_with

  pub good : Good m.opening w
  good = good_run m.opening m.history [] st.grid (rw append-nil st.run)

  pub world_now : world_of u.core ≡ after w e
  world_now = ap (λ (o : Opening). world o u.core.history) g.opening ∙ ap (world m.opening) g.history ∙ world_more (start m.opening) m.history (entry_of e)

  core_records : meaning.Records s.core u.core (worker_of e) e
  core_records = record { opening = g.opening; history = g.history; prepared = g.prepared }

  -- another worker stays at what it was at
  pub still_tick : (k : ℕ) (o : Option Open) → ((p : Open) → o ≡ Some p → is_end p.tick.region e ≡ false) → HasTick m k o → HasTick u.core k o
  still_tick k None other has = tt
  still_tick k (Some p) other has =
      let none = other p refl in
      let rest : RunFrom w ((entry_of e ∷ []) ++ []) = (was.0, was.1, tt) in
      let kept = untouched_along m.opening w (entry_of e ∷ []) [] p.tick.region good has.ticks (none, tt) rest in
      record {
        worker = has.worker;
        is_open = open_more m u.core (worker_of e) e p.tick core_records none has.is_open;
        ticks = rw world_now kept.ticks;
        seat = rw world_now (kept.worker ∙ has.seat);
        due = rw world_now (has.due ∙ sym kept.due);
        asks = has.asks;
        answers = has.answers;
        given = has.given;
      }

  pub turns_now : (k : ℕ) (f : Doing) → Turns k (start m.opening) idle m.history f → (IsTrue (nat_eq (worker_of e) k) → IsTurn f e)
      → Turns k (start u.core.opening) idle u.core.history (turned k w f (entry_of e))
  turns_now k f turns ok = rw (g.opening, g.history) (turns_more k (start m.opening) idle f m.history (entry_of e) turns ok)

  pub still_at : (k : ℕ) (o : Option Open) → nat_eq (worker_of e) k ≡ false → ((p : Open) → o ≡ Some p → is_end p.tick.region e ≡ false) → IsAt m k o → IsAt u.core k o
  still_at k o not_own other at = record {
    tick = still_tick k o other at.tick;
    turns = rw not_own at (turns_now k (doing_at o) at.turns (λ own. absurd (let never : false ≡ true = sym not_own ∙ own in cc)));
  }

  pub grown : u.next ≤ length s.script → take s.next (map order s.script) ++ orders_of e ≡ take u.next (map order s.script) → is_of 64 e ≡ true
      → ((after w e).finished ≡ true → u.next ≡ length s.script) → vec_len u.workers ≡ 64
      → ((k : ℕ) → k < 64 → IsAt u.core (suc k) (get_or u.workers.items k None)) → Records s u e
  grown next taken of done count workers =
      let script = g.script in
      record {
        stands = record {
          grid = rw g.opening st.grid;
          run = g.run;
          unprepared = still_none s.core u.core g.prepared st.unprepared;
          next = rw script next;
          commands = rw (script, g.history) (orders_with m.history (entry_of e) ∙ ap (λ (os : List Order). os ++ orders_of e) st.commands ∙ taken);
          callers = rw g.history (all_with (λ (x : Entry). is_of 64 x.event) m.history (entry_of e) st.callers of);
          done = rw (script, world_now) done;
          count = count;
          workers = workers;
        };
        opening = g.opening;
        script = g.script;
        history = g.history;
      }

  -- no command is carried out, and the event is no Finish
  pub grown_by_none : u.next ≡ s.next → orders_of e ≡ [] → is_of 64 e ≡ true → (after w e).finished ≡ false → vec_len u.workers ≡ 64
      → ((k : ℕ) → k < 64 → IsAt u.core (suc k) (get_or u.workers.items k None)) → Records s u e
  grown_by_none next none of on count workers =
      grown (rw next st.next)
      (rw (none, next) (append-nil (take s.next (map order s.script))))
      of (λ never. absurd (let x : false ≡ true = sym on ∙ never in cc)) count workers

  -- one command is carried out, by caller 0
  pub grown_by_one : (x : Order) → next_order s.script s.next ≡ Some x → u.next ≡ s.next + 1 → orders_of e ≡ x ∷ [] → is_of 64 e ≡ true → (after w e).finished ≡ false
      → worker_of e ≡ 0 → ((r : ℕ) → is_end r e ≡ false) → u.workers ≡ s.workers → Records s u e
  grown_by_one x at next own of on caller none workers =
      let there : slice_get (map order s.script) s.next ≡ Some x = slice_get-map order s.script s.next ∙ at in
      let within : s.next < length s.script = order_within s.script s.next x at in
      grown (rw next (omega arith))
      (rw (own, next) (sym (taken_with (map order s.script) x s.next there)))
      of (λ never. absurd (let y : false ≡ true = sym on ∙ never in cc)) (rw workers st.count)
      (λ k low. rw workers (still_at (suc k) (get_or s.workers.items k None) (ne_eqb (worker_of e) (suc k) (λ mine. omega (arith, caller, mine))) (λ p here. none p.tick.region) (st.workers k low)))

-- ---- what is next

-- an event of caller 0 is what the next command asks for
pub ordered_next : (s : Replay) (e : Event) (x : Order) → IsNext s e → orders_of e ≡ x ∷ [] → next_order s.script s.next ≡ Some x
ordered_next s e x is own =
    let first : x ∷ is.later ≡ drop s.next (map order s.script) = ap (λ (os : List Order). os ++ is.later) (sym own) ∙ is.command in
    sym (slice_get-map order s.script s.next) ∙ first_left (map order s.script) is.later x s.next first

module _ (s : Replay) (x : Order) (cs : List Command) (b : Bool) (same : cs ≡ s.script) (test : IsTrue b ↔ (next_order cs s.next ≡ Some x)) where
  -- where the next command asks for something else, the event may not come next
  pub unordered : (e : Event) → b ≡ false → orders_of e ≡ x ∷ [] → IsNext s e → ⊥
  unordered e not own is =
      let at : next_order cs s.next ≡ Some x = rw same (ordered_next s e x is own) in
      let passed : b ≡ true = test.1 at in
      let never : false ≡ true = sym not ∙ passed in
      cc

  pub next_at : b ≡ true → next_order s.script s.next ≡ Some x
  next_at passed = rw same at (test.0 passed)

  pub next_within : b ≡ true → s.next < length s.script
  next_within passed = order_within s.script s.next x (next_at passed)
