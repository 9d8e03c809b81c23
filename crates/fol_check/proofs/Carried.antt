-- What caller 0 does in a replay.
use Rattle.std.proofs.Common.{◌≡◌, ℕ, ◌+◌, ◌<◌, refl, ◌∙◌, ap, arith, true, false, Some, None, [], ◌∷◌, length, get_or, append-nil, IsTrue}
use Rattle.std.specs.Prelude.{◌≢◌, ◌↔◌, Bool, suc, map, take}
use Rattle.std.proofs.lemmas.Bool.{ne_eqb}
use Rattle.std.proofs.lemmas.List.{length-map}
use Rattle.fol_model.specs.declared.events.Event.{Event}
use Rattle.fol_model.specs.declared.events.Event.TheVariants as events
use Rattle.fol_model.specs.declared.places.ChunkPos.{ChunkPos}
use Rattle.fol_model.specs.declared.actions.Action.{Action}
use Rattle.fol_model.specs.declared.events.Accept.{Accept}
use Rattle.fol_model.specs.declared.events.Loaded.{Loaded}
use Rattle.fol_model.specs.declared.events.Loaded.TheVariants as loads
use Rattle.fol_model.specs.declared.events.Unloaded.{Unloaded}
use Rattle.fol_model.specs.declared.events.Unloaded.TheVariants as unloads
use Rattle.fol_model.specs.OpenTick.{is_end}
use Rattle.fol_model.specs.Run.{Run, after}
use Rattle.fol_model.specs.World.{World}
use Rattle.fol_model.specs.Legal.{Order, is_of, order, orders_of, worker_of}
use Rattle.fol_core.specs.Answers.{LoadRecords, PostRecords, UnloadRecords, posting_of}
use Rattle.fol_core.specs.declared.answers.Posting.{Posting}
use Rattle.fol_core.specs.Meaning.{Meaning, is_prepared, world_of}
use Rattle.fol_core.specs.Meaning as meaning
use Rattle.fol_check.specs.Next.{IsNext, next_order}
use Rattle.fol_check.specs.Standing.{Records, Stands}
use Rattle.fol_check.specs.declared.replay.Replay.{Replay}
use Rattle.fol_check.proofs.Answered.{load_recorded, post_recorded, unload_recorded}
use Rattle.fol_check.proofs.Following.{none_left}
use Rattle.fol_check.proofs.Growing.{Grows, grown, grown_by_one, still_at, was}

-- what the replay is once the core has recorded an event: `t` with one command more carried out
pub record Carries (s t u : Replay) : Type 0 where
  pub script : t.script ≡ s.script
  pub next : t.next ≡ s.next
  pub workers : t.workers ≡ s.workers
  pub then_is : u ≡ record t { next = t.next + 1 }
  pub run : Run u.core.opening u.core.history

module _ (s t u : Replay) (e : Event) (carries : Carries s t u) (recorded : meaning.Records s.core t.core (worker_of e) e) where
  pub grows : Grows s u e
  grows =
      let same = ap (λ (x : Replay). x.core) carries.then_is in
      record {
        opening = ap (λ (m : Meaning). m.opening) same ∙ recorded.opening;
        history = ap (λ (m : Meaning). m.history) same ∙ recorded.history;
        prepared = ap is_prepared same ∙ recorded.prepared;
        run = carries.run;
        script = ap (λ (x : Replay). x.script) carries.then_is ∙ carries.script;
      }

  -- an event that one command orders
  pub carried : (x : Order) → Stands s → next_order s.script s.next ≡ Some x → orders_of e ≡ x ∷ [] → is_of 64 e ≡ true
      → ((w : World) → w.finished ≡ false → (after w e).finished ≡ false) → worker_of e ≡ 0 → ((r : ℕ) → is_end r e ≡ false) → Records s u e
  carried x st at own of on caller none =
      let next : u.next ≡ s.next + 1 = ap (λ (y : Replay). y.next) carries.then_is ∙ ap (λ n. n + 1) carries.next in
      let workers : u.workers ≡ s.workers = ap (λ (y : Replay). y.workers) carries.then_is ∙ carries.workers in
      grown_by_one s u e st grows x at next own of (on (world_of s.core) (was s u e st grows).0) caller none workers

-- ---- Finish

pub finished : (s u : Replay) → Stands s → Grows s u events.Finish → s.next ≡ length s.script → u.next ≡ s.next → u.workers ≡ s.workers → Records s u events.Finish
finished s u st g all next workers =
    grown s u events.Finish st g (rw next st.next) (rw next (append-nil (take s.next (map order s.script)))) refl (λ f. next ∙ all) (rw workers st.count)
    (λ k low. rw workers (still_at s u events.Finish st g (suc k) (get_or s.workers.items k None) (ne_eqb 0 (suc k) (λ mine. omega (arith, mine))) (λ p here. refl) (st.workers k low)))

-- no Finish comes before all commands
pub too_early : (s : Replay) → s.next < length s.script → IsNext s events.Finish → ⊥
too_early s early is =
    let least = none_left (map order s.script) is.later s.next (is.finish refl) is.command in
    let many = length-map s.script order in
    omega arith

-- ---- what the core recorded

pub load_carried : (m n : Meaning) (k : ℕ) (c : ChunkPos) (told answer : Loaded) (b : Bool) → LoadRecords m n k c told → (IsTrue b ↔ ((told ≡ answer) × (told ≢ loads.Over))) → b ≡ true
    → meaning.Records m n k (events.Load k c answer)
load_carried m n k c told answer b records test passed =
    let both = test.0 passed in
    let same = both.0 in
    rw (← same) (load_recorded m n k c told records both.1)

pub unload_carried : (m n : Meaning) (k : ℕ) (c : ChunkPos) (told answer : Unloaded) (b : Bool) → UnloadRecords m n k c told → (IsTrue b ↔ ((told ≡ answer) × (told ≢ unloads.Over))) → b ≡ true
    → meaning.Records m n k (events.Unload k c answer)
unload_carried m n k c told answer b records test passed =
    let both = test.0 passed in
    let same = both.0 in
    rw (← same) (unload_recorded m n k c told records both.1)

pub post_carried : (m n : Meaning) (c : ChunkPos) (d : ℕ) (a : Action) (told : Posting) (answer : Accept) (b : Bool) → PostRecords m n 0 c d a told → (IsTrue b ↔ (told ≡ posting_of answer)) → b ≡ true
    → meaning.Records m n 0 (events.Post 0 c d a answer)
post_carried m n c d a told answer b records test passed = post_recorded m n 0 c d a told answer records (test.0 passed)
