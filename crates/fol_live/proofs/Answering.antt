-- What a world answers, from what the core with its offers did.
use Rattle.std.proofs.Common.{◌≡◌, ℕ, refl, sym, ◌∙◌, ap, subst, inl, inr, List, [], ◌∷◌, ◌++◌, Bool, true, false}
use Rattle.std.specs.Prelude.{Result, Ok, Err, IfOk, OnErr}
use Rattle.std.specs.List.{AllByRecursion}
use Rattle.std.proofs.lemmas.List.{append-nil}
use Rattle.fol_laws.proofs.SortedRows.{all_append}
use Rattle.fol_model.specs.declared.places.ChunkPos.{ChunkPos}
use Rattle.fol_model.specs.declared.actions.Action.{Action}
use Rattle.fol_model.specs.declared.events.Entry.{Entry}
use Rattle.fol_model.specs.declared.events.Event.{Event}
use Rattle.fol_model.specs.declared.events.Event.TheVariants as events
use Rattle.fol_model.specs.declared.events.Loaded.{Loaded}
use Rattle.fol_model.specs.declared.events.Loaded.TheVariants as loads
use Rattle.fol_model.specs.declared.events.Unloaded.{Unloaded}
use Rattle.fol_model.specs.declared.events.Unloaded.TheVariants as unloads
use Rattle.fol_model.specs.GridNumbers.{IsGrid}
use Rattle.fol_model.specs.Legal.{worker_of}
use Rattle.fol_model.specs.World.{World}
use Rattle.fol_model.specs.Run.{Run}
use Rattle.fol_core.specs.declared.answers.Posting.{Posting}
use Rattle.fol_core.specs.declared.answers.Posting.TheVariants as postings
use Rattle.fol_core.specs.declared.answers.Close.{Close}
use Rattle.fol_core.specs.declared.answers.Close.TheVariants as closes
use Rattle.fol_core.specs.declared.answers.Finish.{Finish}
use Rattle.fol_core.specs.declared.answers.Finish.TheVariants as finishes
use Rattle.fol_core.specs.Answers.{CloseRecords, FinishRecords, LoadRecords, PostRecords, StopRecords, UnloadRecords, is_over}
use Rattle.fol_core.specs.Meaning.{Meaning, Records, Stays, Unchanged, world_of}
use Rattle.fol_seat_laws.specs.Signed.{IsSigned, is_named, is_start}
use Rattle.fol_offers.specs.InTurn.{InTurn}
use Rattle.fol_offers.specs.Shown.{CallsBack, Follows, IsLearnt, every}
use Rattle.fol_offers.specs.Shown as offers
use Rattle.fol_offers.proofs.CalledBack.{back_over}
use Rattle.fol_live.specs.Kept.{IsKept}
use Rattle.fol_live.specs.Shown.{shown}
use Rattle.fol_live.specs.Turns.{Answers, IsLate, Learns, SameWorld, Stops}
use Rattle.fol_live.proofs.Bare.{bare, bare_stays, bare_stop, err_map, ok_map}
use Rattle.fol_live.proofs.Keeping.{keeps_first}
use Rattle.fol_live.proofs.LateBegins.{learns_none}

-- ---- what is added to a history

-- the same opening, and signed entries behind the history, or none
pub record Grows (m n : Meaning) : Type 0 where
  pub opening : n.opening ≡ m.opening
  pub added : List Entry
  pub history : n.history ≡ m.history ++ added
  pub signed : AllByRecursion IsSigned added

pub grows_same : (m n : Meaning) → Stays m n → Grows m n
grows_same m n s = record { opening = s.opening; added = []; history = s.history ∙ sym (append-nil m.history); signed = tt }

grows_unchanged : (m n : Meaning) → Unchanged m n → Grows m n
grows_unchanged m n u = record { opening = u.opening; added = []; history = u.history ∙ sym (append-nil m.history); signed = tt }

pub grows_one : (m n : Meaning) (k : ℕ) (event : Event) → (is_named event ≡ true → worker_of event ≡ k) → Records m n k event → Grows m n
grows_one m n k event own r = record { opening = r.opening; added = (record { by = k; event = event }) ∷ []; history = r.history; signed = (own, tt) }

pub grows_load : (m n : Meaning) (k : ℕ) (c : ChunkPos) (a : Loaded) → LoadRecords m n k c a → Grows m n
grows_load m n k c loads.Counted r = grows_one m n k _ (λ named. refl) r
grows_load m n k c (loads.Full present wanted) r = grows_one m n k _ (λ named. refl) r
grows_load m n k c loads.Over u = grows_unchanged m n u

pub grows_unload : (m n : Meaning) (k : ℕ) (c : ChunkPos) (a : Unloaded) → UnloadRecords m n k c a → Grows m n
grows_unload m n k c unloads.Lowered r = grows_one m n k _ (λ named. refl) r
grows_unload m n k c unloads.NoTicket r = grows_one m n k _ (λ named. refl) r
grows_unload m n k c unloads.Over u = grows_unchanged m n u

pub grows_post : (m n : Meaning) (k : ℕ) (c : ChunkPos) (d : ℕ) (x : Action) (a : Posting) → PostRecords m n k c d x a → Grows m n
grows_post m n k c d x (postings.Posted number) r = grows_one m n k _ (λ named. refl) r
grows_post m n k c d x (postings.Full present wanted) r = grows_one m n k _ (λ named. refl) r
grows_post m n k c d x (postings.Over y) u = grows_unchanged m n u

pub grows_close : (m n : Meaning) (k : ℕ) (a : Close) → CloseRecords m n k a → Grows m n
grows_close m n k closes.Closed r = grows_one m n k _ (λ named. absurd (cc)) r
grows_close m n k (closes.NotYet q) u = grows_unchanged m n u
grows_close m n k closes.NoPhase u = grows_unchanged m n u
grows_close m n k closes.Over u = grows_unchanged m n u

pub grows_finish : (m n : Meaning) (k : ℕ) (a : Finish) → FinishRecords m n k a → Grows m n
grows_finish m n k finishes.Finished r = grows_one m n k _ (λ named. absurd (cc)) r
grows_finish m n k finishes.InPhase u = grows_unchanged m n u
grows_finish m n k finishes.Over u = grows_unchanged m n u

pub grows_stop : (m n : Meaning) (k : ℕ) (over : Bool) → StopRecords m n k over → Grows m n
grows_stop m n k true u = grows_unchanged m n u
grows_stop m n k false r = grows_one m n k _ (λ named. refl) r

pub grows_answer : {A E : Type 0} (m n : Meaning) (records : Meaning → Meaning → A → Type 0) (r : Result A E) → ((a : A) → records m n a → Grows m n) → IfOk r (λ a. records m n a) → OnErr r (Stays m n)
    → Grows m n
grows_answer m n records (Ok a) each recorded refused = each a recorded
grows_answer m n records (Err e) each recorded refused = grows_same m n refused

-- ---- what a world keeps

-- what the offers tell of themselves
pub record Tells (s : offers.Shown) : Type 0 where
  pub grid : IsGrid s.core.opening.grid
  pub run : Run s.core.opening s.core.history
  pub turns : InTurn s

pub late_of : (m : Meaning) (called : ℕ → Bool) (by : ℕ) (es : List Entry) → AllByRecursion (IsLearnt m called by) es → AllByRecursion (IsLate by) es
late_of m called by [] all = tt
late_of m called by (e ∷ es) all = (record { own = ap (λ (x : Entry). x.by) all.0.is; begins = ap (λ (x : Entry). is_start x.event) all.0.is }, late_of m called by es all.1)

pub late_signed : (by : ℕ) (es : List Entry) → AllByRecursion (IsLate by) es → AllByRecursion IsSigned es
late_signed by [] all = tt
late_signed by (e ∷ es) all = (λ named. absurd (unnamed e.event all.0.begins named), late_signed by es all.1)
  where
    unnamed : (event : Event) → is_start event ≡ true → is_named event ≡ true → ⊥
    unnamed (events.Begin worker r) starts named = cc
    unnamed (events.Load caller c a) starts named = cc
    unnamed (events.Unload caller c a) starts named = cc
    unnamed (events.Post caller c d x a) starts named = cc
    unnamed (events.PhaseOpen n) starts named = cc
    unnamed (events.End worker r tick ran accepts) starts named = cc
    unnamed events.PhaseClose starts named = cc
    unnamed events.Finish starts named = cc
    unnamed (events.Stop caller) starts named = cc

module _ (old cleared new : offers.Shown) (kept : IsKept (shown old)) (tells : Tells new) (workers : new.workers ≡ old.workers) (grows : Grows cleared.core new.core) where
  -- behind Begins that were learnt, the whole keeps what a world keeps
  kept_behind : (learnt : List Entry) → cleared.core.history ≡ old.core.history ++ learnt → AllByRecursion IsSigned learnt → IsKept (shown new)
  kept_behind learnt history signed = record {
    grid = tells.grid;
    run = tells.run;
    signed = rw (grows.history, history) (all_append IsSigned (old.core.history ++ learnt) grows.added (all_append IsSigned old.core.history learnt kept.signed signed) grows.signed);
    turns = tells.turns;
  }

  -- and so did what there was before the event
  kept_between : IsKept (shown new) → cleared.workers ≡ new.workers → IsKept (shown cleared)
  kept_between whole same =
      let opening = sym grows.opening in
      let history = grows.history in
      rw (same, opening) (keeps_first new.workers new.core.opening cleared.core.history grows.added (rw (← history) whole))

pub learns_by : (old cleared new : offers.Shown) (by : ℕ) → IsKept (shown old) → Tells new → new.workers ≡ old.workers → Grows cleared.core new.core → SameWorld (shown old) (shown cleared)
    → (learnt : List Entry) → cleared.core.history ≡ old.core.history ++ learnt → AllByRecursion (IsLate by) learnt → Learns (shown old) (shown cleared) by × IsKept (shown new)
learns_by old cleared new by kept tells workers grows same learnt history late =
    let whole = kept_behind old cleared new kept tells workers grows learnt history (late_signed by learnt late) in (
      record { same = same; learnt = learnt; history = history; late = late; keeps = kept_between old cleared new kept tells workers grows whole (same.workers ∙ sym workers) },
      whole,
    )

pub learns_back : (old cleared new : offers.Shown) (by : ℕ) (called : ℕ → Bool) → IsKept (shown old) → Tells new → new.workers ≡ old.workers → Grows cleared.core new.core
    → CallsBack old cleared by called → Learns (shown old) (shown cleared) by × IsKept (shown new)
learns_back old cleared new by called kept tells workers grows back =
    learns_by old cleared new by kept tells workers grows (record { opening = back.opening; slots = back.slots; workers = back.workers }) back.learnt back.history
    (late_of old.core called by back.learnt back.begins)

pub learns_still : (old new : offers.Shown) (by : ℕ) → IsKept (shown old) → Tells new → new.workers ≡ old.workers → Grows old.core new.core
    → Learns (shown old) (shown old) by × IsKept (shown new)
learns_still old new by kept tells workers grows =
    (learns_none (shown old) by kept, kept_behind old old new kept tells workers grows [] (sym (append-nil old.core.history)) tt)

-- ---- what a world answers

module _ {A E : Type 0} (old new : offers.Shown) (by : ℕ) (gives : World → A) (records : Meaning → Meaning → A → Type 0) (r : Result A E)
    (each : (m n : Meaning) (a : A) → records m n a → Grows m n) (bares : (m n : Meaning) (a : A) → records m n a → records (bare m) (bare n) a)
    (kept : IsKept (shown old)) (tells : Tells new) (workers : new.workers ≡ old.workers) (slots : new.slots ≡ old.slots) where
  -- where the core did this in the world as it was after Begins that were learnt
  answers_in : (cleared : offers.Shown) → cleared.workers ≡ old.workers → cleared.slots ≡ old.slots → Learns (shown old) (shown cleared) by × IsKept (shown new)
      → IfOk r (λ a. a ≡ gives (world_of cleared.core)) → IfOk r (λ a. records cleared.core new.core a) → OnErr r (Stays cleared.core new.core)
      → Grows cleared.core new.core → Answers (shown old) (shown new) by gives records r
  answers_in cleared w s learns answer recorded refused grows = record {
    now = shown cleared;
    learns = learns.0;
    answer = answer;
    recorded = ok_map (λ a. records cleared.core new.core a) (λ a. records (bare cleared.core) (bare new.core) a) r (bares cleared.core new.core) recorded;
    refused = err_map (Stays cleared.core new.core) (Stays (bare cleared.core) (bare new.core)) r (bare_stays cleared.core new.core) refused;
    same = record { opening = grows.opening; slots = slots ∙ sym s; workers = workers ∙ sym w };
    keeps = learns.1;
  }

  -- after some were called back
  pub answers_back : {called : ℕ → Bool} → Follows old new by called gives records r → Answers (shown old) (shown new) by gives records r
  answers_back {called} f =
      let grows = grows_answer f.cleared.core new.core records r (each f.cleared.core new.core) f.recorded f.refused in
      elim f.clears [
        | inl back ↦ answers_in f.cleared back.workers back.slots (learns_back old f.cleared new by called kept tells workers grows back) f.answer f.recorded f.refused grows
        | inr none ↦
            let same = none.1 in
            answers_in f.cleared (ap (λ (s : offers.Shown). s.workers) same) (ap (λ (s : offers.Shown). s.slots) same)
            (subst (λ (s : offers.Shown). Grows s.core new.core → Learns (shown old) (shown s) by × IsKept (shown new)) (sym same) (learns_still old new by kept tells workers) grows)
            f.answer f.recorded f.refused grows
      ]

  -- where none had to be
  pub answers_still : IfOk r (λ a. a ≡ gives (world_of old.core)) → IfOk r (λ a. records old.core new.core a) → OnErr r (Stays old.core new.core) → Answers (shown old) (shown new) by gives records r
  answers_still answer recorded refused =
      let grows = grows_answer old.core new.core records r (each old.core new.core) recorded refused in
      answers_in old refl refl (learns_still old new by kept tells workers grows) answer recorded refused grows

pub stops_back : (old new : offers.Shown) (by : ℕ) → IsKept (shown old) → Tells new → new.workers ≡ old.workers → offers.Stops old new by → Stops (shown old) (shown new) by
stops_back old new by kept tells workers did =
    let m = did.recalled in
    let over : Bool = is_over (world_of m.core) in
    let recorded : StopRecords m.core new.core by over = rw (back_over old m by every did.recalls) did.recorded in
    let grows = grows_stop m.core new.core by over recorded in
    let learns = learns_back old m new by every kept tells workers grows did.recalls in
    record {
      now = shown m;
      learns = learns.0;
      recorded = bare_stop m.core new.core by over recorded;
      same = record { opening = grows.opening; slots = did.slots ∙ sym did.recalls.slots; workers = workers ∙ sym did.recalls.workers };
      keeps = learns.1;
    }
