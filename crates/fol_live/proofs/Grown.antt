-- How each call of a world lengthens its history.
use Rattle.std.proofs.Common.{◌≡◌, ℕ, refl, sym, ◌∙◌, List, [], ◌∷◌, ◌++◌, Bool, true, false}
use Rattle.std.specs.Prelude.{All, Result, Ok, Err, IfOk, OnErr, OnOk}
use Rattle.std.proofs.lemmas.List.{append-nil}
use Rattle.std.proofs.lemmas.List.Elements.{All-nil, All-cons}
use Rattle.fol_model.specs.declared.places.ChunkPos.{ChunkPos}
use Rattle.fol_model.specs.declared.actions.Action.{Action}
use Rattle.fol_model.specs.declared.events.Entry.{Entry}
use Rattle.fol_model.specs.declared.events.Event.{Event}
use Rattle.fol_model.specs.declared.events.Loaded.{Loaded}
use Rattle.fol_model.specs.declared.events.Loaded.TheVariants as loads
use Rattle.fol_model.specs.declared.events.Unloaded.{Unloaded}
use Rattle.fol_model.specs.declared.events.Unloaded.TheVariants as unloads
use Rattle.fol_model.specs.World.{World}
use Rattle.fol_core.specs.declared.answers.Posting.{Posting}
use Rattle.fol_core.specs.declared.answers.Posting.TheVariants as postings
use Rattle.fol_core.specs.declared.answers.Close.{Close}
use Rattle.fol_core.specs.declared.answers.Close.TheVariants as closes
use Rattle.fol_core.specs.declared.answers.Finish.{Finish}
use Rattle.fol_core.specs.declared.answers.Finish.TheVariants as finishes
use Rattle.fol_core.specs.Answers.{CloseRecords, FinishRecords, LoadRecords, PostRecords, StopRecords, UnloadRecords}
use Rattle.fol_core.specs.Meaning.{Meaning, Records, Stays, Unchanged}
use Rattle.fol_live.specs.declared.answers.LivePhase.{LivePhase}
use Rattle.fol_live.specs.declared.answers.LivePhase.TheVariants as phases
use Rattle.fol_live.specs.Results.{LivePhaseRecords}
use Rattle.fol_live.specs.Shown.{Shown, meaning_of}
use Rattle.fol_live.specs.Turns.{Answers, SameWorld}
use Rattle.fol_live.proofs.Taken.{Begun, Grew, Hand, SeatOfLock, Visit, visits}

-- the history went on by entries of the seat k, or by none
pub record Added (m n : Meaning) (k : ℕ) : Type 0 where
  pub added : List Entry
  pub history : n.history ≡ m.history ++ added
  pub own : All (λ (e : Entry). e.by ≡ k) added

pub grew : (m n : Shown) (k : ℕ) → SameWorld m n → Added (meaning_of m) (meaning_of n) k → Grew m n k
grew m n k same a = record { opening = same.opening; slots = same.slots; workers = same.workers; added = a.added; history = a.history; own = a.own }

pub added_same : (m n : Meaning) (k : ℕ) → Stays m n → Added m n k
added_same m n k stays = record { added = []; history = stays.history ∙ sym (append-nil m.history); own = All-nil (λ (e : Entry). e.by ≡ k) }

added_unchanged : (m n : Meaning) (k : ℕ) → Unchanged m n → Added m n k
added_unchanged m n k same = record { added = []; history = same.history ∙ sym (append-nil m.history); own = All-nil (λ (e : Entry). e.by ≡ k) }

pub added_one : (m n : Meaning) (k : ℕ) (event : Event) → Records m n k event → Added m n k
added_one m n k event r =
    let e : Entry = record { by = k; event = event } in
    record { added = e ∷ []; history = r.history; own = All-cons (λ (e : Entry). e.by ≡ k) e [] refl (All-nil (λ (e : Entry). e.by ≡ k)) }

-- one answer, or want of memory
pub added_answer : {A E : Type 0} (m n : Meaning) (k : ℕ) (records : A → Type 0) (r : Result A E) → ((a : A) → records a → Added m n k) → IfOk r records → OnErr r (Stays m n) → Added m n k
added_answer m n k records (Ok a) each recorded refused = each a recorded
added_answer m n k records (Err e) each recorded refused = added_same m n k refused

module _ (m n : Meaning) (k : ℕ) where
  pub added_load : (c : ChunkPos) (a : Loaded) → LoadRecords m n k c a → Added m n k
  added_load c loads.Counted r = added_one m n k _ r
  added_load c (loads.Full present wanted) r = added_one m n k _ r
  added_load c loads.Over u = added_unchanged m n k u

  pub added_unload : (c : ChunkPos) (a : Unloaded) → UnloadRecords m n k c a → Added m n k
  added_unload c unloads.Lowered r = added_one m n k _ r
  added_unload c unloads.NoTicket r = added_one m n k _ r
  added_unload c unloads.Over u = added_unchanged m n k u

  pub added_post : (c : ChunkPos) (d : ℕ) (x : Action) (a : Posting) → PostRecords m n k c d x a → Added m n k
  added_post c d x (postings.Posted number) r = added_one m n k _ r
  added_post c d x (postings.Full present wanted) r = added_one m n k _ r
  added_post c d x (postings.Over y) u = added_unchanged m n k u

  pub added_open : (ticks : ℕ) (a : LivePhase) → LivePhaseRecords m n k ticks a → Added m n k
  added_open ticks phases.Opened r = added_one m n k _ r
  added_open ticks phases.InPhase s = added_same m n k s
  added_open ticks (phases.TooMany sum) s = added_same m n k s
  added_open ticks phases.Over s = added_same m n k s

  pub added_close : (a : Close) → CloseRecords m n k a → Added m n k
  added_close closes.Closed r = added_one m n k _ r
  added_close (closes.NotYet q) u = added_unchanged m n k u
  added_close closes.NoPhase u = added_unchanged m n k u
  added_close closes.Over u = added_unchanged m n k u

  pub added_finish : (a : Finish) → FinishRecords m n k a → Added m n k
  added_finish finishes.Finished r = added_one m n k _ r
  added_finish finishes.InPhase u = added_unchanged m n k u
  added_finish finishes.Over u = added_unchanged m n k u

  pub added_stop : (over : Bool) → StopRecords m n k over → Added m n k
  added_stop true u = added_unchanged m n k u
  added_stop false r = added_one m n k _ r

pub added_end : {E : Type 0} (m n : Meaning) (k : ℕ) (event : Event) (r : Result ℕ E) → OnOk r (Records m n k event) → OnErr r (Stays m n) → Added m n k
added_end m n k event (Ok length) did stays = added_one m n k event did
added_end m n k event (Err e) did stays = added_same m n k stays

-- a turn in which the world answered
pub answered : {A E : Type 0} {s t : SeatOfLock} {hand : Hand} {z y n : Shown} {by : ℕ} {gives : World → A} {records : Meaning → Meaning → A → Type 0} {r : Result A E} → Begun s t hand z y by
    → (a : Answers y n by gives records r) → ((m k : Meaning) (x : A) → records m k x → Added m k by) → Visit s t hand z a.now n by
answered {A} {E} {s} {t} {hand} {z} {y} {n} {by} {gives} {records} {r} b a each =
    let m : Meaning = meaning_of a.now in
    let k : Meaning = meaning_of n in
    visits b a.now n a.learns (grew a.now n by a.same (added_answer m k by (records m k) r (each m k) a.recorded a.refused)) a.keeps
