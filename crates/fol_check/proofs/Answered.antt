-- What a core answers where an event may come next, and what it then records.
use Rattle.std.proofs.Common.{◌≡◌, ℕ, refl, sym, ◌∙◌, true, false, inl, inr}
use Rattle.std.specs.Prelude.{◌≢◌, nat_eq, Option, is_some}
use Rattle.std.proofs.lemmas.Bool.{cases_Bool, lt-ltb}
use Rattle.fol_model.specs.declared.places.ChunkPos.{ChunkPos}
use Rattle.fol_model.specs.declared.actions.Action.{Action}
use Rattle.fol_model.specs.declared.regions.State.{State}
use Rattle.fol_model.specs.declared.regions.State.TheVariants.{Ready, Ticking, Transient, Dead}
use Rattle.fol_model.specs.declared.events.Accept.{Accept}
use Rattle.fol_model.specs.declared.events.Accept.TheVariants as accepts
use Rattle.fol_model.specs.declared.events.Loaded.{Loaded}
use Rattle.fol_model.specs.declared.events.Loaded.TheVariants as loads
use Rattle.fol_model.specs.declared.events.Unloaded.{Unloaded}
use Rattle.fol_model.specs.declared.events.Unloaded.TheVariants as unloads
use Rattle.fol_model.specs.declared.events.Event.TheVariants as events
use Rattle.fol_model.specs.Add.{is_full}
use Rattle.fol_model.specs.Counting.{some_below}
use Rattle.fol_model.specs.Holds.{posting}
use Rattle.fol_model.specs.Rules.{Rules}
use Rattle.fol_model.specs.World.{World}
use Rattle.fol_model.specs.Run.{Allowed, load_answer, unload_answer}
use Rattle.fol_laws.proofs.NumbersBelow.{some_below-gives}
use Rattle.fol_core.specs.Answers.{LoadRecords, PostRecords, UnloadRecords, close_result, finish_result, is_busy, is_over, is_owing, load_result, phase_result, post_result, posting_of, state_result, unload_result}
use Rattle.fol_core.specs.Meaning.{Meaning, Records}
use Rattle.fol_core.specs.declared.answers.Posting.{Posting}
use Rattle.fol_core.specs.declared.answers.Phase.TheVariants as phases
use Rattle.fol_core.specs.declared.answers.Close.TheVariants as closes
use Rattle.fol_core.specs.declared.answers.Finish.TheVariants as finishes

-- ---- loads and unloads

load_counts : (w : World) (c : ChunkPos) → load_answer w c ≢ loads.Over
load_counts w c over = elim (cases_Bool (is_full w.grid c)) [
  | inl full ↦ let never = rw full at over in cc
  | inr room ↦ let never = rw room at over in cc
]

unload_counts : (w : World) (c : ChunkPos) → unload_answer w c ≢ unloads.Over
unload_counts w c over = elim (cases_Bool (nat_eq (w.tickets c) 0)) [
  | inl none ↦ let never = rw none at over in cc
  | inr some ↦ let never = rw some at over in cc
]

-- the core tells the answer of an event that may come next
pub load_told : (w : World) (c : ChunkPos) (told answer : Loaded) → told ≡ load_result w c → w.finished ≡ false → answer ≡ load_answer w c → (told ≡ answer) × (told ≢ loads.Over)
load_told w c told answer is going said =
    let same : told ≡ load_answer w c = rw going at is in
    (same ∙ sym said, λ over. load_counts w c (sym same ∙ over))

pub unload_told : (w : World) (c : ChunkPos) (told answer : Unloaded) → told ≡ unload_result w c → w.finished ≡ false → answer ≡ unload_answer w c → (told ≡ answer) × (told ≢ unloads.Over)
unload_told w c told answer is going said =
    let same : told ≡ unload_answer w c = rw going at is in
    (same ∙ sym said, λ over. unload_counts w c (sym same ∙ over))

pub load_recorded : (m n : Meaning) (k : ℕ) (c : ChunkPos) (a : Loaded) → LoadRecords m n k c a → a ≢ loads.Over → Records m n k (events.Load k c a)
load_recorded m n k c loads.Counted records on = records
load_recorded m n k c (loads.Full present wanted) records on = records
load_recorded m n k c loads.Over records on = absurd (on refl)

pub unload_recorded : (m n : Meaning) (k : ℕ) (c : ChunkPos) (a : Unloaded) → UnloadRecords m n k c a → a ≢ unloads.Over → Records m n k (events.Unload k c a)
unload_recorded m n k c unloads.Lowered records on = records
unload_recorded m n k c unloads.NoTicket records on = records
unload_recorded m n k c unloads.Over records on = absurd (on refl)

-- ---- posts

pub post_told : (w : World) (c : ChunkPos) (a : Action) (told : Posting) (answer : Accept) → told ≡ post_result w c a → w.finished ≡ false → answer ≡ posting w c → told ≡ posting_of answer
post_told w c a told answer is going said = elim (cases_Bool (is_full w.grid c)) [
  | inl full ↦ let same = rw (going, full) at is in let accept = rw full at said in rw accept same
  | inr room ↦ let same = rw (going, room) at is in let accept = rw room at said in rw accept same
]

pub post_recorded : (m n : Meaning) (k : ℕ) (c : ChunkPos) (d : ℕ) (a : Action) (told : Posting) (answer : Accept) → PostRecords m n k c d a told → told ≡ posting_of answer
    → Records m n k (events.Post k c d a answer)
post_recorded m n k c d a told (accepts.Posted number) records same = rw same at records
post_recorded m n k c d a told (accepts.Full present wanted) records same = rw same at records

-- ---- phases

runs_on : (w : World) → w.finished ≡ false → w.stopped ≡ false → is_over w ≡ false
runs_on w going on = rw (going, on) refl

pub phase_opens : (w : World) (n : ℕ) → w.finished ≡ false → Allowed w (events.PhaseOpen n) → phase_result w ≡ phases.Opened
phase_opens w n going ok = let calm = ok.0 in let on = ok.1 in rw (going, on, calm) refl

not_busy : (w : World) (r : ℕ) → (w.grid.state r ≢ Dead → (w.grid.state r ≡ Ready) × (w.owed r ≡ 0)) → is_busy w r ≡ false
not_busy w r rests = by_state (w.grid.state r) refl
  where
    by_state : (s : State) → w.grid.state r ≡ s → is_busy w r ≡ false
    by_state Ready is = let owes : w.owed r ≡ 0 = (rests (λ dead. let never : Ready ≡ Dead = sym is ∙ dead in cc)).1 in rw (is, owes) refl
    by_state Ticking is = let ready : w.grid.state r ≡ Ready = (rests (λ dead. let never : Ticking ≡ Dead = sym is ∙ dead in cc)).0 in let never : Ticking ≡ Ready = sym is ∙ ready in absurd (cc)
    by_state Transient is = rw is refl
    by_state Dead is = rw is refl

pub phase_closes : (w : World) → w.finished ≡ false → Allowed w events.PhaseClose → close_result w ≡ closes.Closed
phase_closes w going ok =
    let inside = ok.0 in
    let on = ok.1 in
    let none : some_below (is_busy w) w.grid.next ≡ false = elim (cases_Bool (some_below (is_busy w) w.grid.next)) [
      | inl some ↦ let r = some_below-gives (is_busy w) w.grid.next some in absurd (let never : false ≡ true = sym (not_busy w r.0 (ok.2 r.0)) ∙ r.2 in cc)
      | inr none ↦ none
    ] in
    rw (going, on, inside, none) refl

pub history_finishes : (w : World) → w.finished ≡ false → Allowed w events.Finish → finish_result w ≡ finishes.Finished
history_finishes w going ok = let calm = ok.0 in let on = ok.1 in rw (going, on, calm) refl

-- ---- begins

-- a region that may begin was given out
pub ready_given : (w : World) (r : ℕ) (s : Option State) → Rules w.grid → s ≡ state_result w r → w.grid.state r ≡ Ready → is_some s ≡ true
ready_given w r s rules told ready =
    let lives : w.grid.state r ≢ Dead = λ dead. let never : Ready ≡ Dead = sym ready ∙ dead in cc in
    let above = lt-ltb 0 r (rules.given r lives) in
    let below = lt-ltb r w.grid.next (rules.below_next r lives) in
    rw told (rw (above, below) refl)

pub owes_now : (w : World) (k r : ℕ) → Allowed w (events.Begin k r) → is_owing w r ≡ true
owes_now w k r ok = let ready = ok.0 in let some = lt-ltb 0 (w.owed r) ok.1 in rw (ready, some) refl

pub not_over : (w : World) (k r : ℕ) → w.finished ≡ false → Allowed w (events.Begin k r) → is_over w ≡ false
not_over w k r going ok = runs_on w going ok.2
