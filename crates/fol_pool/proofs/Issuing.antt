-- What the caller's seat does by one call.
use Rattle.std.proofs.Common.{◌≡◌, ℕ, refl, subst, true, false, List, [], ◌∷◌, ◌++◌, inl, inr}
use Rattle.std.specs.Prelude.{◌≢◌, Ok}
use Rattle.std.specs.List.{AllByRecursion}
use Rattle.std.proofs.lemmas.Bool.{cases_Bool}
use Rattle.fol_model.specs.declared.actions.Action.{Action}
use Rattle.fol_model.specs.declared.events.Accept.TheVariants as accepts
use Rattle.fol_model.specs.declared.events.Entry.{Entry}
use Rattle.fol_model.specs.declared.events.Event.{Event}
use Rattle.fol_model.specs.declared.events.Event.TheVariants as events
use Rattle.fol_model.specs.declared.events.Loaded.{Loaded}
use Rattle.fol_model.specs.declared.events.Loaded.TheVariants as loads
use Rattle.fol_model.specs.declared.events.Unloaded.{Unloaded}
use Rattle.fol_model.specs.declared.events.Unloaded.TheVariants as unloads
use Rattle.fol_model.specs.declared.places.ChunkPos.{ChunkPos}
use Rattle.fol_model.specs.declared.scripts.Command.{Command}
use Rattle.fol_model.specs.declared.scripts.Command.TheVariants as commands
use Rattle.fol_model.specs.Legal.{order, orders, orders_of}
use Rattle.fol_core.specs.declared.answers.Close.TheVariants as closes
use Rattle.fol_core.specs.declared.answers.Finish.TheVariants as finishes
use Rattle.fol_core.specs.declared.answers.Posting.{Posting}
use Rattle.fol_core.specs.declared.answers.Posting.TheVariants as postings
use Rattle.fol_seat_laws.specs.Signed.{is_call, is_start}
use Rattle.fol_live.specs.declared.answers.LivePhase.TheVariants as phases
use Rattle.fol_live.specs.Calls.{Closes, Finishes, Loads, Opens, Posts, Turn, Unloads}
use Rattle.fol_live.specs.Goes.{Does, deeds, does_both}
use Rattle.fol_live.specs.Seat.{Shown}
use Rattle.fol_pool.specs.Script.{Finished, Issued}
use Rattle.fol_pool.proofs.Going.{all_of, does_one, does_still}

-- ---- Begins are no orders

no_order : (v : Event) → is_start v ≡ true → orders_of v ≡ []
no_order (events.Begin k r) starts = refl
no_order (events.Load k c a) starts = absurd (cc)
no_order (events.Unload k c a) starts = absurd (cc)
no_order (events.Post k c d x a) starts = absurd (cc)
no_order (events.PhaseOpen n) starts = absurd (cc)
no_order (events.End k r t ran accepts) starts = absurd (cc)
no_order events.PhaseClose starts = absurd (cc)
no_order events.Finish starts = absurd (cc)
no_order (events.Stop k) starts = absurd (cc)

start_calls : (v : Event) → is_start v ≡ true → is_call v ≡ true
start_calls (events.Begin k r) starts = refl
start_calls (events.Load k c a) starts = absurd (cc)
start_calls (events.Unload k c a) starts = absurd (cc)
start_calls (events.Post k c d x a) starts = absurd (cc)
start_calls (events.PhaseOpen n) starts = absurd (cc)
start_calls (events.End k r t ran accepts) starts = absurd (cc)
start_calls events.PhaseClose starts = absurd (cc)
start_calls events.Finish starts = absurd (cc)
start_calls (events.Stop k) starts = absurd (cc)

-- the orders of entries are those of their deeds
pub orders_are : (es : List Entry) → orders es ≡ orders (deeds es)
orders_are [] = refl
orders_are (e ∷ es) = elim (cases_Bool (is_start e.event)) [
  | inl starts ↦ rw (starts, no_order e.event starts) (orders_are es)
  | inr deed ↦ rw (deed, orders_are es) refl
]

pub calls_are : (es : List Entry) → AllByRecursion (λ (e : Entry). is_call e.event ≡ true) (deeds es) → AllByRecursion (λ (e : Entry). is_call e.event ≡ true) es
calls_are es all = all_of (λ (e : Entry). is_call e.event ≡ true) (λ e starts. start_calls e.event starts) es all

-- ---- one event of its own

issued_by : (s u : Shown) (by : ℕ) (v : Event) (c : Command) → Does s u ((record { by = by; event = v }) ∷ []) → orders_of v ≡ order c ∷ [] → is_call v ≡ true → Issued s u c
issued_by s u by v c did is call =
    let are = did.deeds_are in
    record { own = did.own; goes = did.goes; order = rw (orders_are did.own, are, is) refl; calls = calls_are did.own (rw are (call, tt)) }

issued_turn : (s now u : Shown) (v : Event) (c : Command) → Turn s now u → u.seen ≡ now.seen ++ (record { by = s.number; event = v }) ∷ []
    → is_start v ≡ false → orders_of v ≡ order c ∷ [] → is_call v ≡ true → Issued s u c
issued_turn s now u v c t seen deed is call = issued_by s u s.number v c (does_one s now u v t seen deed) is call

-- ---- the lines

pub issued_load : (s u : Shown) (c : ChunkPos) (a : Loaded) → s.number ≡ 0 → Loads s u c (Ok a) → a ≢ loads.Over → Issued s u (commands.Load c)
issued_load s u c loads.Counted zero did other = issued_turn s did.now u (events.Load s.number c loads.Counted) (commands.Load c) did.turn did.recorded.history refl (rw zero refl) refl
issued_load s u c (loads.Full present wanted) zero did other =
    issued_turn s did.now u (events.Load s.number c (loads.Full present wanted)) (commands.Load c) did.turn did.recorded.history refl (rw zero refl) refl
issued_load s u c loads.Over zero did other = absurd (other refl)

pub issued_unload : (s u : Shown) (c : ChunkPos) (a : Unloaded) → s.number ≡ 0 → Unloads s u c (Ok a) → a ≢ unloads.Over → Issued s u (commands.Unload c)
issued_unload s u c unloads.Lowered zero did other = issued_turn s did.now u (events.Unload s.number c unloads.Lowered) (commands.Unload c) did.turn did.recorded.history refl (rw zero refl) refl
issued_unload s u c unloads.NoTicket zero did other = issued_turn s did.now u (events.Unload s.number c unloads.NoTicket) (commands.Unload c) did.turn did.recorded.history refl (rw zero refl) refl
issued_unload s u c unloads.Over zero did other = absurd (other refl)

pub issued_post : (s u : Shown) (c : ChunkPos) (d : ℕ) (x : Action) (a : Posting) → s.number ≡ 0 → Posts s u c d x (Ok a) → ((y : Action) → a ≢ postings.Over y) → Issued s u (commands.Post c d x)
issued_post s u c d x (postings.Posted n) zero did other =
    issued_turn s did.now u (events.Post s.number c d x (accepts.Posted n)) (commands.Post c d x) did.turn did.recorded.history refl (rw zero refl) refl
issued_post s u c d x (postings.Full present wanted) zero did other =
    issued_turn s did.now u (events.Post s.number c d x (accepts.Full present wanted)) (commands.Post c d x) did.turn did.recorded.history refl (rw zero refl) refl
issued_post s u c d x (postings.Over y) zero did other = absurd (other y refl)

pub issued_run : (s u : Shown) (n : ℕ) → Opens s u n (Ok phases.Opened) → Issued s u (commands.Run n)
issued_run s u n did = issued_turn s did.now u (events.PhaseOpen n) (commands.Run n) did.turn did.recorded.history refl refl refl

-- ---- the ends

-- of a phase, behind entries of others
pub issued_end : (s t u : Shown) → Does s t [] → Closes t u (Ok closes.Closed) → Issued s u commands.End
issued_end s t u before did =
    let e : Entry = record { by = t.number; event = events.PhaseClose } in
    issued_by s u t.number events.PhaseClose commands.End (does_both s t u [] (e ∷ []) before (does_one t did.now u events.PhaseClose did.turn did.recorded.history refl)) refl refl

pub still_closing : (s u : Shown) (r : ℕ) → Closes s u (Ok (closes.NotYet r)) → Does s u []
still_closing s u r did = let same = did.recorded in does_still s did.now u did.turn (record { opening = same.opening; history = same.history; prepared = same.prepared })

pub finished_now : (s u : Shown) → s.number ≡ 0 → Finishes s u (Ok finishes.Finished) → Finished s u
finished_now s u zero did =
    let one = does_one s did.now u events.Finish did.turn did.recorded.history refl in
    record { before = did.now.seen; seen = (let h = did.recorded.history in rw zero at h); does = subst (λ (k : ℕ). Does s u ((record { by = k; event = events.Finish }) ∷ [])) zero one }
