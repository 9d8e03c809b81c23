-- While no phase is open, no region ticks.
use Rattle.std.proofs.Common.{◌≡◌, ℕ, sym, ◌∙◌, arith, true, false, inl, inr, List, [], ◌∷◌}
use Rattle.std.specs.Prelude.{◌≢◌, nat_eq}
use Rattle.std.proofs.lemmas.Bool.{cases_Bool}
use Rattle.fol_model.specs.declared.openings.Opening.{Opening}
use Rattle.fol_model.specs.declared.places.ChunkPos.{ChunkPos}
use Rattle.fol_model.specs.declared.actions.Action.{Action}
use Rattle.fol_model.specs.declared.regions.State.TheVariants.{Ready, Ticking, Transient, Dead}
use Rattle.fol_model.specs.declared.events.Entry.{Entry}
use Rattle.fol_model.specs.declared.events.Event.{Event}
use Rattle.fol_model.specs.declared.events.Event.TheVariants.{Load, Unload, Post, PhaseOpen, Begin, End, PhaseClose, Finish, Stop}
use Rattle.fol_model.specs.Add.{add, is_full, is_near_calm, target, target_state, target_waits, wanted}
use Rattle.fol_model.specs.Counting.{some_below}
use Rattle.fol_model.specs.Drop.{drop_hold}
use Rattle.fol_model.specs.GridState.{GridState}
use Rattle.fol_model.specs.GridNumbers.{IsGrid}
use Rattle.fol_model.specs.Holds.{loaded, posted, unloaded}
use Rattle.fol_model.specs.World.{World, start}
use Rattle.fol_model.specs.Run.{Allowed, RunFrom, after, after_all}
use Rattle.fol_laws.proofs.WholeRuns.{Good, good_after, good_start}
use Rattle.fol_seat_laws.proofs.Phases.{phase_begun, phase_ended, phase_loaded, phase_posted, phase_unloaded}

-- a region that ticks after a chunk got a hold more ticked before
target_rests : (g : GridState) (c : ChunkPos) → target_state g c ≢ Ticking
target_rests g c ticks = elim (cases_Bool (some_below (target_waits g c) g.next)) [
  | inl some ↦ let never : Transient ≡ Ticking = rw some at ticks in cc
  | inr none ↦ let never : Ready ≡ Ticking = rw none at ticks in cc
]

ticked_before_add : (g : GridState) (c : ChunkPos) (r : ℕ) → (add g c).state r ≡ Ticking → g.state r ≡ Ticking
unfolding add
ticked_before_add g c r ticks = elim (cases_Bool (is_full g c)) [
  | inl full ↦ rw full at ticks
  | inr room ↦ elim (cases_Bool (nat_eq (wanted g c) 0)) [
    | inl none ↦ rw (room, none) at ticks
    | inr some ↦ elim (cases_Bool (nat_eq (target g c) r)) [
      | inl own ↦ let never = rw (room, some, own) at ticks in absurd (target_rests g c never)
      | inr other ↦ elim (cases_Bool (is_near_calm g c r)) [
        | inl near ↦ let never : Dead ≡ Ticking = rw (room, some, other, near) at ticks in absurd (cc)
        | inr far ↦ rw (room, some, other, far) at ticks
      ]
    ]
  ]
]

abbrev NoneTicks : World → Type 0
NoneTicks w = (r : ℕ) → w.grid.state r ≢ Ticking

loaded_none : (w : World) (c : ChunkPos) → NoneTicks w → NoneTicks (loaded w c)
unfolding loaded
loaded_none w c none r ticks = elim (cases_Bool (is_full w.grid c)) [
  | inl full ↦ none r (rw full at ticks)
  | inr room ↦ let now = rw room at ticks in none r (ticked_before_add w.grid c r now)
]

posted_none : (w : World) (c : ChunkPos) (d : ℕ) (a : Action) → NoneTicks w → NoneTicks (posted w c d a)
unfolding posted
posted_none w c d a none r ticks = elim (cases_Bool (is_full w.grid c)) [
  | inl full ↦ none r (rw full at ticks)
  | inr room ↦ let now = rw room at ticks in none r (ticked_before_add w.grid c r now)
]

unloaded_none : (w : World) (c : ChunkPos) → NoneTicks w → NoneTicks (unloaded w c)
unfolding unloaded drop_hold
unloaded_none w c none r ticks = elim (cases_Bool (nat_eq (w.tickets c) 0)) [
  | inl zero ↦ none r (rw zero at ticks)
  | inr some ↦ none r (rw some at ticks)
]

abbrev pub IsCalm : World → Type 0
IsCalm w = w.in_phase ≡ false → (r : ℕ) → w.grid.state r ≢ Ticking

calm_after : (o : Opening) (w : World) (e : Event) → Good o w → Allowed w e → IsCalm w → IsCalm (after w e)
calm_after o w (Load caller c a) good ok calm closed = loaded_none w c (calm (sym (phase_loaded w c).in_phase ∙ closed))
calm_after o w (Unload caller c a) good ok calm closed = unloaded_none w c (calm (sym (phase_unloaded w c).in_phase ∙ closed))
calm_after o w (Post caller c d x a) good ok calm closed = posted_none w c d x (calm (sym (phase_posted w c d x).in_phase ∙ closed))
calm_after o w (PhaseOpen n) good ok calm closed = absurd (let never : true ≡ false = closed in cc)
calm_after o w (Begin worker r) good ok calm closed = λ q ticks.
    let owes = ok.1 in
    let none : w.owed r ≡ 0 = good.owing (sym (phase_begun w worker r).in_phase ∙ closed) r (λ dead. let never : Ready ≡ Dead = sym ok.0 ∙ dead in cc) in
    absurd (omega arith)
calm_after o w (End worker r tick ran accepts) good ok calm closed = λ q ticks. absurd (calm (sym (phase_ended w r ran).in_phase ∙ closed) r ok.0)
calm_after o w PhaseClose good ok calm closed = λ q ticks.
    let lives : w.grid.state q ≢ Dead = λ dead. let never : Ticking ≡ Dead = sym ticks ∙ dead in cc in
    let never : Ready ≡ Ticking = sym (ok.2 q lives).0 ∙ ticks in
    cc
calm_after o w Finish good ok calm closed = calm closed
calm_after o w (Stop caller) good ok calm closed = calm closed

calm_from : (o : Opening) (w : World) (es : List Entry) → Good o w → RunFrom w es → IsCalm w → IsCalm (after_all w es)
calm_from o w [] good run calm = calm
calm_from o w (e ∷ es) good run calm = calm_from o (after w e.event) es (good_after o w e.event good run.1) run.2 (calm_after o w e.event good run.1 calm)

calm_start : (o : Opening) → IsCalm (start o)
calm_start o closed r ticks = let never : Dead ≡ Ticking = ticks in cc

pub calm_run : (o : Opening) (es : List Entry) → IsGrid o.grid → RunFrom (start o) es → IsCalm (after_all (start o) es)
calm_run o es grid run = calm_from o (start o) es (good_start o grid) run (calm_start o)
