-- A history that is finished is outside any phase.
use Rattle.std.proofs.Common.{◌≡◌, ℕ, refl, sym, ◌∙◌, true, false, inl, inr, List, [], ◌∷◌}
use Rattle.std.specs.Prelude.{nat_eq, Option, Some, None}
use Rattle.std.proofs.lemmas.Bool.{cases_Bool, true≢false}
use Rattle.fol_model.specs.declared.places.BlockPos.{BlockPos}
use Rattle.fol_model.specs.declared.places.ChunkPos.{ChunkPos}
use Rattle.fol_model.specs.declared.regions.State.TheVariants.{Ticking}
use Rattle.fol_model.specs.declared.openings.Opening.{Opening}
use Rattle.fol_model.specs.declared.tasks.Ran.{Ran}
use Rattle.fol_model.specs.declared.tasks.Wish.{Wish}
use Rattle.fol_model.specs.declared.actions.Action.{Action}
use Rattle.fol_model.specs.declared.actions.Action.TheVariants as action
use Rattle.fol_model.specs.declared.events.Event.{Event}
use Rattle.fol_model.specs.declared.events.Event.TheVariants.{Load, Unload, Post, PhaseOpen, Begin, End, PhaseClose, Finish, Stop}
use Rattle.fol_model.specs.declared.events.Entry.{Entry}
use Rattle.fol_model.specs.GridNumbers.{IsGrid}
use Rattle.fol_model.specs.Add.{is_full}
use Rattle.fol_model.specs.World.{World, start}
use Rattle.fol_model.specs.Holds.{loaded, unloaded, posted}
use Rattle.fol_model.specs.QueuedTask.{begun}
use Rattle.fol_model.specs.End.{dropped, ticked, put_back, accepted, all_accepted, released, run_down, ended}
use Rattle.fol_model.specs.Run.{Allowed, RunFrom, after, after_all}
use Rattle.fol_world.proofs.CalmRuns.{calm_run}

over_loaded : (w : World) (c : ChunkPos) → (loaded w c).finished ≡ w.finished
unfolding loaded
over_loaded w c = elim (cases_Bool (is_full w.grid c)) [ inl f ↦ rw f refl | inr f ↦ rw f refl ]

over_unloaded : (w : World) (c : ChunkPos) → (unloaded w c).finished ≡ w.finished
unfolding unloaded
over_unloaded w c = elim (cases_Bool (nat_eq (w.tickets c) 0)) [ inl f ↦ rw f refl | inr f ↦ rw f refl ]

over_posted : (w : World) (c : ChunkPos) (d : ℕ) (a : Action) → (posted w c d a).finished ≡ w.finished
unfolding posted
over_posted w c d a = elim (cases_Bool (is_full w.grid c)) [ inl f ↦ rw f refl | inr f ↦ rw f refl ]

over_begun : (w : World) (worker r : ℕ) → (begun w worker r).finished ≡ w.finished
unfolding begun
over_begun w worker r = refl

over_back : (w : World) (a : Action) (b : Option BlockPos) → (put_back w a b).finished ≡ w.finished
over_back w (action.Arrive e) (Some b) = refl
over_back w (action.Arrive e) None = refl
over_back w (action.Set at id) b = refl
over_back w (action.Copy at to) b = refl
over_back w (action.Load c) b = refl
over_back w (action.Unload c) b = refl
over_back w (action.Post c d inner) b = refl
over_back w (action.Send id to) b = refl
over_back w (action.Every p l inner) b = refl

over_accepted : (w : World) (x : Wish) → (accepted w x).finished ≡ w.finished
unfolding accepted
over_accepted w x = elim (cases_Bool (is_full w.grid x.chunk)) [ inl f ↦ rw f (over_back w x.action x.back) | inr f ↦ rw f (over_posted w x.chunk x.delay x.action) ]

over_all : (w : World) (xs : List Wish) → (all_accepted w xs).finished ≡ w.finished
over_all w [] = refl
over_all w (x ∷ xs) = over_all (accepted w x) xs ∙ over_accepted w x

over_ended : (w : World) (r : ℕ) (ran : List Ran) → (ended w r ran).finished ≡ w.finished
unfolding ended released dropped
over_ended w r ran = over_all (run_down w r ran) (ticked w r ran).wishes

-- where the history is finished, no phase is open
abbrev Closed : World → Type 0
Closed w = w.finished ≡ true → w.in_phase ≡ false

runs_on : (w v : World) → w.finished ≡ false → v.finished ≡ w.finished → Closed v
runs_on w v free same over = absurd (true≢false (sym over ∙ same ∙ free))

closed_after : (w : World) (e : Event) → w.finished ≡ false → Allowed w e → Closed (after w e)
closed_after w (Load caller c answer) f a = runs_on w (loaded w c) f (over_loaded w c)
closed_after w (Unload caller c answer) f a = runs_on w (unloaded w c) f (over_unloaded w c)
closed_after w (Post caller c d x answer) f a = runs_on w (posted w c d x) f (over_posted w c d x)
closed_after w (PhaseOpen n) f a = runs_on w (after w (PhaseOpen n)) f refl
closed_after w (Begin worker r) f a = runs_on w (begun w worker r) f (over_begun w worker r)
closed_after w (End worker r tick ran accepts) f a = runs_on w (ended w r ran) f (over_ended w r ran)
closed_after w PhaseClose f a = runs_on w (after w PhaseClose) f refl
closed_after w Finish f a = λ over. a.0
closed_after w (Stop caller) f a = runs_on w (after w (Stop caller)) f refl

closed_all : (w : World) (es : List Entry) → Closed w → RunFrom w es → Closed (after_all w es)
closed_all w [] c run = c
closed_all w (e ∷ es) c run = closed_all (after w e.event) es (closed_after w e.event run.0 run.1) run.2

-- while a region ticks, the history is not finished
pub not_finished : (o : Opening) (es : List Entry) → IsGrid o.grid → RunFrom (start o) es → (r : ℕ) → (after_all (start o) es).grid.state r ≡ Ticking → (after_all (start o) es).finished ≡ false
not_finished o es ok run r ticks = elim (cases_Bool (after_all (start o) es).finished) [
  | inl over ↦ absurd (calm_run o es ok run (closed_all (start o) es (λ x. absurd (true≢false (sym x))) run over) r ticks)
  | inr free ↦ free
]
