-- The numbers of the grid are those of the opening.
use Rattle.std.proofs.Common.{◌≡◌, ℕ, refl, ◌∙◌, inl, inr, List, [], ◌∷◌}
use Rattle.std.specs.Prelude.{nat_eq, Option, Some, None}
use Rattle.std.proofs.lemmas.Bool.{cases_Bool}
use Rattle.fol_model.specs.declared.places.BlockPos.{BlockPos}
use Rattle.fol_model.specs.declared.places.ChunkPos.{ChunkPos}
use Rattle.fol_model.specs.declared.openings.Opening.{Opening}
use Rattle.fol_model.specs.declared.tasks.Ran.{Ran}
use Rattle.fol_model.specs.declared.tasks.Wish.{Wish}
use Rattle.fol_model.specs.declared.actions.Action.{Action}
use Rattle.fol_model.specs.declared.actions.Action.TheVariants as action
use Rattle.fol_model.specs.declared.events.Event.{Event}
use Rattle.fol_model.specs.declared.events.Event.TheVariants.{Load, Unload, Post, PhaseOpen, Begin, End, PhaseClose, Finish, Stop}
use Rattle.fol_model.specs.declared.events.Entry.{Entry}
use Rattle.fol_model.specs.Add.{is_full}
use Rattle.fol_model.specs.World.{World, start}
use Rattle.fol_model.specs.Holds.{loaded, unloaded, posted}
use Rattle.fol_model.specs.QueuedTask.{begun}
use Rattle.fol_model.specs.End.{dropped, ticked, put_back, accepted, all_accepted, released, run_down, ended}
use Rattle.fol_model.specs.Run.{after, after_all}
use Rattle.fol_laws.proofs.AddSections.{grid_add}
use Rattle.fol_laws.proofs.GridFields.{begin_grid, grid_drop}
use Rattle.fol_laws.proofs.ReleaseKeeps.{grid_release}

grid_loaded : (w : World) (c : ChunkPos) → (loaded w c).grid.grid ≡ w.grid.grid
unfolding loaded
grid_loaded w c = elim (cases_Bool (is_full w.grid c)) [ inl f ↦ rw f refl | inr f ↦ rw f (grid_add w.grid c) ]

grid_unloaded : (w : World) (c : ChunkPos) → (unloaded w c).grid.grid ≡ w.grid.grid
unfolding unloaded
grid_unloaded w c = elim (cases_Bool (nat_eq (w.tickets c) 0)) [ inl f ↦ rw f refl | inr f ↦ rw f (grid_drop w.grid c) ]

grid_posted : (w : World) (c : ChunkPos) (d : ℕ) (a : Action) → (posted w c d a).grid.grid ≡ w.grid.grid
unfolding posted
grid_posted w c d a = elim (cases_Bool (is_full w.grid c)) [ inl f ↦ rw f refl | inr f ↦ rw f (grid_add w.grid c) ]

grid_begun : (w : World) (worker r : ℕ) → (begun w worker r).grid.grid ≡ w.grid.grid
unfolding begun
grid_begun w worker r = begin_grid w.grid r

grid_back : (w : World) (a : Action) (b : Option BlockPos) → (put_back w a b).grid.grid ≡ w.grid.grid
grid_back w (action.Arrive e) (Some b) = refl
grid_back w (action.Arrive e) None = refl
grid_back w (action.Set at id) b = refl
grid_back w (action.Copy at to) b = refl
grid_back w (action.Load c) b = refl
grid_back w (action.Unload c) b = refl
grid_back w (action.Post c d inner) b = refl
grid_back w (action.Send id to) b = refl
grid_back w (action.Every p l inner) b = refl

grid_accepted : (w : World) (x : Wish) → (accepted w x).grid.grid ≡ w.grid.grid
unfolding accepted
grid_accepted w x = elim (cases_Bool (is_full w.grid x.chunk)) [ inl f ↦ rw f (grid_back w x.action x.back) | inr f ↦ rw f (grid_posted w x.chunk x.delay x.action) ]

pub grid_all : (w : World) (xs : List Wish) → (all_accepted w xs).grid.grid ≡ w.grid.grid
grid_all w [] = refl
grid_all w (x ∷ xs) = grid_all (accepted w x) xs ∙ grid_accepted w x

grid_down : (w : World) (r : ℕ) (ran : List Ran) → (run_down w r ran).grid.grid ≡ w.grid.grid
unfolding dropped
grid_down w r ran = refl

grid_ended : (w : World) (r : ℕ) (ran : List Ran) → (ended w r ran).grid.grid ≡ w.grid.grid
unfolding ended released
grid_ended w r ran = grid_release (all_accepted (run_down w r ran) (ticked w r ran).wishes).grid r ∙ grid_all (run_down w r ran) (ticked w r ran).wishes ∙ grid_down w r ran

pub grid_after : (w : World) (e : Event) → (after w e).grid.grid ≡ w.grid.grid
grid_after w (Load caller c answer) = grid_loaded w c
grid_after w (Unload caller c answer) = grid_unloaded w c
grid_after w (Post caller c d x answer) = grid_posted w c d x
grid_after w (PhaseOpen n) = refl
grid_after w (Begin worker r) = grid_begun w worker r
grid_after w (End worker r tick ran accepts) = grid_ended w r ran
grid_after w PhaseClose = refl
grid_after w Finish = refl
grid_after w (Stop caller) = refl

pub grid_along : (w : World) (es : List Entry) → (after_all w es).grid.grid ≡ w.grid.grid
grid_along w [] = refl
grid_along w (e ∷ es) = grid_along (after w e.event) es ∙ grid_after w e.event

pub grid_run : (o : Opening) (es : List Entry) → (after_all (start o) es).grid.grid ≡ o.grid
grid_run o es = grid_along (start o) es
