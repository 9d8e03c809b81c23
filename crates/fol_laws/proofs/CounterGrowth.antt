-- Counters are at most the number of Ends.
use Rattle.std.proofs.Common.{◌≡◌, ℕ, ◌+◌, refl, ◌∙◌, ap, arith, inl, inr, List, [], ◌∷◌}
use Rattle.std.specs.Prelude.{nat_eq, Option, Some, None}
use Rattle.std.proofs.lemmas.Bool.{cases_Bool, cases_eq}
use Rattle.fol_model.specs.Add.{is_full}
use Rattle.fol_model.specs.Release.{is_new_part}
use Rattle.fol_model.specs.Counters.{tick_after_release}
use Rattle.fol_model.specs.declared.places.ChunkPos.{ChunkPos}
use Rattle.fol_model.specs.ActionStep.{at_id}
use Rattle.fol_model.specs.World.{World}
use Rattle.fol_model.specs.Holds.{loaded, unloaded, posted}
use Rattle.fol_model.specs.QueuedTask.{begun}
use Rattle.fol_model.specs.End.{dropped, ticked, put_back, accepted, all_accepted, released, run_down, ended}
use Rattle.fol_model.specs.Run.{after, after_all}
use Rattle.fol_laws.specs.Growth.{ends, ends_in, CountersAtMost}
use Rattle.fol_model.specs.declared.places.BlockPos.{BlockPos}
use Rattle.fol_model.specs.declared.tasks.Ran.{Ran}
use Rattle.fol_model.specs.declared.tasks.Wish.{Wish}
use Rattle.fol_model.specs.declared.actions.Action.{Action}
use Rattle.fol_model.specs.declared.actions.Action.TheVariants as action
use Rattle.fol_model.specs.declared.events.Event.{Event}
use Rattle.fol_model.specs.declared.events.Event.TheVariants.{Load, Unload, Post, PhaseOpen, Begin, End, PhaseClose, Finish, Stop}
use Rattle.fol_model.specs.declared.events.Entry.{Entry}
use Rattle.fol_laws.proofs.FunctionsChanged.{at_here, at_other}

pub tick_loaded : (w : World) (c : ChunkPos) → (loaded w c).tick ≡ w.tick
unfolding loaded
tick_loaded w c = elim (cases_Bool (is_full w.grid c)) [ inl f ↦ rw f refl | inr f ↦ rw f refl ]

pub tick_unloaded : (w : World) (c : ChunkPos) → (unloaded w c).tick ≡ w.tick
unfolding unloaded
tick_unloaded w c = elim (cases_Bool (nat_eq (w.tickets c) 0)) [ inl f ↦ rw f refl | inr f ↦ rw f refl ]

pub tick_posted : (w : World) (c : ChunkPos) (d : ℕ) (a : Action) → (posted w c d a).tick ≡ w.tick
unfolding posted
tick_posted w c d a = elim (cases_Bool (is_full w.grid c)) [ inl f ↦ rw f refl | inr f ↦ rw f refl ]

tick_put_back : (w : World) (a : Action) (b : Option BlockPos) → (put_back w a b).tick ≡ w.tick
tick_put_back w (action.Set at id) b = refl
tick_put_back w (action.Copy at to) b = refl
tick_put_back w (action.Load c) b = refl
tick_put_back w (action.Unload c) b = refl
tick_put_back w (action.Post c d inner) b = refl
tick_put_back w (action.Send id to) b = refl
tick_put_back w (action.Arrive e) None = refl
tick_put_back w (action.Arrive e) (Some b) = refl
tick_put_back w (action.Every p l inner) b = refl

pub tick_accepted : (w : World) (x : Wish) → (accepted w x).tick ≡ w.tick
unfolding accepted
tick_accepted w x = elim (cases_Bool (is_full w.grid x.chunk)) [ inl f ↦ rw f (tick_put_back w x.action x.back) | inr f ↦ rw f (tick_posted w x.chunk x.delay x.action) ]

tick_all : (w : World) (xs : List Wish) → (all_accepted w xs).tick ≡ w.tick
tick_all w [] = refl
tick_all w (x ∷ xs) = tick_all (accepted w x) xs ∙ tick_accepted w x

pub tick_begun : (w : World) (worker r : ℕ) → (begun w worker r).tick ≡ w.tick
unfolding begun
tick_begun w worker r = refl

pub tick_down : (w : World) (r : ℕ) (ran : List Ran) → (run_down w r ran).tick ≡ at_id w.tick r (w.tick r + 1)
unfolding dropped
tick_down w r ran = refl

released_most : (w : World) (r k : ℕ) → CountersAtMost w k → CountersAtMost (released w r) k
unfolding released tick_after_release
released_most w r k h q = elim (cases_Bool (is_new_part w.grid r q)) [ inl e ↦ rw e (h r) | inr e ↦ rw e (h q) ]

same_most : (w v : World) (k : ℕ) → v.tick ≡ w.tick → CountersAtMost w k → CountersAtMost v (0 + k)
same_most w v k e h r = let x = ap (λ (f : ℕ → ℕ). f r) e in let y = h r in omega arith

raised_most : (w v : World) (r k : ℕ) → v.tick ≡ at_id w.tick r (w.tick r + 1) → CountersAtMost w k → CountersAtMost v (1 + k)
raised_most w v r k e h q = let x = ap (λ (f : ℕ → ℕ). f q) e in let y = h q in let z = h r in elim (cases_eq q r) [
  | inl s ↦ let u : at_id w.tick r (w.tick r + 1) q ≡ w.tick r + 1 = rw s (at_here w.tick r (w.tick r + 1)) in omega arith
  | inr s ↦ let u = at_other w.tick r (w.tick r + 1) q s in omega arith
]

ended_most : (w : World) (r k : ℕ) (ran : List Ran) → CountersAtMost w k → CountersAtMost (ended w r ran) (1 + k)
unfolding ended
ended_most w r k ran h = let v = all_accepted (run_down w r ran) (ticked w r ran).wishes in released_most v r (1 + k) (raised_most w v r k (tick_all (run_down w r ran) (ticked w r ran).wishes ∙ tick_down w r ran) h)

after_most : (w : World) (e : Event) (k : ℕ) → CountersAtMost w k → CountersAtMost (after w e) (ends_in e + k)
after_most w (Load caller c answer) k h = same_most w (loaded w c) k (tick_loaded w c) h
after_most w (Unload caller c answer) k h = same_most w (unloaded w c) k (tick_unloaded w c) h
after_most w (Post caller c d x answer) k h = same_most w (posted w c d x) k (tick_posted w c d x) h
after_most w (PhaseOpen n) k h = same_most w w k refl h
after_most w (Begin worker r) k h = same_most w (begun w worker r) k (tick_begun w worker r) h
after_most w (End worker r tick ran accepts) k h = ended_most w r k ran h
after_most w PhaseClose k h = same_most w w k refl h
after_most w Finish k h = same_most w w k refl h
after_most w (Stop caller) k h = same_most w w k refl h

pub all_most : (w : World) (es : List Entry) (k : ℕ) → CountersAtMost w k → CountersAtMost (after_all w es) (ends es + k)
all_most w [] k h = same_most w w k refl h
all_most w (e ∷ es) k h = let i = all_most (after w e.event) es (ends_in e.event + k) (after_most w e.event k h) in λ r. omega (arith, i r)
