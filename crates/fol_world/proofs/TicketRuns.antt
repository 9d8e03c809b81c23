-- A chunk has at most as many tickets as there are entries.
use Rattle.std.proofs.Common.{◌≡◌, ℕ, ◌+◌, ◌≤◌, refl, ◌∙◌, ap, arith, inl, inr, List, [], ◌∷◌, length}
use Rattle.std.specs.Prelude.{nat_eq, Option, Some, None}
use Rattle.std.proofs.lemmas.Bool.{cases_Bool}
use Rattle.fol_model.specs.declared.places.BlockPos.{BlockPos}
use Rattle.fol_model.specs.declared.places.ChunkPos.{ChunkPos}
use Rattle.fol_model.specs.declared.openings.Opening.{Opening}
use Rattle.fol_model.specs.declared.tasks.Ran.{Ran}
use Rattle.fol_model.specs.declared.tasks.Wish.{Wish}
use Rattle.fol_model.specs.declared.actions.Action.{Action}
use Rattle.fol_model.specs.declared.actions.Action.TheVariants as action
use Rattle.fol_model.specs.declared.events.Event.{Event}
use Rattle.fol_model.specs.declared.events.Event.TheVariants.{Load, Unload, Post, PhaseOpen, Begin, End, PhaseClose, Finish, Stop}
use Rattle.fol_model.specs.declared.events.Entry.{Entry}
use Rattle.fol_model.specs.Geometry.{same_chunk}
use Rattle.fol_model.specs.Add.{is_full}
use Rattle.fol_model.specs.World.{World, start}
use Rattle.fol_model.specs.Holds.{loaded, unloaded, posted}
use Rattle.fol_model.specs.QueuedTask.{begun}
use Rattle.fol_model.specs.End.{dropped, ticked, put_back, accepted, all_accepted, released, run_down, ended}
use Rattle.fol_model.specs.Run.{after, after_all}

abbrev pub TicketsAtMost : World → ℕ → Type 0
TicketsAtMost w n = (c : ChunkPos) → w.tickets c ≤ n

most_loaded : (w : World) (c : ChunkPos) (n : ℕ) → TicketsAtMost w n → TicketsAtMost (loaded w c) (n + 1)
unfolding loaded
most_loaded w c n h q = elim (cases_Bool (is_full w.grid c)) [
  | inl f ↦ rw f (omega (arith, h q))
  | inr f ↦ elim (cases_Bool (same_chunk c q)) [ inl s ↦ rw (f, s) (omega (arith, h c)) | inr s ↦ rw (f, s) (omega (arith, h q)) ]
]

most_unloaded : (w : World) (c : ChunkPos) (n : ℕ) → TicketsAtMost w n → TicketsAtMost (unloaded w c) n
unfolding unloaded
most_unloaded w c n h q = elim (cases_Bool (nat_eq (w.tickets c) 0)) [
  | inl f ↦ rw f (h q)
  | inr f ↦ elim (cases_Bool (same_chunk c q)) [ inl s ↦ rw (f, s) (omega (arith, h c)) | inr s ↦ rw (f, s) (h q) ]
]

-- a post leaves the tickets
pub tickets_posted : (w : World) (c : ChunkPos) (d : ℕ) (a : Action) → (posted w c d a).tickets ≡ w.tickets
unfolding posted
tickets_posted w c d a = elim (cases_Bool (is_full w.grid c)) [ inl f ↦ rw f refl | inr f ↦ rw f refl ]

tickets_back : (w : World) (a : Action) (b : Option BlockPos) → (put_back w a b).tickets ≡ w.tickets
tickets_back w (action.Arrive e) (Some b) = refl
tickets_back w (action.Arrive e) None = refl
tickets_back w (action.Set at id) b = refl
tickets_back w (action.Copy at to) b = refl
tickets_back w (action.Load c) b = refl
tickets_back w (action.Unload c) b = refl
tickets_back w (action.Post c d inner) b = refl
tickets_back w (action.Send id to) b = refl
tickets_back w (action.Every p l inner) b = refl

tickets_accepted : (w : World) (x : Wish) → (accepted w x).tickets ≡ w.tickets
unfolding accepted
tickets_accepted w x = elim (cases_Bool (is_full w.grid x.chunk)) [ inl f ↦ rw f (tickets_back w x.action x.back) | inr f ↦ rw f (tickets_posted w x.chunk x.delay x.action) ]

tickets_all : (w : World) (xs : List Wish) → (all_accepted w xs).tickets ≡ w.tickets
tickets_all w [] = refl
tickets_all w (x ∷ xs) = tickets_all (accepted w x) xs ∙ tickets_accepted w x

-- an end leaves the tickets
pub tickets_ended : (w : World) (r : ℕ) (ran : List Ran) → (ended w r ran).tickets ≡ w.tickets
unfolding ended released dropped
tickets_ended w r ran = tickets_all (run_down w r ran) (ticked w r ran).wishes

tickets_begun : (w : World) (worker r : ℕ) → (begun w worker r).tickets ≡ w.tickets
unfolding begun
tickets_begun w worker r = refl

most_same : (w v : World) (n : ℕ) → v.tickets ≡ w.tickets → TicketsAtMost w n → TicketsAtMost v (n + 1)
most_same w v n e h q = let a : v.tickets q ≡ w.tickets q = ap (λ (f : ChunkPos → ℕ). f q) e in omega (arith, h q)

most_after : (w : World) (e : Event) (n : ℕ) → TicketsAtMost w n → TicketsAtMost (after w e) (n + 1)
most_after w (Load caller c answer) n h = most_loaded w c n h
most_after w (Unload caller c answer) n h = λ q. omega (arith, most_unloaded w c n h q)
most_after w (Post caller c d x answer) n h = most_same w (posted w c d x) n (tickets_posted w c d x) h
most_after w (PhaseOpen k) n h = λ q. omega (arith, h q)
most_after w (Begin worker r) n h = most_same w (begun w worker r) n (tickets_begun w worker r) h
most_after w (End worker r tick ran accepts) n h = most_same w (ended w r ran) n (tickets_ended w r ran) h
most_after w PhaseClose n h = λ q. omega (arith, h q)
most_after w Finish n h = λ q. omega (arith, h q)
most_after w (Stop caller) n h = λ q. omega (arith, h q)

most_along : (w : World) (es : List Entry) (n : ℕ) → TicketsAtMost w n → TicketsAtMost (after_all w es) (n + length es)
most_along w [] n h = λ q. omega (arith, h q)
most_along w (e ∷ es) n h = λ q. omega (arith, most_along (after w e.event) es (n + 1) (most_after w e.event n h) q)

pub tickets_most : (o : Opening) (es : List Entry) → TicketsAtMost (after_all (start o) es) (length es)
tickets_most o es q = omega (arith, most_along (start o) es 0 (λ c. omega arith) q)
