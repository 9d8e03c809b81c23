-- Holds dropped one after another are those of the End.
use Rattle.std.proofs.Common.{◌≡◌, ℕ, zero, suc, ◌+◌, ◌-◌, refl, ◌∙◌, ap, arith, cond, inl, inr, List, [], ◌∷◌, ◌++◌, ◌&&◌}
use Rattle.std.specs.Prelude.{nat_eq, Option, Some, None}
use Rattle.std.proofs.Math.Path.{fun_ext}
use Rattle.std.proofs.lemmas.Bool.{cases_Bool}
use Rattle.fol_model.specs.declared.places.ChunkPos.{ChunkPos}
use Rattle.fol_model.specs.declared.tasks.Task.{Task}
use Rattle.fol_model.specs.Geometry.{same_chunk}
use Rattle.fol_model.specs.Counting.{count_below}
use Rattle.fol_model.specs.GridState.{GridState}
use Rattle.fol_model.specs.Drop.{drop_hold}
use Rattle.fol_model.specs.Job.{Job, taken_task, is_taken, is_on}
use Rattle.fol_model.specs.World.{World, due, due_below}
use Rattle.fol_model.specs.End.{dropped}
use Rattle.fol_laws.proofs.SamePlaces.{same_chunk-true}
use Rattle.fol_end_laws.specs.DroppedHolds.{drop_each, on_chunk}

pub on_both : (c : ChunkPos) (xs ys : List Task) → on_chunk c (xs ++ ys) ≡ on_chunk c xs + on_chunk c ys
on_both c [] ys = omega arith
on_both c (t ∷ xs) ys = let i = on_both c xs ys in omega arith

on_taken : (c : ChunkPos) (r n : ℕ) (o : Option Job) → on_chunk c (taken_task r n o) ≡ cond (is_taken r o && is_on c o) 1 0
on_taken c r n None = refl
on_taken c r n (Some j) = elim (cases_Bool (nat_eq j.taker r)) [ inl e ↦ rw e (omega arith) | inr e ↦ rw e refl ]

pub on_due : (c : ChunkPos) (w : World) (r n : ℕ) → on_chunk c (due_below w r n) ≡ count_below (λ k. is_taken r (w.jobs k) && is_on c (w.jobs k)) n
unfolding due_below count_below
on_due c w r zero = refl
on_due c w r (suc n) = let i = on_due c w r n in let a = on_both c (due_below w r n) (taken_task r n (w.jobs n)) in let b = on_taken c r n (w.jobs n) in omega arith

less : (g : GridState) (c q : ChunkPos) (k : ℕ) → (drop_hold g c).holds q - k ≡ g.holds q - (cond (same_chunk c q) 1 0 + k)
unfolding drop_hold
less g c q k = elim (cases_Bool (same_chunk c q)) [
  | inl e ↦ let s : g.holds c ≡ g.holds q = ap g.holds (same_chunk-true c q e) in rw e (omega arith)
  | inr e ↦ rw e (omega arith)
]

drop_grid : (g : GridState) (c : ChunkPos) (f : ChunkPos → ℕ) → record (drop_hold g c) { holds = f } ≡ record g { holds = f }
unfolding drop_hold
drop_grid g c f = refl

pub drops : (g : GridState) (ts : List Task) → drop_each g ts ≡ record g { holds = λ c. g.holds c - on_chunk c ts }
drops g [] = ap (λ (f : ChunkPos → ℕ). record g { holds = f }) (fun_ext (λ c. omega arith))
drops g (t ∷ ts) = drops (drop_hold g t.chunk) ts ∙ drop_grid g t.chunk (λ c. (drop_hold g t.chunk).holds c - on_chunk c ts)
    ∙ ap (λ (f : ChunkPos → ℕ). record g { holds = f }) (fun_ext (λ c. less g t.chunk c (on_chunk c ts)))

pub drops_in_turn : (w : World) (r : ℕ) → drop_each w.grid (due w r) ≡ (dropped w r).grid
unfolding dropped
drops_in_turn w r = drops w.grid (due w r) ∙ ap (λ (f : ChunkPos → ℕ). record w.grid { holds = f }) (fun_ext (λ c. ap (λ (k : ℕ). w.grid.holds c - k) (on_due c w r w.next_job)))
