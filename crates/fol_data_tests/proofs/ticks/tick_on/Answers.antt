use Rattle.std.proofs.Common.{◌≡◌, ℕ, List, [], ◌∷◌, ◌⊎◌, inl, inr, refl, arith}
use Rattle.std.specs.Prelude.{IsNone}
use Rattle.std.specs.List.{IsDistinct}
use Rattle.std.proofs.lemmas.List.Elements.{All-from_recursion}
use Rattle.fol_model.specs.ActionStep.{Flat}
use Rattle.fol_model.specs.declared.tasks.Task.{Task}
use Rattle.fol_chunks.specs.Contents.{flat_of}
use Rattle.fol_tick.specs.Runs.{arrivals, AreFresh}
use Rattle.fol_data_tests.proofs.ticks.tick_on.Goals as goal

-- nobody arrives, or only one that stands nowhere
fresh_few : (f : Flat) (ts : List Task) → (arrivals ts ≡ []) ⊎ (arrivals ts ≡ 2 ∷ []) → IsNone (f.standing 2) → AreFresh f ts
unfolding IsDistinct
fresh_few f ts (inl e) h = record { distinct = rw e tt; absent = rw e (All-from_recursion (λ (id : ℕ). IsNone (f.standing id)) [] tt) }
fresh_few f ts (inr e) h = record { distinct = rw e (tt, tt); absent = rw e (All-from_recursion (λ (id : ℕ). IsNone (f.standing id)) (2 ∷ []) (h, tt)) }

pub returns : goal.returns
returns c = record {
  unmoved = refl;
  within = omega arith;
  chunk_order = c.requires.chunks_order;
  chunk_places = c.requires.chunks_places;
  task_order = rw c.of.ensures c.requires.order;
  task_limits = rw c.of.ensures c.requires.limits;
  fresh = rw c.of.ensures (fresh_few (flat_of c.in_ok-body.body.chunks) c.args.due.items c.requires.arrivals c.in_ok-body.ensures);
}
