-- A chunk that no task is on.
use Rattle.std.proofs.Common.{◌≡◌, ℕ, false, not, [], ◌∷◌, refl, sym, ◌∙◌, ap, Option, Some, None}
use Rattle.std.specs.Option.{option_or}
use Rattle.std.proofs.Math.Path.{fun_ext}
use Rattle.fol_model.specs.declared.places.ChunkPos.{ChunkPos}
use Rattle.fol_model.specs.Geometry.{same_chunk}
use Rattle.fol_model.specs.Job.{Job, is_on}
use Rattle.fol_queues.specs.Waiting.{option_filter}
use Rattle.fol_chunks.specs.Contents.{is_recorded}
use Rattle.fol_bags.specs.Clear.{HasNoTask}

module _ (c : ChunkPos) (f : ℕ → Option Job) (none : HasNoTask c f) where
  away : (n : ℕ) (j : Job) → f n ≡ Some j → is_recorded (c ∷ []) j.chunk ≡ false
  away n j e = let w : same_chunk j.chunk c ≡ false = ap (is_on c) (sym e) ∙ none n in rw w refl

  -- all tasks stay
  pub all_stay : f ≡ (λ n. option_filter (λ (j : Job). not (is_recorded (c ∷ []) j.chunk)) (f n))
  all_stay = fun_ext (λ n. go n (f n) refl)
    where
      go : (n : ℕ) (o : Option Job) → f n ≡ o → o ≡ option_filter (λ (j : Job). not (is_recorded (c ∷ []) j.chunk)) o
      go n None e = refl
      go n (Some j) e = let w = away n j e in rw w refl

  -- and none comes to others
  pub none_comes : (g : ℕ → Option Job) → g ≡ (λ n. option_or (g n) (option_filter (λ (j : Job). is_recorded (c ∷ []) j.chunk) (f n)))
  none_comes g = fun_ext (λ n. go n (f n) (g n) refl)
    where
      go : (n : ℕ) (o p : Option Job) → f n ≡ o → p ≡ option_or p (option_filter (λ (j : Job). is_recorded (c ∷ []) j.chunk) o)
      go n None None e = refl
      go n None (Some i) e = refl
      go n (Some j) None e = let w = away n j e in rw w refl
      go n (Some j) (Some i) e = refl
