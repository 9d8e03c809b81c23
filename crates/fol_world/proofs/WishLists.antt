-- Wishes in order: the first, and then the rest.
use Rattle.std.proofs.Common.{◌≡◌, ℕ, ◌+◌, ◌<◌, true, false, refl, sym, ◌∙◌, ap, arith, List, [], ◌∷◌, ◌++◌, length}
use Rattle.std.proofs.lemmas.Bool.{true≢false}
use Rattle.std.proofs.lemmas.List.{append_assoc, append-nil}
use Rattle.fol_model.specs.declared.tasks.Task.{Task}
use Rattle.fol_model.specs.declared.tasks.Wish.{Wish}
use Rattle.fol_model.specs.declared.events.Accept.{Accept}
use Rattle.fol_model.specs.ActionStep.{Recorded}
use Rattle.fol_model.specs.Holds.{posting}
use Rattle.fol_model.specs.World.{World}
use Rattle.fol_model.specs.End.{accepted, all_accepted, answers}
use Rattle.fol_laws.proofs.WishLimits.{WishOk}
use Rattle.fol_chunks.specs.Contents.{Contents}
use Rattle.fol_world.specs.declared.tables.Tables.{Tables}
use Rattle.fol_world.specs.Underway.{AreFit, IsFree, MayAcceptAll, MayAcceptNext, StillHold}
use Rattle.fol_world.proofs.Holding.{recorded_same}

first_fit : (rec : Recorded) (w : World) (x : Wish) (xs : List Wish) → AreFit rec w (x ∷ xs) → WishOk rec x × IsFree w x
first_fit rec w x xs fit = fit [] xs x refl

rest_fit : (rec : Recorded) (w : World) (x : Wish) (xs : List Wish) → AreFit rec w (x ∷ xs) → AreFit rec (accepted w x) xs
rest_fit rec w x xs fit before behind y e = fit (x ∷ before) behind y (ap (λ (ys : List Wish). x ∷ ys) e)

one_more : (x : Wish) (xs : List Wish) (n : ℕ) → length (x ∷ xs) + n ≡ (length xs + n) + 1
one_more x xs n = omega arith

pub rest_fits : (r : ℕ) (w : World) (x : Wish) (xs : List Wish) → AreFit (w.recorded r) w (x ∷ xs) → AreFit ((accepted w x).recorded r) (accepted w x) xs
unfolding accepted
rest_fits r w x xs fit = let e = recorded_same w x in rw e (rest_fit (w.recorded r) w x xs fit)

module _ (t : Tables) (v : Contents) (r : ℕ) (held : List Task) (x : Wish) (xs : List Wish) where
  pub first_held : (w : World) (since : ℕ → ℕ) (n : ℕ) → StillHold t v w since r held (length (x ∷ xs) + n) → StillHold t v w since r held ((length xs + n) + 1)
  first_held w since n s = let e = one_more x xs n in rw e at s

  pub first_may : MayAcceptAll t v r held (x ∷ xs) → MayAcceptNext t v r held x
  first_may m = let f = first_fit (m.world.recorded r) m.world x xs m.fit in record {
    world = m.world;
    since = m.since;
    rest = length xs + m.rest;
    held = first_held m.world m.since m.rest m.held;
    fit = f.0;
    free = f.1;
  }

  module _ (t' : Tables) (v' : Contents) (left : List Task)
      (step : (w : World) (since : ℕ → ℕ) (n : ℕ) → StillHold t v w since r held (n + 1) → WishOk (w.recorded r) x → IsFree w x → StillHold t' v' (accepted w x) since r left n) where
    pub rest_held : (w : World) (since : ℕ → ℕ) (n : ℕ) → StillHold t v w since r held (length (x ∷ xs) + n) → AreFit (w.recorded r) w (x ∷ xs) → StillHold t' v' (accepted w x) since r left (length xs + n)
    rest_held w since n s fit = let f = first_fit (w.recorded r) w x xs fit in step w since (length xs + n) (first_held w since n s) f.0 f.1

    pub rest_may : MayAcceptAll t v r held (x ∷ xs) → MayAcceptAll t' v' r left xs
    rest_may m = record {
      world = accepted m.world x;
      since = m.since;
      rest = m.rest;
      held = rest_held m.world m.since m.rest m.held m.fit;
      fit = rest_fits r m.world x xs m.fit;
    }

pub answers_grow : (old new : List Accept) (a : Accept) (w : World) (x : Wish) (xs : List Wish) → new ≡ old ++ a ∷ [] → a ≡ posting w x.chunk → new ++ answers (accepted w x) xs ≡ old ++ answers w (x ∷ xs)
answers_grow old new a w x xs e p = ap (λ (ys : List Accept). ys ++ answers (accepted w x) xs) e ∙ append_assoc old (a ∷ []) (answers (accepted w x) xs) ∙ ap (λ (b : Accept). old ++ b ∷ answers (accepted w x) xs) p

-- ---- no wish is left
pub none_left : (xs : List Wish) (n : ℕ) → length xs ≡ n → (0 < n → false ≡ true) → xs ≡ []
none_left [] n e h = refl
none_left (x ∷ xs) n e h = absurd (true≢false (sym (h (omega (arith, e)))))

module _ (t : Tables) (v : Contents) (w : World) (all : List Wish) (since : ℕ → ℕ) (r n : ℕ) (held : List Task) (old new : List Accept) (xs : List Wish) (none : xs ≡ []) where
  pub all_done : (m : World) → StillHold t v m since r held (length xs + n) → all_accepted m xs ≡ all_accepted w all → StillHold t v (all_accepted w all) since r held n
  all_done m s same =
      let s' : StillHold t v m since r held (0 + n) = rw none at s in
      let same' : m ≡ all_accepted w all = rw none at same in
      let z : 0 + n ≡ n = omega arith in
      let s2 : StillHold t v m since r held n = rw z at s' in
      rw same' at s2

  pub all_answered : (m : World) → new ++ answers m xs ≡ old ++ answers w all → new ≡ old ++ answers w all
  all_answered m e = let e' : new ++ [] ≡ old ++ answers w all = rw none at e in sym (append-nil new) ∙ e'
