-- One more seat, and a list read by `slice_get`.
use Rattle.std.proofs.Common.{◌≡◌, ℕ, zero, suc, ◌+◌, List, [], ◌∷◌, ◌++◌, length, sym, refl, ap, ◌∙◌, arith, Some, length-append}
use Rattle.std.specs.Prelude.{slice_get}
use mathlib.Core.Logic.{dite}
use native.Mathlib.Decide.{ℕ_discrete}
use Rattle.atomic_table.specs.Seated.{TableId}
use Rattle.fol_slots.specs.declared.view.View.{View}
use Rattle.fol_slots.specs.Steps.{made_right}
use Rattle.fol_slots.specs.Shown.{Worker, worker, new_worker, AreNew}

module _ {X : Type 0} where
  pub get_longer : (xs ys : List X) (k : ℕ) (a : X) → slice_get xs k ≡ Some a → slice_get (xs ++ ys) k ≡ Some a
  get_longer [] ys k a e = absurd (cc)
  get_longer (x ∷ xs) ys zero a e = e
  get_longer (x ∷ xs) ys (suc k) a e = get_longer xs ys k a e

  pub get_last : (xs : List X) (a : X) (k : ℕ) → k ≡ length xs → slice_get (xs ++ a ∷ []) k ≡ Some a
  get_last [] a zero e = refl
  get_last [] a (suc k) e = absurd (omega arith)
  get_last (x ∷ xs) a zero e = absurd (omega arith)
  get_last (x ∷ xs) a (suc k) e = get_last xs a k (omega arith)

module _ {T : Type 0} (z : TableId) where
  pub one_more : (n : ℕ) (xs : List (Worker T)) (x : Worker T) → x ≡ new_worker z (n + 1) → AreNew z n xs → AreNew z (n + 1) (xs ++ x ∷ [])
  one_more n xs x is a = let long = a.count_is in record {
    count_is = length-append xs (x ∷ []) ∙ omega (arith, long);
    each = λ k h. dite (ℕ_discrete k n)
        (λ e. get_last xs x k (e ∙ sym long) ∙ ap (λ (s : Worker T). Some s) (is ∙ ap (λ (i : ℕ). new_worker z (i + 1)) (sym e)))
        (λ ne. get_longer xs (x ∷ []) k (new_worker z (k + 1)) (a.each k (omega arith)));
  }

  pub shows_new : (t : TableId) (v u : View T) (n : ℕ) → t ≡ z → v ≡ made_right u → u.made ≡ n → worker t v ≡ new_worker z (n + 1)
  shows_new t v u n e is made = λ i. record { slots = e i; number = (ap (λ (x : View T). x.number) is ∙ ap (λ (k : ℕ). k + 1) made) i; slot = (is i).slot; claimed = (is i).claimed; found = (is i).found }
