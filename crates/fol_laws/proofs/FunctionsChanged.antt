-- A function changed at one number.
use Rattle.std.proofs.Common.{◌≡◌, ℕ, refl, sym, true, false}
use Rattle.std.specs.Prelude.{◌≢◌, nat_eq}
use Rattle.std.proofs.lemmas.Bool.{eq-eqb, ne_eqb}
use Rattle.fol_model.specs.ActionStep.{at_id}

module _ {X : Type 0} where
  pub at_here : (f : ℕ → X) (n : ℕ) (x : X) → at_id f n x n ≡ x
  at_here f n x = let k : nat_eq n n ≡ true = eq-eqb _ _ refl in rw k refl

  pub at_other : (f : ℕ → X) (n : ℕ) (x : X) (k : ℕ) → k ≢ n → at_id f n x k ≡ f k
  at_other f n x k h = let e : nat_eq n k ≡ false = ne_eqb _ _ (λ y. h (sym y)) in rw e refl
