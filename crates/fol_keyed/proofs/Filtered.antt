-- What holds where a look-up finds something.
use Rattle.std.proofs.Common.{◌≡◌, Bool, inl, inr, Option, Some, None}
use Rattle.std.specs.Option.{ForSome}
use Rattle.std.proofs.lemmas.Bool.{cases_Bool}
use Rattle.fol_keyed.specs.Options.{option_filter}

-- it holds where something is found that passes
pub still_holds : {X : Type 0} (P : X → Type 0) (p : X → Bool) (o : Option X) → ForSome o P → ForSome (option_filter p o) P
still_holds P p None h x e = h x e
still_holds P p (Some d) h x e =
    elim (cases_Bool (p d)) [
      | inl t ↦ h x (rw t at e)
      | inr t ↦ let none : None ≡ Some x = rw t at e in absurd cc
    ]
