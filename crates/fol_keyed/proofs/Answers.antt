-- What follows from the clauses of an answer.
use Rattle.std.proofs.Common.{◌≡◌, refl, ◌⊎◌, inl, inr}
use Rattle.std.specs.Prelude.{OnOk, OnErr, Ok, Err, Result}

-- what follows from an answer's clause
pub on_ok : {T E : Type 0} (r : Result T E) (P Q : Type 0) → OnOk r P → (P → Q) → OnOk r Q
on_ok (Ok x) P Q h f = f h
on_ok (Err e) P Q h f = h

pub on_both : {T E : Type 0} (r : Result T E) (P Q : Type 0) → OnOk r P → OnOk r Q → OnOk r (P × Q)
on_both (Ok x) P Q h f = (h, f)
on_both (Err e) P Q h f = h

pub on_err : {T E : Type 0} (r : Result T E) (P Q : Type 0) → OnErr r P → (P → Q) → OnErr r Q
on_err (Ok x) P Q h f = h
on_err (Err e) P Q h f = f h

-- one of an answer's two clauses holds
pub ok_or_err : {T E : Type 0} (r : Result T E) (P Q : Type 0) → OnOk r P → OnErr r Q → P ⊎ Q
ok_or_err (Ok x) P Q h f = inl h
ok_or_err (Err e) P Q h f = inr f

pub always_err : {T E : Type 0} (r : Result T E) (P : Type 0) → P → OnErr r P
always_err (Ok x) P p = tt
always_err (Err e) P p = p

-- an answer is one or the other
pub answer_cases : {T E : Type 0} (r : Result T E) → ((x : T) × (r ≡ Ok x)) ⊎ ((e : E) × (r ≡ Err e))
answer_cases (Ok x) = inl (x, refl)
answer_cases (Err e) = inr (e, refl)
