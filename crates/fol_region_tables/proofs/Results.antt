-- Facts on answers.
use Rattle.std.proofs.Common.{◌≡◌, refl, sym, Bool, true, false, cond}
use Rattle.std.specs.Prelude.{IfOk, IsOk, Ok, Err, Result, Option, Some}
use Rattle.std.specs.Option.{unwrap_or}
use Rattle.std.proofs.lemmas.Bool.{true≢false}

-- the value of an answer that is one
pub ok_value : {T E : Type 0} (r : Result T E) → IsOk r → (x : T) × (r ≡ Ok x)
ok_value (Ok x) h = (x, refl)
ok_value (Err e) h = absurd (true≢false (sym h))

-- two facts on the value of an answer, taken together
pub ok_both : {T E : Type 0} (r : Result T E) (P Q R : T → Type 0) → ((x : T) → P x → Q x → R x) → IfOk r P → IfOk r Q → IfOk r R
ok_both (Ok x) P Q R f p q = f x p q
ok_both (Err e) P Q R f p q = tt

-- a value, or another one
pub unwrap_or-cond : {X : Type 0} (b : Bool) (v d : X) (o : Option X) → unwrap_or (cond b (Some v) o) d ≡ cond b v (unwrap_or o d)
unwrap_or-cond true v d o = refl
unwrap_or-cond false v d o = refl
