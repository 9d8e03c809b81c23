-- What a look-up that may find nothing gives.
use Rattle.std.specs.Prelude.{Bool, Option, Some, None, cond}

-- what there is and passes the test
abbrev pub option_filter : {X : Type 0} → (X → Bool) → Option X → Option X
option_filter p None = None
option_filter p (Some x) = cond (p x) (Some x) None
