-- Tests that answer alike.
use Rattle.std.proofs.Common.{◌≡◌, refl, sym, Bool, true, false}

-- two tests have one answer where each passes when the other does
pub same_answer : (a b : Bool) → (a ≡ true → b ≡ true) → (b ≡ true → a ≡ true) → a ≡ b
same_answer true b f h = sym (f refl)
same_answer false true f h = h refl
same_answer false false f h = refl
