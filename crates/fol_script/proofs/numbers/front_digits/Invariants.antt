use Rattle.std.proofs.Common.{◌≡◌, ℕ, ◌<◌, ◌≤◌, ◌-◌, false, get_or, length, take}
use Rattle.std.specs.Str.Parse.{digits_value}
use Rattle.fol_model.specs.TextNumbers.{Near}
use Rattle.fol_script.specs.Letters.{is_no_digit}
use Rattle.fol_script.proofs.numbers.front_digits.Given as goal

abbrev pub decreases-loop-n : goal.decreases-loop-n
decreases-loop-n l = length l.initial.text - l.n

abbrev pub invariant-loop-n : goal.invariant-loop-n
invariant-loop-n l = record {
  below : (k : ℕ) → k < l.n → is_no_digit (get_or l.text k 0) ≡ false;
  within : l.n ≤ length l.text;
  value : Near l.value (digits_value 10 (take l.n l.text));
}
