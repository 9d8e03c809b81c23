-- Comparisons of numbers.
use Rattle.std.proofs.Common.{◌≡◌, refl, sym}
use Rattle.std.specs.Prelude.{ℤ, ◌<ℤ◌}
use Rattle.std.specs.Ordering.{int_cmp}
use Rattle.std.specs.Cmp.{int_cmp_is}
use Rattle.std.specs.declared.cmp.Ordering.TheVariants.{Less, Equal}

pub less : (x y : ℤ) → x <ℤ y → int_cmp x y ≡ Less
less x y h = sym (int_cmp_is x y Less h)

pub equal_self : (x : ℤ) → int_cmp x x ≡ Equal
equal_self x = sym (int_cmp_is x x Equal refl)
