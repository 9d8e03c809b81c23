-- Which pages a map has after one came or was written.
use Rattle.std.proofs.Common.{◌≡◌, refl, ◌∙◌, ap, Bool, true, false, cond, ◌||◌, List}
use Rattle.std.specs.Prelude.{ℤ, Option, Some, is_some}
use Rattle.fol_pages.specs.Pages.{has_page, is_same, page_at}

module _ {P : Type 0} (before after : List ((ℤ × ℤ) × P)) (x z : ℤ) (p : P) (step : (a b : ℤ) → page_at after a b ≡ cond (is_same x z a b) (Some p) (page_at before a b)) where
  pub pages-more : (a b : ℤ) → has_page after a b ≡ (is_same x z a b || has_page before a b)
  unfolding has_page
  pages-more a b = ap is_some (step a b) ∙ more (is_same x z a b) (page_at before a b)
    where
      more : (is : Bool) (o : Option P) → is_some (cond is (Some p) o) ≡ (is || is_some o)
      more true o = refl
      more false o = refl
