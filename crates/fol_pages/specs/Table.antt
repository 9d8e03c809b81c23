-- What contracts see of a table of pages.
use Rattle.std.specs.Prelude.{◌≡◌, ℕ, ℤ, true, cond, refl, List, Some, is_some, slice_get}
use Rattle.std.specs.Coded.{Coded, code_by, coded×, coded_ℕ, coded_ℤ, coded_list}
use Rattle.fol_pages.specs.Pages.{is_same, page_at}

-- pages by their column and row
pub record Table (P : Type 0) : Type 0 where
  pub entries : List ((ℤ × ℤ) × P)
  -- for how many pages more there is memory
  pub spare : ℕ

-- a table is stored as the pair of its fields
abbrev pub table_code : {P : Type 0} → Coded P → Coded (Table P)
table_code {P} p =
    code_by (List ((ℤ × ℤ) × P) × ℕ) (coded× (coded_list (coded× (coded× coded_ℤ coded_ℤ) p)) coded_ℕ) (λ t. (t.entries, t.spare)) (λ t. record { entries = t.0; spare = t.1 }) (λ _. refl)

-- the page in that column and row stands at that place of the list
pub record LiesAt {P : Type 0} (entries : List ((ℤ × ℤ) × P)) (x z : ℤ) (place : ℕ) : Type 0 where
  pub page : P
  pub there : slice_get entries place ≡ Some ((x, z), page)
  pub found : page_at entries x z ≡ Some page

-- n is m after the page w was written over the one in that column and row
pub record Writes {P : Type 0} (m : Table P) (x z : ℤ) (w : P) (n : Table P) : Type 0 where
  pub spare : n.spare ≡ m.spare
  pub updates : is_some (page_at m.entries x z) ≡ true → (a b : ℤ) → page_at n.entries a b ≡ cond (is_same x z a b) (Some w) (page_at m.entries a b)
