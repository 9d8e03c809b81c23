-- Pages of 32 sections side by side in a row.
use Rattle.std.specs.Prelude.{◌≡◌, ℕ, ℤ, pos, ◌≤◌, nat_abs, Bool, true, ◌&&◌, Option, List, length, is_some}
use Rattle.std.specs.Int.{int_div_euclid, int_rem_euclid}
use Rattle.std.specs.List.{list_any}
use Rattle.std.specs.Map.{lookup}
use Rattle.std.specs.Ordering.{int_eq}
use Rattle.fol_model.specs.declared.places.SectionPos.{SectionPos}
use Rattle.fol_model.specs.Geometry.{is_among}

-- the column of pages that a column of sections is in
abbrev pub page_of : ℤ → ℤ
page_of x = int_div_euclid x (pos 32)

-- the place of a section in its page
unfoldable pub place_of : SectionPos → ℕ
place_of s = nat_abs (int_rem_euclid s.x (pos 32))

-- the second section lies in the page of the first
abbrev pub IsOnPage : SectionPos → SectionPos → Type 0
IsOnPage s q = (page_of q.x ≡ page_of s.x) × (q.z ≡ s.z)

-- all sections of the list lie in one page
abbrev pub InOnePage : List SectionPos → Type 0
InOnePage sections = (s q : SectionPos) → is_among sections s ≡ true → is_among sections q ≡ true → IsOnPage s q

-- two columns of pages and rows are one page
unfoldable pub is_same : ℤ → ℤ → ℤ → ℤ → Bool
is_same x z a b = int_eq x a && int_eq z b

-- the page in that column and row, of a map of pages
unfoldable pub page_at : {P : Type 0} → List ((ℤ × ℤ) × P) → ℤ → ℤ → Option P
page_at entries x z = lookup (λ key. int_eq x key.0 && int_eq z key.1) entries

-- there is a page in that column and row
unfoldable pub has_page : {P : Type 0} → List ((ℤ × ℤ) × P) → ℤ → ℤ → Bool
has_page entries x z = is_some (page_at entries x z)

-- the page is one of the list
abbrev pub is_listed : List (ℤ × ℤ) → ℤ → ℤ → Bool
is_listed keys x z = list_any (λ key. is_same x z key.0 key.1) keys

-- the sections lie in n pages at most
pub record LieIn (sections : SectionPos → Bool) (n : ℕ) : Type 0 where
  pub pages : List (ℤ × ℤ)
  pub few : length pages ≤ n
  pub within : (s : SectionPos) → sections s ≡ true → is_listed pages (page_of s.x) s.z ≡ true
