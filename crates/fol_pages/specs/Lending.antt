-- What becomes of a table of pages once a borrow of one of its pages ends.
use Rattle.std.specs.Prelude.{◌≡◌, ℤ, Option}
use Rattle.std.specs.Borrow.{Fml, RattleType, MutBor, LendsSo}
use Rattle.fol_pages.specs.contracts.table.PageTable.{the_row}
use Rattle.fol_pages.specs.Table.{Table, Writes}

-- the table behind m has the last page that was written through r in that column and row, and is unchanged if r is `None`
abbrev pub lends_page : (P : RattleType) → MutBor (Table P.Denot) → ℤ → ℤ → Option (MutBor P.Denot) → Fml
lends_page P m x z r = LendsSo (the_row P) P m r (λ n w. Writes m.now x z w n) (λ n. n ≡ m.now)
