-- What the tables of a book keep: they are what stands after its history, which is a run.
use Rattle.std.specs.Prelude.{ℕ, ◌≡◌, ◌+◌, ◌≤◌, ◌^◌, List, length}
use Rattle.std.specs.Option.{is_some}
use Rattle.std.specs.BTreeSet.{BTreeSet, contains}
use Rattle.fol_model.specs.declared.openings.Opening.{Opening}
use Rattle.fol_follow.specs.declared.entries.BookEntry.{BookEntry}
use Rattle.fol_follow.specs.Here.{is_known}
use Rattle.fol_follow.specs.Visits.{IsRun, book_after}
use Rattle.fol_follow.specs.Table.{AreAtMost, Table, pair_cmp, pending, visits_in}

pub record Keeps (o : Opening) (h : List BookEntry) (t : Table) (made : BTreeSet (ℕ × ℕ)) : Type 0 where
  pub run : IsRun o h
  pub asks : pending t ≡ (book_after h).asks
  pub next : (book_after h).next ≡ length t.rows + 1
  pub known : (id : ℕ) → is_some (visits_in t.counts id) ≡ is_known o id
  pub visited : (r b : ℕ) → contains pair_cmp made (r, b) ≡ (book_after h).made r b
  pub counts : AreAtMost (length h) t
  pub rows : length t.rows ≤ length h
  pub few : length h ≤ 2 ^ 50
