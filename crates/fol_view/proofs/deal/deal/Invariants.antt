use Rattle.std.proofs.Common.{◌≡◌, ◌≤◌, All, vec_len, vec_capacity}
use Rattle.left_right.specs.Sides.{view}
use Rattle.fol_view.specs.Publications.{Listed}
use Rattle.fol_view.specs.Looks.{KnowsBook}
use Rattle.fol_view.proofs.deal.deal.Given as goal

abbrev pub invariant-loop-number : goal.invariant-loop-number
invariant-loop-number g l = record {
  knows : KnowsBook (view l.writer.desk.place) l.all.book;
  shown : l.writer.desk.shown.value ≡ l.initial.writer.desk.shown.value;
  readers : All (λ (r : Listed). r ≡ l.all) l.readers.items;
  len : vec_len l.readers ≡ l.number;
  room : l.count ≤ vec_capacity l.readers;
}
