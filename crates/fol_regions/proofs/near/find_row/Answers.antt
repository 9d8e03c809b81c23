use Rattle.std.proofs.Common.{◌++◌, sym, ◌∙◌, ap, arith, append_assoc}
use Rattle.std.specs.Prelude.{pos, ◌+ℤ◌}
use Rattle.fol_region_tables.specs.Book.{owner_of}
use Rattle.fol_regions.specs.Near.{regions_of, row_of}
use Rattle.fol_sections.specs.Rows.{row_of as run_of, section_at}
use Rattle.fol_regions.proofs.NearRegions.{append-none, row-none}
use Rattle.fol_regions.proofs.NearRuns.{row-run}
use Rattle.fol_regions.proofs.near.find_row.Goals as goal

pub loop-i-init : goal.loop-i-init
loop-i-init c = record {
  near = λ before e. e ∙ ap (regions_of (owner_of c.args.tables.now) c.args.tables.now.next) (sym (ap (λ xs. before ++ xs) (row-none c.args.first c.args.row) ∙ append-none before));
  few = omega arith;
  bound = omega arith;
}

pub loop-i-preserved : goal.loop-i-preserved
loop-i-preserved c =
    let owner = owner_of c.args.tables.now in
    let next = c.args.tables.now.next in
    let z = c.args.first.z +ℤ pos c.args.row in
    let near = rw c.beside-s.ensures at c.find_run.ensures.near in
    let len = c.run_len-len.result in
    record {
      near = λ before e.
          near (before ++ row_of c.args.first c.args.row c.loop-i.i) (c.loop-i.invariant.near before e)
          ∙ ap (regions_of owner next) (append_assoc before (row_of c.args.first c.args.row c.loop-i.i) (run_of section_at (c.args.first.x +ℤ pos c.loop-i.i) z len) ∙ ap (λ xs. before ++ xs) (sym (row-run c.args.first c.args.row c.loop-i.i len)));
      few = omega (arith, c.find_run.ensures.few, c.loop-i.invariant.few);
      bound = omega (arith, c.run_len-len.ensures.few, c.loop-i.invariant.bound);
    }
