use Rattle.std.proofs.Common.{[], ap, arith}
use Rattle.fol_lists.specs.Numbered.{total}
use Rattle.fol_region_tables.proofs.Totals.{total_with}
use Rattle.fol_region_tables.proofs.rows.Rows.clear.Goals as goal

pub invariant_of-self : goal.invariant_of-self
invariant_of-self c =
    let number = rw (← c.self.view_is) at c.requires in
    record {
      fits = omega (arith, ap total c.clear.ensures, total_with c.self.inside.lists c.args.n [] number, c.self.invariant.fits);
      most = omega (arith, ap (λ v. v.room) c.clear.ensures, c.self.invariant.most);
      moved = c.self.invariant.moved;
      made = c.self.invariant.made;
    }
