use Rattle.std.proofs.Common.{ap, arith}
use Rattle.fol_region_tables.proofs.rows.Rows.unite.Goals as goal

pub invariant_of-self : goal.invariant_of-self
invariant_of-self c =
    let room = rw (← c.self.view_is) at c.requires.room in
    record {
      fits = omega (arith, c.add.ensures.total, room);
      most = omega (arith, ap (λ v. v.room) c.add.ensures.added, c.self.invariant.most);
      moved = c.self.invariant.moved;
      made = omega (arith, c.add.ensures.made, c.self.invariant.made);
    }
