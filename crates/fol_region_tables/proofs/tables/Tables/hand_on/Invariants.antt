use Rattle.std.proofs.Common.{◌≡◌}
use Rattle.std.specs.List.{count_by}
use Rattle.fol_model.specs.Universe.{numbers_below}
use Rattle.fol_region_tables.specs.Book.{KeepsRoom, owner_of, state_of, is_live, waits_of}
use Rattle.fol_region_tables.proofs.HandSteps.{Handing}
use Rattle.fol_region_tables.proofs.tables.Tables.hand_on.Given as goal

abbrev pub invariant-loop-other : goal.invariant-loop-other
invariant-loop-other l = record {
  owner : owner_of l.self ≡ owner_of l.initial.self;
  state : state_of l.self ≡ state_of l.initial.self;
  live : is_live l.self ≡ is_live l.initial.self;
  next : l.self.next ≡ l.initial.self.next;
  rooms : KeepsRoom l.initial.self l.self;
  handing : Handing (waits_of l.initial.self) (waits_of l.self) l.id l.into;
}

abbrev pub decreases-loop-other : goal.decreases-loop-other
decreases-loop-other l = count_by (waits_of l.self l.id) (numbers_below l.self.next)
