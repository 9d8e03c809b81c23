use Rattle.std.proofs.Common.{length, ap}
use Rattle.fol_store.specs.Stock.{next_of}
use Rattle.fol_store.proofs.Baring.{bare_sound, is_bare}
use Rattle.fol_store.proofs.store.Store.bare.Goals as goal

pub invariant_of-result : goal.invariant_of-result
invariant_of-result c = rw (c.new.ensures.items, c.new-2.ensures.items, c.in_ok-bags.ensures) (bare_sound c.new-3.result _ _ c.new-3.ensures)

pub returns-clause-bare : goal.returns-clause-bare
returns-clause-bare c = rw (c.new.ensures.items, c.new-2.ensures.items, c.in_ok-bags.ensures) (is_bare c.new-3.result _ _ c.new-3.ensures)

pub returns-clause-next : goal.returns-clause-next
unfolding next_of
returns-clause-next c =
    ap length c.in_ok-bags.ensures
