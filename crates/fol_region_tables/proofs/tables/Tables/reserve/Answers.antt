use Rattle.std.proofs.Common.{refl, arith}
use Rattle.fol_region_tables.specs.Book.{owner_of}
use Rattle.fol_region_tables.proofs.RoomSteps.{roomy_alike, roomy_book}
use Rattle.fol_region_tables.proofs.tables.Tables.reserve.Goals as goal

pub invariant_of-self : goal.invariant_of-self
invariant_of-self c = rw c.reserve_keys.ensures c.self.invariant

pub returns-in_err-reserve_keys-clause-same : goal.returns-in_err-reserve_keys-clause-same
returns-in_err-reserve_keys-clause-same c = rw (← c.self.view_is) (rw c.reserve_keys.ensures (record { owner = refl; state = refl; waits = refl; live = refl; next = refl }))

pub invariant_of-self-in_err-reserve : goal.invariant_of-self-in_err-reserve
unfolding owner_of
invariant_of-self-in_err-reserve c = roomy_book _ _ c.self.invariant c.reserve.ensures.owner c.reserve_keys.ensures refl refl (omega arith) refl (omega arith) refl

pub returns-in_err-reserve-clause-same : goal.returns-in_err-reserve-clause-same
unfolding owner_of
returns-in_err-reserve-clause-same c = rw (← c.self.view_is) (roomy_alike _ _ c.self.invariant c.reserve.ensures.owner c.reserve_keys.ensures refl refl (omega arith) refl (omega arith) refl)

pub invariant_of-self-in_err-reserve-2 : goal.invariant_of-self-in_err-reserve-2
unfolding owner_of
invariant_of-self-in_err-reserve-2 c = roomy_book _ _ c.self.invariant c.reserve.ensures.owner c.reserve_keys.ensures refl c.reserve-2.ensures.lists c.reserve-2.ensures.room refl (omega arith) refl

pub returns-in_err-reserve-2-clause-same : goal.returns-in_err-reserve-2-clause-same
unfolding owner_of
returns-in_err-reserve-2-clause-same c = rw (← c.self.view_is) (roomy_alike _ _ c.self.invariant c.reserve.ensures.owner c.reserve_keys.ensures refl c.reserve-2.ensures.lists c.reserve-2.ensures.room refl (omega arith) refl)

pub invariant_of-self-2 : goal.invariant_of-self-2
unfolding owner_of
invariant_of-self-2 c = roomy_book _ _ c.self.invariant c.reserve.ensures.owner c.reserve_keys.ensures refl c.reserve-2.ensures.lists c.reserve-2.ensures.room c.reserve-3.ensures.lists c.reserve-3.ensures.room refl

pub returns-clause-same : goal.returns-clause-same
unfolding owner_of
returns-clause-same c = rw (← c.self.view_is) (roomy_alike _ _ c.self.invariant c.reserve.ensures.owner c.reserve_keys.ensures refl c.reserve-2.ensures.lists c.reserve-2.ensures.room c.reserve-3.ensures.lists c.reserve-3.ensures.room refl)
