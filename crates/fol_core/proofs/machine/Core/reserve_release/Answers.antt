use Rattle.fol_core.proofs.Ahead.{same_ahead}
use Rattle.fol_core.proofs.Rooms.{same_places, same_room}
use Rattle.fol_core.proofs.machine.Core.reserve_release.Goals as goal

pub invariant_of-self : goal.invariant_of-self
invariant_of-self c = (
  rw c.in_err-accepts.ensures.entries (same_ahead _ _ _ _ c.self.invariant.0 _ c.in_err-accepts.ensures.same),
  tt,
  same_room _ _ _ _ _ _ _ c.in_err-accepts.ensures.same.course c.in_err-accepts.ensures.len c.in_err-accepts.ensures.capacity c.self.invariant.2,
  same_places _ _ _ c.in_err-accepts.ensures.same c.self.invariant.3,
)

pub invariant_of-self-2 : goal.invariant_of-self-2
invariant_of-self-2 c =
    let got = c.in_ok-accepts.ensures in (
      rw got.entries (same_ahead _ _ _ _ c.self.invariant.0 _ got.same),
      rw (c.len-wishes.ensures, ← c.count-early.ensures.count) got.ok.core,
      same_room _ _ _ _ _ _ _ got.same.course got.len got.capacity c.self.invariant.2,
      same_places _ _ _ got.same c.self.invariant.3,
    )
