use Rattle.std.proofs.Common.{arith}
use Rattle.fol_sections.specs.Places.{number_at}
use Rattle.fol_sections.proofs.Tables.{kept_same, table_same}
use Rattle.fol_sections.proofs.sections.Sections.reserve.Goals as goal

pub invariant_of-self-in_err-make_room : goal.invariant_of-self-in_err-make_room
unfolding number_at
invariant_of-self-in_err-make_room c =
    let h = c.reserve.ensures.entries in
    let k = c.make_room.ensures.counts in (
      kept_same _ _ _ _ _ (λ a b. h.2 (a, b)) k _ c.self.invariant.0,
      record {
        holds = omega (arith, c.reserve.ensures.spare, c.self.invariant.1.holds);
        pages = omega (arith, c.make_room.ensures.room, c.self.invariant.1.pages);
        filled = c.self.invariant.1.filled;
        died = c.self.invariant.1.died;
        fits = c.self.invariant.1.fits;
      },
    )

pub returns-in_err-make_room-clause-same : goal.returns-in_err-make_room-clause-same
unfolding number_at
returns-in_err-make_room-clause-same c =
    let h = c.reserve.ensures.entries in
    let k = c.make_room.ensures.counts in
    rw (← c.self.view_is) (table_same _ _ _ _ _ (λ a b. h.2 (a, b)) k _ c.self.invariant.0 _ _ _ _ _ _)

pub invariant_of-self-then-n-self : goal.invariant_of-self-then-n-self
unfolding number_at
invariant_of-self-then-n-self c =
    let h = c.reserve.ensures.entries in
    let k = c.make_room.ensures.counts in (
      kept_same _ _ _ _ _ (λ a b. h.2 (a, b)) k _ c.self.invariant.0,
      record {
        holds = omega (arith, c.in_ok-reserve.ensures.ok);
        pages = omega (arith, c.in_ok-make_room.ensures.ok);
        filled = c.self.invariant.1.filled;
        died = c.self.invariant.1.died;
        fits = omega arith;
      },
    )

pub returns-in_ok-make_room-clause-same : goal.returns-in_ok-make_room-clause-same
unfolding number_at
returns-in_ok-make_room-clause-same c =
    let h = c.reserve.ensures.entries in
    let k = c.make_room.ensures.counts in
    rw (← c.self.view_is) (table_same _ _ _ _ _ (λ a b. h.2 (a, b)) k _ c.self.invariant.0 _ _ _ _ _ _)
