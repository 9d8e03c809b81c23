use Rattle.std.proofs.Common.{◌≡◌, [], ◌∷◌}
use Rattle.std.specs.List.{IsDistinct}
use Rattle.fol_region_tests.proofs.sections.drop_one.Goals as goal

pub drop_dead-requires-clause-distinct : goal.drop_dead-requires-clause-distinct
unfolding IsDistinct
drop_dead-requires-clause-distinct g c =
    let one : c.expect-list.result.items ≡ c.args.s ∷ [] = rw c.expect-list.ensures at c.from_slice.ensures.items in
    rw one (tt, tt)
