use Rattle.std.proofs.Common.{◌≡◌}
use Rattle.fol_live_tests.proofs.claims.close.Goals as goal

pub close-requires-clause-all : goal.close-requires-clause-all
close-requires-clause-all g c =
    let items : c.expect-seats.result.items ≡ c.args.seats = rw c.expect-seats.ensures at c.from_array.ensures.items in
    rw items c.requires.all
