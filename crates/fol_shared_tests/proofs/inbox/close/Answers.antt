use Rattle.std.proofs.Common.{◌≡◌, [], ◌∷◌}
use Rattle.fol_shared_tests.proofs.TwoSenders.{are_two}
use Rattle.fol_shared_tests.proofs.inbox.close.Goals as goal

pub close-requires-clause-all : goal.close-requires-clause-all
close-requires-clause-all g c =
    let items : c.expect-senders.result.items ≡ c.args.zero ∷ c.args.one ∷ [] = rw c.expect-senders.ensures at c.from_array.ensures.items in
    are_two c.args.drainer.senders c.expect-senders.result.items c.args.zero c.args.one c.requires.drainer.1 items c.requires.zero.1 c.requires.one.1
