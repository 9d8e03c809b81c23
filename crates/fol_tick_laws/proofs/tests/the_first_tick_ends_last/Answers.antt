use Rattle.std.proofs.Common.{arith}
use Rattle.fol_data.specs.declared.tick.Tick.{Tick}
use Rattle.fol_tick_laws.proofs.tests.the_first_tick_ends_last.Goals as goal

pub end-requires : goal.end-requires
end-requires g c =
    let tick : Tick = c.begin-second.result in
    c.post_set.ensures tick (c.load.ensures tick c.begin-second.ensures.opened)

pub end-requires-2 : goal.end-requires-2
end-requires-2 g c =
    let tick : Tick = c.begin-first.result in
    let one = c.begin-first.ensures.region in
    let two = c.begin-second.ensures.region in
    c.end.ensures tick (λ same. absurd (omega arith))
    (c.post_set.ensures tick (c.load.ensures tick (c.begin-second.ensures.kept tick c.begin-first.ensures.opened)))
