use Rattle.std.proofs.Common.{refl, ap, ◌∙◌, subst, length, ◌<◌, All, IsSome, Contains, arith}
use Rattle.std.specs.Option.{unwrap_or}
use Rattle.fol_lock.specs.Seat.{Continues, numbers_of}
use Rattle.fol_lock.proofs.Lists.{one_there}
use Rattle.fol_lock.proofs.Closes.{some_seat, ends}
use Rattle.fol_lock.proofs.lock.Lock.close.Goals as goal

pub gather-gathered-requires-clause-some : goal.gather-gathered-requires-clause-some
gather-gathered-requires-clause-some g c = let some : 0 < length c.args.seats.items = some_seat _ c.args.seats.items c.args.self.some_seat c.requires.all in grind (arith, some)

pub unwrap-state-requires : goal.unwrap-state-requires
unwrap-state-requires g c =
    let gathered = c.gather-gathered.ensures in
    let end = ends _ _ _ _ _ _ _ c.args.seats.items _ _ c.close_with-closed.ensures.values.2 gathered.gathers.live gathered.gathers.no_turn c.requires.all gathered.claims in
    subst IsSome (one_there _ 0 _ _ end.there c.take.ensures.value) refl

pub returns-clause-seats : goal.returns-clause-seats
returns-clause-seats g c =
    let gathered = c.gather-gathered.ensures in
    let end = ends _ _ _ _ _ _ _ c.args.seats.items _ _ c.close_with-closed.ensures.values.2 gathered.gathers.live gathered.gathers.no_turn c.requires.all gathered.claims in
    subst (λ x. All (λ s. Continues g.S.Kept.log g.S.Kept.origin g.S.Kept.by s x) c.args.seats.items) (ap (λ o. unwrap_or o end.state) (one_there _ 0 _ _ end.there c.take.ensures.value ∙ c.unwrap-state.ensures)) end.known

pub returns-clause-others : goal.returns-clause-others
returns-clause-others g c =
    let gathered = c.gather-gathered.ensures in
    let end = ends _ _ _ _ _ _ _ c.args.seats.items _ _ c.close_with-closed.ensures.values.2 gathered.gathers.live gathered.gathers.no_turn c.requires.all gathered.claims in
    subst (λ x. All (λ e. Contains (numbers_of c.args.seats.items) (g.S.Kept.by e)) (g.S.Kept.log x)) (ap (λ o. unwrap_or o end.state) (one_there _ 0 _ _ end.there c.take.ensures.value ∙ c.unwrap-state.ensures)) end.others
