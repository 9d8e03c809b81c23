use Rattle.std.proofs.Common.{ap, ◌∙◌, ◌≡◌, arith, length}
use Rattle.fol_slots.proofs.Starts.{starts, somes_long}
use Rattle.fol_slots.proofs.slots.Slots.new.Goals as goal

pub new-requires : goal.new-requires
new-requires g c =
    let count = c.len.ensures in
    let long : c.len.result ≡ length c.args.bodies.items = grind (arith, count) in
    starts g.T.Body.fit _ _ _ _ _ (ap (λ v. v.items) c.of.ensures) c.in_ok-slots.ensures (c.as_slice.ensures.value ∙ c.in_ok-words.ensures) long

pub returns-clause-words : goal.returns-clause-words
returns-clause-words g c =
    let made = c.in-Ok.ensures.ok.1 in
    let somes = ap length c.in_ok-slots.ensures ∙ somes_long c.args.bodies.items in
    λ i low. c.deal-keeper.ensures.words i (grind (arith, made, somes, low))
