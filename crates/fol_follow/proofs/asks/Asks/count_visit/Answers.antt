use Rattle.std.proofs.Common.{◌≡◌, ℕ, ◌+◌, ◌∙◌, ap, cond, refl, Bool, Option, Some, None}
use Rattle.std.specs.Ordering.{nat_cmp}
use Rattle.std.specs.BTreeMap.{get}
use Rattle.fol_follow.specs.Table.{pair_cmp, visits_in}
use Rattle.fol_follow.proofs.Linking.{linked_counted}
use Rattle.fol_follow.proofs.Numbers.{one_eq, pair_put}
use Rattle.fol_follow.proofs.asks.Asks.count_visit.Goals as goal

pub invariant_of-self : goal.invariant_of-self
invariant_of-self c =
    let counts : ℕ → Option ℕ = visits_in c.self.inside.counts.entries in
    let more : ℕ → Option ℕ = visits_in c.insert.new.self.entries in
    let head : ℕ × ℕ → Option ℕ = get pair_cmp c.self.inside.heads in
    let heads : ℕ × ℕ → Option ℕ = get pair_cmp c.remove.new.self in
    let count : ℕ = c.count-count.result + 1 in
    let was = rw (← c.self.view_is) at c.count-count.ensures in
    linked_counted counts more head heads c.self.inside.rows.items c.args.entity count c.self.invariant (ap (λ (n : ℕ). n + 1) was)
    (λ e. c.in-Ok.ensures.updates.0 e ∙ ap (λ (x : Bool). cond x (Some count) (counts e)) (one_eq c.args.entity e))
    (pair_put heads head c.args.entity count None None refl c.remove.ensures.updates.0)
