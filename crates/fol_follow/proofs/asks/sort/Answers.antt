use Rattle.std.proofs.Common.{rules, nat_eq}
use Rattle.std.specs.Ordering.{nat_cmp}
use Rattle.std.specs.Cmp.{nat_cmp_total}
use Rattle.std.proofs.lemmas.Bool.{eqb-true}
use Rattle.fol_keyed.proofs.Places.{nat_cmp_tells}
use Rattle.fol_keyed.proofs.Keyed.{differ_permuted}
use Rattle.fol_bags.proofs.Ordered.{strict_by_key}
use Rattle.fol_follow.specs.declared.entries.Visit.{Visit}
use Rattle.fol_follow.proofs.Numbers.{nat_self}
use Rattle.fol_follow.proofs.asks.sort.Goals as goal

pub returns-clause-order : goal.returns-clause-order
returns-clause-order c =
    strict_by_key (λ (v : Visit). v.number) nat_cmp nat_cmp_total nat_cmp_tells nat_eq nat_self c.sort_unstable_by_key.new.self.items
    (differ_permuted nat_eq eqb-true nat_self (λ (v : Visit). v.number) _ _ c.sort_unstable_by_key.ensures.permutation c.requires) c.sort_unstable_by_key.ensures.sorted (λ a r q k. search rules)
