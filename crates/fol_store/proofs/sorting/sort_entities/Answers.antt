use Rattle.std.proofs.Common.{rules, nat_eq}
use Rattle.std.specs.Ordering.{nat_cmp}
use Rattle.std.specs.Cmp.{nat_cmp_total}
use Rattle.std.proofs.lemmas.Bool.{eqb-true}
use Rattle.fol_model.specs.declared.entities.Entity.{Entity}
use Rattle.fol_keyed.proofs.Places.{nat_cmp_tells}
use Rattle.fol_keyed.proofs.Keyed.{differ_permuted}
use Rattle.fol_queues.proofs.Numbers.{nat_self}
use Rattle.fol_keyed.proofs.Answers.{on_ok}
use Rattle.fol_bags.proofs.Ordered.{strict_by_key}
use Rattle.fol_store.proofs.sorting.sort_entities.Goals as goal

pub returns-clause-order : goal.returns-clause-order
returns-clause-order c =
    on_ok c.sort_by_key.result _ _ c.sort_by_key.ensures.sorted (λ s.
    strict_by_key (λ (e : Entity). e.id) nat_cmp nat_cmp_total nat_cmp_tells nat_eq nat_self c.sort_by_key.new.self.items
    (differ_permuted nat_eq eqb-true nat_self (λ (e : Entity). e.id) _ _ c.sort_by_key.ensures.permutation c.requires) s (λ a r q k. search rules))
