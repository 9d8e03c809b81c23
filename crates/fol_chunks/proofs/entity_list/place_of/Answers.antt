use Rattle.std.proofs.Common.{rules}
use Rattle.std.proofs.lemmas.Fn.{always_returns_same}
use Rattle.std.specs.Ordering.{nat_cmp}
use Rattle.std.specs.Cmp.{nat_cmp_total}
use Rattle.fol_model.specs.declared.entities.Entity.{Entity}
use Rattle.fol_keyed.proofs.Sorted.{searched_by}
use Rattle.fol_keyed.proofs.Places.{nat_cmp_tells}
use Rattle.fol_chunks.proofs.entity_list.place_of.Goals as goal

pub returns : goal.returns
returns c =
    searched_by (λ (e : Entity). e.id) nat_cmp nat_cmp_total nat_cmp_tells _ c.args.id c.binary_search_by.result c.requires c.binary_search_by.ensures.bound
    (c.binary_search_by.ensures.position (λ e. nat_cmp e.id c.args.id) (always_returns_same _ _ _ (λ a r f k. search rules)))
