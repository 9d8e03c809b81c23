use Rattle.std.proofs.Common.{◌∙◌, ap, List}
use Rattle.std.specs.List.{list_any}
use Rattle.std.specs.Ordering.{eq_by_cmp}
use Rattle.fol_model.specs.declared.places.ChunkPos.{ChunkPos}
use Rattle.fol_map.specs.Counts.{by_place}
use Rattle.fol_map.proofs.holds.in_order.Goals as goal

pub returns-clause-has : goal.returns-clause-has
returns-clause-has c q = c.keys.ensures.has q ∙ ap (λ (ks : List ChunkPos). list_any (eq_by_cmp by_place q) ks) c.keys.ensures.rest
