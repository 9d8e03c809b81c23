use Rattle.std.proofs.Common.{rules}
use Rattle.std.proofs.lemmas.List.Sorted.{answers_always}
use Rattle.std.proofs.lemmas.Map.Keys.{IsDistinct-IsPermutation}
use Rattle.fol_model.specs.declared.places.SectionPos.{SectionPos}
use Rattle.fol_model.specs.Geometry.{same_section}
use Rattle.fol_model.specs.Universe.{section_cmp}
use Rattle.fol_split.proofs.Places.{rises_from_sort, same_section-swap}
use Rattle.fol_split.proofs.pool.sort.Goals as goal

pub returns-clause-in_order : goal.returns-clause-in_order
unfolding section_cmp
returns-clause-in_order c = rises_from_sort c.sort_unstable_by_key.new.self.items
    (c.sort_unstable_by_key.ensures.sorted (λ (s : SectionPos). (s.z, s.x)) (answers_always _ _ _ (λ f a r g h. search rules)))
    (IsDistinct-IsPermutation same_section same_section-swap _ _ c.sort_unstable_by_key.ensures.permutation c.requires.distinct)
