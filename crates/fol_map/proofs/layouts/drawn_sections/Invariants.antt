use Rattle.std.proofs.Common.{◌≡◌, ◌++◌, flat_map, map, take}
use Rattle.fol_model.specs.declared.closings.OwnerRow.{OwnerRow}
use Rattle.fol_model.specs.declared.closings.EntityRow.{EntityRow}
use Rattle.fol_model.specs.Geometry.{section_of}
use Rattle.fol_map.specs.Layouts.{place_sections}
use Rattle.fol_map.proofs.layouts.drawn_sections.Given as goal

abbrev pub invariant-loop-row : goal.invariant-loop-row
invariant-loop-row l = l.sections.items ≡ map (λ (r : OwnerRow). r.at) (take l.row-index l.row-items)

abbrev pub invariant-loop-chunk : goal.invariant-loop-chunk
invariant-loop-chunk l = l.sections.items ≡ l.initial.sections.items ++ map (section_of l.closing.opening.grid) (take l.chunk-index l.chunks)

abbrev pub invariant-loop-row-2 : goal.invariant-loop-row-2
invariant-loop-row-2 l = l.sections.items ≡ l.initial.sections.items ++ flat_map (λ (r : EntityRow). place_sections l.closing.opening.grid r.place) (take l.row-index l.row-items)
