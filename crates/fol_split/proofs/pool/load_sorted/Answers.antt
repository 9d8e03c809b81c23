use Rattle.std.proofs.Common.{ap, arith, length}
use Rattle.std.specs.Prelude.{IsTrue}
use Rattle.std.specs.List.{All}
use Rattle.std.proofs.lemmas.List.Sorted.{All-permutation, length_permutation}
use Rattle.fol_model.specs.declared.places.SectionPos.{SectionPos}
use Rattle.fol_model.specs.Geometry.{is_section}
use Rattle.fol_split.proofs.pool.load_sorted.Goals as goal

pub load-requires-2-clause-few : goal.load-requires-2-clause-few
load-requires-2-clause-few c = omega (arith, ap length c.deref-2.ensures.value, length_permutation _ _ c.sort.ensures.permuted, c.requires.few)

pub load-requires-2-clause-in_range : goal.load-requires-2-clause-in_range
load-requires-2-clause-in_range c =
    let all : All (λ (s : SectionPos). IsTrue (is_section s)) c.sort.new.sections.items = All-permutation (λ (s : SectionPos). IsTrue (is_section s)) _ _ c.sort.ensures.permuted c.requires.in_range in
    rw c.deref-2.ensures.value all
