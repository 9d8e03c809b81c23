use Rattle.std.proofs.Common.{refl}
use Rattle.std.specs.List.Sorted.{IsStrictlySortedBy}
use Rattle.fol_model.specs.Universe.{chunk_cmp}
use Rattle.fol_data_tests.proofs.keyed.a_list_has_its_chunks.Goals as goal

pub of-list-requires : goal.of-list-requires
unfolding IsStrictlySortedBy chunk_cmp
of-list-requires g c = ((refl, tt), (tt, tt))
