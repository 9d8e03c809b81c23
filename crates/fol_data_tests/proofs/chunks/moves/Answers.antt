use Rattle.std.proofs.Common.{ℕ, ap, refl, ◌∙◌, Option, [], ◌∷◌, pos, List}
use Rattle.std.specs.List.Sorted.{IsStrictlySortedBy}
use Rattle.fol_model.specs.declared.places.ChunkPos.{ChunkPos}
use Rattle.fol_model.specs.Geometry.{chunk_of}
use Rattle.fol_model.specs.ActionStep.{Flat, Standing}
use Rattle.fol_chunks.specs.Contents.{flat_of, within, is_listed, option_filter}
use Rattle.fol_chunks.proofs.Flats.{apart_kinds}
use Rattle.fol_model.specs.Universe.{chunk_cmp}
use Rattle.fol_data_tests.proofs.chunks.moves.Goals as goal

-- the two chunks
chunks : List ChunkPos
chunks = record { x = pos 0; z = pos 0 } ∷ record { x = pos 1; z = pos 0 } ∷ []

pub size_listed-requires : goal.size_listed-requires
unfolding IsStrictlySortedBy chunk_cmp
size_listed-requires c = ((refl, tt), (tt, tt))

pub move_listed-requires-clause-order : goal.move_listed-requires-clause-order
unfolding IsStrictlySortedBy chunk_cmp
move_listed-requires-clause-order c = ((refl, tt), (tt, tt))

pub move_listed-requires-clause-apart : goal.move_listed-requires-clause-apart
unfolding chunks
move_listed-requires-clause-apart c =
    apart_kinds (flat_of c.reserve.new.self) (within (is_listed chunks) (flat_of c.args.chunks.now)) (ap (λ (f : Flat). f.blocks) c.in_ok-reserve.ensures.same ∙ c.requires.blocks)
    (ap (λ (f : ℕ → Option Standing). λ (id : ℕ). option_filter (λ (s : Standing). is_listed chunks (chunk_of s.at)) (f id)) c.requires.standing)
