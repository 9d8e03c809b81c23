use Rattle.std.proofs.Common.{◌≡◌, ◌≤◌, take}
use Rattle.std.specs.List.{count_by}
use Rattle.fol_model.specs.Geometry.{chunk_of}
use Rattle.fol_model.specs.declared.entities.Entity.{Entity}
use Rattle.fol_keyed.specs.Members.{is_listed}
use Rattle.fol_chunks.specs.Areas.{paid}
use Rattle.fol_chunks.proofs.owed.Owed.count_paid.Given as goal

abbrev pub invariant-loop-entity : goal.invariant-loop-entity
invariant-loop-entity l = record {
  count : l.count ≡ count_by (λ (e : Entity). is_listed l.chunks.chunks.now (chunk_of (paid l.self e).at)) (take l.entity-index l.entities);
  bound : l.count ≤ l.entity-index;
}
