use Rattle.std.proofs.Common.{◌≡◌, ◌∙◌, ap, arith, length}
use Rattle.std.proofs.lemmas.List.Sums.{count_by-le-length}
use Rattle.fol_model.specs.Geometry.{chunk_of}
use Rattle.fol_model.specs.declared.entities.Entity.{Entity}
use Rattle.fol_keyed.specs.Members.{is_listed}
use Rattle.fol_chunks.proofs.Tallies.{total_is}
use Rattle.fol_chunks.proofs.counted.Counted.count_listed.Goals as goal

pub total-total-requires : goal.total-total-requires
total-total-requires c =
    omega (
      arith,
      total_is c.self.inside.entities.items c.self.inside.tally.entries c.self.invariant c.args.chunks.now c.requires,
      count_by-le-length (λ (e : Entity). is_listed c.args.chunks.now (chunk_of e.at)) c.self.inside.entities.items,
      c.self.inside.entities.ok,
    )

pub returns-clause-count : goal.returns-clause-count
returns-clause-count c = rw (← c.self.view_is) (c.total-total.ensures ∙ total_is c.self.inside.entities.items c.self.inside.tally.entries c.self.invariant c.args.chunks.now c.requires)

pub prove-unreachable-requires : goal.prove-unreachable-requires
prove-unreachable-requires c =
    let all : c.as_slice.result.now ≡ c.self.inside.entities.items = rw (← c.self.view_is) at c.as_slice.ensures in
    omega (
      arith,
      c.if-prove.true,
      ap length all,
      c.total-total.ensures,
      total_is c.self.inside.entities.items c.self.inside.tally.entries c.self.invariant c.args.chunks.now c.requires,
      count_by-le-length (λ (e : Entity). is_listed c.args.chunks.now (chunk_of e.at)) c.self.inside.entities.items,
    )
