use Rattle.std.proofs.Common.{◌≡◌, ℕ, ◌+◌, ◌<◌, ◌≤◌, sym, ◌∙◌, ap, arith, get_or, length}
use Rattle.std.specs.Prelude.{pos, ◌+ℤ◌, nat_abs, count_by, nat_eq}
use Rattle.std.specs.Int.{int_rem_euclid}
use Rattle.fol_model.specs.declared.places.SectionPos.{SectionPos}
use Rattle.fol_laws.proofs.Coordinates.{count_by-append}
use Rattle.fol_region_tables.specs.Book.{owner_of}
use Rattle.fol_regions.proofs.NearRuns.{count_run, part_at}
use Rattle.fol_regions.proofs.dead_bounds.note_list.Goals as goal

abbrev origin : SectionPos
origin = record { x = pos 0; z = pos 0 }

pub loop-rest-init : goal.loop-rest-init
loop-rest-init c = λ r p. omega arith

pub overflow_cast-part : goal.overflow_cast-part
overflow_cast-part c = omega (arith, c.side_len.ensures.run origin, c.split_at.ensures.front_len, c.side_len.ensures.few)

pub run-requires : goal.run-requires
run-requires c =
    let part = c.split_at.result.0.now in
    let first : get_or c.loop-rest.rest.now 0 origin ≡ get_or part 0 origin = part_at c.loop-rest.rest.now part c.split_at.result.1.now c.split_at.ensures.by_index.0 0 origin (omega (arith, c.split_at.ensures.front_len, c.side_len.ensures.some)) in
    let run : nat_abs (int_rem_euclid (get_or part 0 origin).x (pos 32)) + c.side_len.result ≤ 32 = rw first at (c.side_len.ensures.run origin) in
    omega (arith, run, c.split_at.ensures.front_len)

pub loop-rest-preserved : goal.loop-rest-preserved
loop-rest-preserved c = λ r p.
    let rest = c.loop-rest.rest.now in
    let part = c.split_at.result.0.now in
    let after = c.split_at.result.1.now in
    let split = c.split_at.ensures.by_index.0 in
    let owner = owner_of c.args.tables.now in
    let test : SectionPos → ℕ = owner in
    let n : length part ≡ c.side_len.result = omega (arith, c.split_at.ensures.front_len, c.side_len.ensures.few) in
    let first : get_or rest 0 origin ≡ get_or part 0 origin = part_at rest part after split 0 origin (omega (arith, n, c.side_len.ensures.some)) in
    let ids : (k : ℕ) → k < length part → get_or c.run.result.now k 0 ≡ owner (get_or part k origin) = λ k l.
    c.run.ensures.owners k (omega (arith, l)) ∙ sym (ap owner (sym (part_at rest part after split k origin l) ∙ c.side_len.ensures.side k origin (omega (arith, l, n))
    ∙ ap (λ (s : SectionPos). let q : SectionPos = record { x = s.x +ℤ pos k; z = s.z } in q) first)) in
    let same = count_run owner r p part c.run.result.now origin (omega (arith, c.run.ensures.few)) ids in
    let whole = ap (count_by (λ s. nat_eq (owner s) r)) split ∙ count_by-append (λ s. nat_eq (owner s) r) part after in
    omega (arith, c.loop-rest.invariant r p, c.note_run.ensures r, same, whole)
