use Rattle.std.proofs.Common.{◌≤◌, sym, ◌∙◌, ap, arith, length}
use Rattle.std.proofs.lemmas.List.Sorted.{list_any-IsPermutation, length_permutation}
use Rattle.fol_model.specs.Geometry.{is_among, same_section}
use Rattle.fol_split.specs.Runs.{all_of}
use Rattle.fol_split.proofs.Pools.{pool_loaded}
use Rattle.fol_split.proofs.pool.Pool.load.Goals as goal

pub load_sorted-requires-clause-few : goal.load_sorted-requires-clause-few
load_sorted-requires-clause-few c =
    let ok = c.extend_from_slice.ensures.succeeds (omega (arith, c.clear-2.ensures.len, c.clear-2.ensures.capacity, c.self.invariant.1.order, c.requires.few)) in
    let items = rw (ok, c.clear-2.ensures.items) at c.extend_from_slice.ensures.items in
    omega (arith, ap length items, c.requires.few)

pub load_sorted-requires-clause-distinct : goal.load_sorted-requires-clause-distinct
load_sorted-requires-clause-distinct c =
    let ok = c.extend_from_slice.ensures.succeeds (omega (arith, c.clear-2.ensures.len, c.clear-2.ensures.capacity, c.self.invariant.1.order, c.requires.few)) in
    let items = rw (ok, c.clear-2.ensures.items) at c.extend_from_slice.ensures.items in
    rw items c.requires.distinct

pub load_sorted-requires-clause-in_range : goal.load_sorted-requires-clause-in_range
load_sorted-requires-clause-in_range c =
    let ok = c.extend_from_slice.ensures.succeeds (omega (arith, c.clear-2.ensures.len, c.clear-2.ensures.capacity, c.self.invariant.1.order, c.requires.few)) in
    let items = rw (ok, c.clear-2.ensures.items) at c.extend_from_slice.ensures.items in
    rw items c.requires.in_range

pub invariant_of-self : goal.invariant_of-self
invariant_of-self c =
    let ok = c.extend_from_slice.ensures.succeeds (omega (arith, c.clear-2.ensures.len, c.clear-2.ensures.capacity, c.self.invariant.1.order, c.requires.few)) in
    let items = rw (ok, c.clear-2.ensures.items) at c.extend_from_slice.ensures.items in
    let few : length (all_of c.load_sorted.new.runs.runs) ≤ 16384 = omega (arith, ap length c.load_sorted.ensures.all, length_permutation _ _ c.load_sorted.ensures.permuted, ap length items, c.requires.few) in (
      pool_loaded _ _ c.clear.ensures.items few c.load_sorted.ensures.left c.load_sorted.ensures.flags,
      record {
        order = omega (arith, c.load_sorted.ensures.room, c.extend_from_slice.ensures.capacity, c.clear-2.ensures.capacity, c.self.invariant.1.order);
        found = omega (arith, c.clear.ensures.capacity, c.self.invariant.1.found);
      },
      c.load_sorted.ensures.all,
    )

pub returns : goal.returns
returns c =
    let ok = c.extend_from_slice.ensures.succeeds (omega (arith, c.clear-2.ensures.len, c.clear-2.ensures.capacity, c.self.invariant.1.order, c.requires.few)) in
    let items = rw (ok, c.clear-2.ensures.items) at c.extend_from_slice.ensures.items in
    let moved = rw items at c.load_sorted.ensures.permuted in
    record {
      members = λ s. ap (λ xs. is_among xs s) c.load_sorted.ensures.all ∙ sym (list_any-IsPermutation (same_section s) _ _ moved);
      found = c.clear.ensures.items;
    }
