use Rattle.std.proofs.Common.{rules, ◌≡◌, true, false, List, ◌++◌, sym, ◌∙◌, ap}
use Rattle.std.specs.Prelude.{Contains}
use Rattle.std.specs.List.Sorted.{IsPermutation}
use Rattle.std.proofs.lemmas.List.Folds.{list_any-append}
use Rattle.std.proofs.lemmas.List.Sorted.{list_any-IsPermutation}
use Rattle.fol_model.specs.declared.places.ChunkPos.{ChunkPos}
use Rattle.fol_model.specs.Geometry.{same_chunk}
use Rattle.fol_chunks.specs.Contents.{is_recorded}
use Rattle.fol_chunks.specs.Order.{chunk_cmp}
use Rattle.fol_bags.specs.Unions.{IsUnion}
use Rattle.fol_keyed.proofs.Keyed.{differ_append, differ_permuted}
use Rattle.fol_keyed.proofs.Places.{same_chunk-true, same_chunk-self, chunk_cmp_total, chunk_cmp_tells}
use Rattle.fol_keyed.proofs.Sorted.{differ_from_sorted}
use Rattle.fol_bags.proofs.Ordered.{strict_by}
use Rattle.fol_keyed.proofs.Recorded.{recorded_in}
use Rattle.fol_bags.proofs.union.merge.Goals as goal

pub returns-clause-ok : goal.returns-clause-ok
returns-clause-ok c =
    let added : c.extend_from_slice.new.self.items ≡ c.args.set.now ++ c.args.others.now =
    c.in_ok-extend_from_slice.ensures.items ∙ ap (λ (l : List ChunkPos). l ++ c.args.others.now) c.in_ok-list.ensures in
    let same : IsPermutation (c.args.set.now ++ c.args.others.now) c.sort_by.new.self.items = rw added at c.sort_by.ensures.permutation in
    let apart : (x y : ChunkPos) → Contains c.args.set.now x → Contains c.args.others.now y → x ≡ y → ⊥ =
    λ x y a b e.
    let r : is_recorded c.args.set.now x ≡ true = recorded_in c.args.set.now x a in
    let s : is_recorded c.args.others.now x ≡ true = ap (is_recorded c.args.others.now) e ∙ recorded_in c.args.others.now y b in
    let z : true ≡ false = sym r ∙ c.requires.apart x s in cc in
    let both : IsUnion c.args.set.now c.args.others.now c.sort_by.new.self.items = record {
      order = strict_by (λ (z : ChunkPos). z) chunk_cmp chunk_cmp_total chunk_cmp_tells same_chunk same_chunk-self c.sort_by.new.self.items
          (differ_permuted same_chunk same_chunk-true same_chunk-self (λ (z : ChunkPos). z) _ _ same
          (differ_append same_chunk same_chunk-true same_chunk-self (λ (z : ChunkPos). z) c.args.set.now c.args.others.now
          (differ_from_sorted (λ (z : ChunkPos). z) chunk_cmp chunk_cmp_total same_chunk same_chunk-true c.args.set.now c.requires.order)
          (differ_from_sorted (λ (z : ChunkPos). z) chunk_cmp chunk_cmp_total same_chunk same_chunk-true c.args.others.now c.requires.others_order) apart))
          c.in_ok-sort_by.ensures.sorted (λ a r q k. search rules);
      has = λ q. sym (list_any-IsPermutation (same_chunk q) _ _ same) ∙ list_any-append (same_chunk q) c.args.set.now c.args.others.now;
    } in
    rw c.put.ensures both
