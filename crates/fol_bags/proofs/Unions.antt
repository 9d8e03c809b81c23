-- Parts of the chunks of two lists together.
use Rattle.std.proofs.Common.{◌≡◌, ℕ, Bool, true, false, List, take, drop, refl, sym, ◌∙◌, ap}
use Rattle.std.specs.Prelude.{◌||◌}
use Rattle.std.specs.List.Sorted.{IsStrictlySortedBy}
use Rattle.std.proofs.lemmas.List.{take-append-drop}
use Rattle.std.proofs.lemmas.List.Folds.{list_any-append}
use Rattle.fol_model.specs.Geometry.{same_chunk}
use Rattle.fol_model.specs.declared.places.ChunkPos.{ChunkPos}
use Rattle.fol_chunks.specs.Contents.{is_recorded}
use Rattle.fol_chunks.specs.Order.{chunk_cmp}
use Rattle.fol_bags.specs.Unions.{IsPartOfUnion, IsUnion}

first : (a b : Bool) → a ≡ true → (a || b) ≡ true
first true b e = refl
first false b e = (let z : false ≡ true = e in cc)

-- some of the chunks of a list came
part_of : (xs ys ts zs : List ChunkPos) → IsUnion xs ts zs → ((q : ChunkPos) → is_recorded ts q ≡ true → is_recorded ys q ≡ true) → IsPartOfUnion xs ys zs
part_of xs ys ts zs u some = record {
  order = u.order;
  kept = λ q r. u.has q ∙ first (is_recorded xs q) (is_recorded ts q) r;
  no_other = λ q r. wider (is_recorded xs q) (is_recorded ts q) (is_recorded ys q) (some q) (sym (u.has q) ∙ r);
}
  where
    wider : (a b c : Bool) → (b ≡ true → c ≡ true) → (a || b) ≡ true → (a || c) ≡ true
    wider true b c f e = refl
    wider false b c f e = f e

-- the first ones came
pub part_taken : (xs ys zs : List ChunkPos) (i : ℕ) → IsUnion xs (take i ys) zs → IsPartOfUnion xs ys zs
part_taken xs ys zs i u = part_of xs ys (take i ys) zs u (λ q r.
    ap (λ l. is_recorded l q) (sym (take-append-drop i ys)) ∙ list_any-append (same_chunk q) (take i ys) (drop i ys) ∙ first (is_recorded (take i ys) q) (is_recorded (drop i ys) q) r)

-- all came
pub part_all : (xs ys zs : List ChunkPos) → IsUnion xs ys zs → IsPartOfUnion xs ys zs
part_all xs ys zs u = part_of xs ys ys zs u (λ q r. r)

-- none came
pub part_none : (xs ys : List ChunkPos) → IsStrictlySortedBy chunk_cmp xs → IsPartOfUnion xs ys xs
part_none xs ys order = record {
  order = order;
  kept = λ q r. r;
  no_other = λ q r. first (is_recorded xs q) (is_recorded ys q) r;
}
