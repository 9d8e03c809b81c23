-- The chunks of a bag, and those that it noted.
use Rattle.std.proofs.Common.{◌≡◌, refl, sym, ◌∙◌, ap, subst, Bool, true, false, ◌&&◌, List, [], filter}
use Rattle.std.specs.List.Sorted.{IsStrictlySortedBy}
use Rattle.std.proofs.lemmas.Bool.{and_right}
use Rattle.std.proofs.lemmas.List.Kept.{IsStrictlySortedBy-filter}
use Rattle.fol_model.specs.declared.places.ChunkPos.{ChunkPos}
use Rattle.fol_model.specs.Universe.{all_chunks}
use Rattle.fol_chunks.specs.Contents.{is_recorded}
use Rattle.fol_chunks.specs.Order.{chunk_cmp}
use Rattle.fol_store.proofs.SameLists.{same_list}
use Rattle.fol_world.specs.Bags.{AreBut}
use Rattle.fol_world.proofs.ChunkLists.{kept_sorted, listed}

-- what is kept of chunks that were kept
pub kept_twice : (p q : ChunkPos → Bool) → filter q (filter p all_chunks) ≡ filter (λ c. p c && q c) all_chunks
kept_twice p q = same_list (filter q (filter p all_chunks)) (filter (λ c. p c && q c) all_chunks) (IsStrictlySortedBy-filter chunk_cmp q (filter p all_chunks) (kept_sorted p)) (kept_sorted (λ c. p c && q c)) (λ c.
    listed q (filter p all_chunks) c ∙ ap (λ b. q c && b) (listed p all_chunks c) ∙ turned (p c) (q c) (is_recorded all_chunks c) ∙ sym (listed (λ c. p c && q c) all_chunks c))
  where
    turned : (a b d : Bool) → (b && (a && d)) ≡ ((a && b) && d)
    turned true b d = refl
    turned false b d = and_right b false refl

-- where none is noted, the lists are the same
pub exact : (noted xs : List ChunkPos) (p : ChunkPos → Bool) → AreBut noted xs (filter p all_chunks) → noted ≡ [] → xs ≡ filter p all_chunks
exact noted xs p k none = same_list xs (filter p all_chunks) k.order (kept_sorted p) (λ q. k.same q (ap (λ ys. is_recorded ys q) none))

pub keeps_exact : (noted xs : List ChunkPos) (p : ChunkPos → Bool) → xs ≡ filter p all_chunks → AreBut noted xs (filter p all_chunks)
keeps_exact noted xs p e = record { order = subst (IsStrictlySortedBy chunk_cmp) (sym e) (kept_sorted p); same = λ q n. ap (λ ys. is_recorded ys q) e }

pub keeps_like : (m n xs ys zs : List ChunkPos) → n ≡ m → ys ≡ xs → AreBut m xs zs → AreBut n ys zs
keeps_like m n xs ys zs a b k = subst (λ (o : List ChunkPos). AreBut o ys zs) (sym a) (subst (λ (o : List ChunkPos). AreBut m o zs) (sym b) k)
