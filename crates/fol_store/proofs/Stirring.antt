-- A bag that is calm no more, or stays as it was.
use Rattle.std.proofs.Common.{◌≡◌, Bool, true, false, not, ◌&&◌, refl, sym, ◌∙◌, ap}
use Rattle.std.proofs.lemmas.Bool.{and_parts}
use Rattle.fol_model.specs.declared.places.ChunkPos.{ChunkPos}
use Rattle.fol_chunks.specs.Contents.{is_recorded}
use Rattle.fol_store.specs.Bag.{Bag, Stirred, disturbed}

pub stirred_same : (c : ChunkPos) (a b : Bag) → b ≡ a → Stirred c a b
stirred_same c a b e = record {
  same = e ∙ sym (ap (λ (z : Bag). let r : Bag = record a { calm = z.calm } in r) e);
  before = λ o. sym (ap (λ (z : Bag). z.calm) e) ∙ o;
  away = λ o. ap (λ (z : Bag). z.calm) e;
}

pub stirred_disturbed : (c : ChunkPos) (a : Bag) → Stirred c a (disturbed c a)
stirred_disturbed c a = record {
  same = refl;
  before = λ o. (and_parts a.calm (not (a.listed && is_recorded a.chunks c)) o).0;
  away = λ o. still a.calm a.listed (is_recorded a.chunks c) o;
}
  where
    still : (x y z : Bool) → z ≡ false → (x && not (y && z)) ≡ x
    still true true z e = rw e refl
    still true false z e = refl
    still false y z e = refl
