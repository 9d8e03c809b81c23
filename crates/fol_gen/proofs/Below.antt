-- What the numbers below a number give, one number further on.
use Rattle.std.proofs.Common.{◌≡◌, ℕ, ◌+◌, refl, List, [], ◌∷◌, ◌++◌, map, flat_map}
use Rattle.std.proofs.Math.Numerals.{add-one}
use Rattle.std.proofs.lemmas.List.{append-nil, map-append}
use Rattle.std.proofs.lemmas.List.Concat.{flat_map-append}
use Rattle.fol_model.specs.LineWords.{Word, line}
use Rattle.fol_model.specs.Universe.{numbers_below}
use Rattle.fol_gen.specs.MadeTexts.{text_of, cluster_lines}

pub numbers_below_more : (n : ℕ) → numbers_below (n + 1) ≡ numbers_below n ++ n ∷ []
unfolding numbers_below
numbers_below_more n = rw (add-one n) refl

flat_below_more : {A : Type 0} (f : ℕ → List A) (n : ℕ) → flat_map f (numbers_below (n + 1)) ≡ flat_map f (numbers_below n) ++ f n
flat_below_more f n = let e = numbers_below_more n in rw (e, flat_map-append f (numbers_below n) (n ∷ []), append-nil (f n)) refl

text_append : (xs ys : List (List Word)) → text_of (xs ++ ys) ≡ text_of xs ++ text_of ys
text_append xs ys = flat_map-append _ xs ys

pub clusters_below_more : (n : ℕ) → text_of (flat_map cluster_lines (numbers_below (n + 1))) ≡ text_of (flat_map cluster_lines (numbers_below n)) ++ text_of (cluster_lines n)
clusters_below_more n = rw (flat_below_more cluster_lines n) (text_append (flat_map cluster_lines (numbers_below n)) (cluster_lines n))

pub lines_below_more : (words : ℕ → List Word) (n : ℕ) → text_of (map words (numbers_below (n + 1))) ≡ text_of (map words (numbers_below n)) ++ line (words n)
lines_below_more words n =
    let e = numbers_below_more n in
    rw (e, map-append words (numbers_below n) (n ∷ []), text_append (map words (numbers_below n)) (words n ∷ []), append-nil (line (words n))) refl
