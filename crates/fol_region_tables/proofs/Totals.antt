-- How many elements the lists hold together.
use Rattle.std.proofs.Common.{◌≡◌, ℕ, ◌+◌, ◌≤◌, ◌<◌, sym, ap, arith, List, [], length}
use Rattle.std.specs.Prelude.{◌≢◌}
use Rattle.std.proofs.lemmas.List.{get_or-set_other, get_or-set_same, length-set, set-get_or, set-set}
use Rattle.std.proofs.lemmas.List.Sums.{sum_by-set}
use Rattle.fol_lists.specs.Numbered.{Numbered, list_at, total, with_list}

module _ {T : Type 0} where
  pub total_with : (v : Numbered T) (n : ℕ) (xs : List T) → n < length v.lists → total (with_list v n xs) + length (list_at v n) ≡ total v + length xs
  total_with v n xs l = omega (arith, sum_by-set {X = List T} length v.lists n xs [] l)

  -- two lists
  pub total_two : (v : Numbered T) (n m : ℕ) (xs : List T) → n < length v.lists → m < length v.lists → n ≢ m → total (with_list (with_list v m []) n xs) + (length (list_at v n) + length (list_at v m)) ≡ total v + length xs
  total_two v n m xs l k d =
      let a = total_with v m [] k in
      let b = total_with (with_list v m []) n xs (omega (arith, length-set {A = List T})) in
      let e : list_at (with_list v m []) n ≡ list_at v n = get_or-set_other v.lists m n [] [] d in
      omega (arith, a, b, ap length e)

  pub two_le : (v : Numbered T) (n m : ℕ) → n < length v.lists → m < length v.lists → n ≢ m → length (list_at v n) + length (list_at v m) ≤ total v
  two_le v n m l k d = omega (arith, total_two v n m [] l k d)

  -- one list is its own, was another one before, or is read
  pub with_own : (v : Numbered T) (n : ℕ) → v ≡ with_list v n (list_at v n)
  with_own v n = ap (λ lists. record v { lists = lists }) (sym (set-get_or v.lists n []))

  pub with_with : (v : Numbered T) (n : ℕ) (xs ys : List T) → with_list (with_list v n xs) n ys ≡ with_list v n ys
  with_with v n xs ys = ap (λ lists. record v { lists = lists }) (set-set v.lists n xs ys)

  pub list_with : (v : Numbered T) (n : ℕ) (xs : List T) → n < length v.lists → list_at (with_list v n xs) n ≡ xs
  list_with v n xs l = get_or-set_same v.lists n xs [] l
