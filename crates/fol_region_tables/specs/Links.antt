-- Lists of ids, each rising, by number.
use Rattle.std.specs.Prelude.{◌≡◌, ℕ, ◌≤◌, ◌^◌, not, nat_eq, nat_lt, List, [], ◌∷◌, ◌++◌, filter, Option, Some, None}

-- the rising list with one more id
abbrev pub with_id : ℕ → List ℕ → List ℕ
with_id id ids = filter (λ k. nat_lt k id) ids ++ id ∷ filter (λ k. nat_lt id k) ids

-- the list without an id
abbrev pub without_id : ℕ → List ℕ → List ℕ
without_id id ids = filter (λ k. not (nat_eq id k)) ids

-- the number of ids is kept, and there is memory for as many as the lists have room for
pub record IsLinks (total count room in_lists in_made : ℕ) : Type 0 where
  pub counted : count ≡ total
  pub fits : total ≤ room
  pub lists : room ≤ in_lists
  pub made : room ≤ in_made
  pub few : room ≤ 2 ^ 60

-- the first id of the list, if it has one
abbrev pub first_id : List ℕ → Option ℕ
first_id [] = None
first_id (x ∷ xs) = Some x
