-- Lists by number.
use Rattle.std.specs.Prelude.{ℕ, ◌+◌, ◌-◌, List, [], ◌++◌, length, replicate, sum_by, slice_index_or, slice_set, take, drop}
use Rattle.std.specs.List.{slice_range}

-- a list for each number from 0 on, and how many elements they may hold together
pub record Numbered (T : Type 0) : Type 0 where
  pub lists : List (List T)
  pub room : ℕ

-- the list with this number; empty past the last
abbrev pub list_at : {T : Type 0} → Numbered T → ℕ → List T
list_at v n = slice_index_or v.lists n []

-- how many elements the lists hold together
abbrev pub total : {T : Type 0} → Numbered T → ℕ
total v = sum_by length v.lists

-- one list is another one now, and all else stays
abbrev pub with_list : {T : Type 0} → Numbered T → ℕ → List T → Numbered T
with_list v n xs = record v { lists = slice_set v.lists n xs }

-- the same lists, and empty ones up to so many numbers
abbrev pub with_numbers : {T : Type 0} → Numbered T → ℕ → Numbered T
with_numbers v n = record v { lists = v.lists ++ replicate (n - length v.lists) [] }

-- the elements from one place up to another stand `by` places and as many more further up as others take that stand before them; what stood there is gone
abbrev pub shifted : {T : Type 0} → List T → ℕ → ℕ → ℕ → List T → List T
shifted xs start end by ys = take (start + by) xs ++ (ys ++ (slice_range xs start end ++ drop (end + by + length ys) xs))
