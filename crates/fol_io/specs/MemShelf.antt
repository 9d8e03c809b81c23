-- What contracts see of a `MemShelf`.
use Rattle.std.specs.Prelude.{ℕ, ◌⊎◌, ◌&&◌, ◌||◌, Bool, not, List, Option, Some, None, IsNone, is_some, Contains}
use Rattle.std.specs.Option.{option_map}
use Rattle.std.specs.Str.{bytes_eq}
use Rattle.fol_io.specs.Counts.{raised}
use Rattle.fol_io.specs.NamedBytes.{file_under}
use Rattle.fol_io.specs.declared.mem_shelf.NamedBytes.{NamedBytes}

-- its files, the numbers of the reads that fail, how many reads there were, how many faults the names that
-- it does not hold met together, and how many bytes were read
pub record MemShelfState : Type 0 where
  pub files : List NamedBytes
  pub failing : List ℕ
  pub reads : ℕ
  pub unheld_faults : ℕ
  pub taken : ℕ

-- the bytes held under a name
abbrev pub held_under : MemShelfState → List ℕ → Option (List ℕ)
held_under s name = option_map (λ file. file.bytes) (file_under s.files name)

-- the faults in the count of a file, or in the one of all names that are not held
abbrev pub count_of : Option NamedBytes → ℕ → ℕ
count_of (Some file) unheld = file.faults
count_of None unheld = unheld

-- how many faults a name met
abbrev pub faults_under : MemShelfState → List ℕ → ℕ
faults_under s name = count_of (file_under s.files name) s.unheld_faults

-- the two names have one count: they are the same, or neither of them is held
abbrev pub shares_count : MemShelfState → List ℕ → List ℕ → Bool
shares_count s a b =
    bytes_eq a b || (not (is_some (file_under s.files a)) && not (is_some (file_under s.files b)))

-- the next read, of this name, fails: by its number, or since the name is not held
abbrev pub FailsAt : MemShelfState → List ℕ → Type 0
FailsAt s name = Contains s.failing (raised 1 s.reads) ⊎ IsNone (file_under s.files name)
