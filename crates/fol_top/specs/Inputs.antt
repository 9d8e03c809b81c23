-- The bytes of the files that the words name.
use Rattle.std.specs.Prelude.{ℕ, ◌≡◌, ◌≤◌, ◌+◌, List, ◌∷◌, ◌++◌, length, Option, Some}
use Rattle.std.specs.List.{AllByRecursion, AllZip}
use Rattle.fol_io.specs.Counts.{raised, Rose}
use Rattle.fol_io.specs.Shelf.{IsHeld, IsTooLong}
use Rattle.fol_top.specs.Command.{Request, names_of, request_in}

-- what a shelf holds under each name, where it tells that
abbrev pub Held : Type 0
Held = List ℕ → Option (List ℕ)

-- how many faults a shelf met for each name
abbrev pub Faults : Type 0
Faults = List ℕ → ℕ

-- how many bytes a file may have
abbrev pub size_limit : ℕ
size_limit = 16777216

-- the shelf holds these files under these names, place by place, as far as it tells, each within the limit
abbrev pub AreHeld : Held → List (List ℕ) → List (List ℕ) → Type 0
AreHeld held names files = AllZip (λ name bytes. IsHeld (held name) bytes × (length bytes ≤ size_limit)) names files

-- the words ask for work on files, and these are the files that the shelf holds under their names, in the order in which they are read
pub record Inputs (words : List (List ℕ)) (held : Held) (files : List (List ℕ)) : Type 0 where
  pub request : Request
  pub command : request_in words ≡ Some request
  pub are_held : AreHeld held (names_of request) files

-- a file is within the limit, as far as the shelf tells
abbrev pub IsShort : Option (List ℕ) → Type 0
IsShort held = (bytes : List ℕ) × IsHeld held bytes × (length bytes ≤ size_limit)

-- the reading of the files of these names, in order, ended in this way with one of them: those before it were read within the limit, and
-- none behind it was read
pub record ReadingEnds (held : Held) (reads later : ℕ) (names : List (List ℕ)) (Ends : List ℕ → Type 0) : Type 0 where
  pub before : List (List ℕ)
  pub name : List ℕ
  pub behind : List (List ℕ)
  pub order : names ≡ before ++ name ∷ behind
  pub short : AllByRecursion (λ n. IsShort (held n)) before
  pub ends : Ends name
  pub counted : later ≡ raised (length before + 1) reads

-- the words ask for work on files, and their reading ended with a file whose count of faults rose
pub record Faulted (words : List (List ℕ)) (held : Held) (before now : Faults) (reads later : ℕ) : Type 0 where
  pub request : Request
  pub command : request_in words ≡ Some request
  pub ends : ReadingEnds held reads later (names_of request) (λ name. Rose (before name) (now name))

-- the words ask for work on files, and their reading ended with one that is longer than the limit
pub record Overlong (words : List (List ℕ)) (held : Held) (before now reads later : ℕ) : Type 0 where
  pub request : Request
  pub command : request_in words ≡ Some request
  pub ends : ReadingEnds held reads later (names_of request) (λ name. IsTooLong (held name) size_limit before now)
