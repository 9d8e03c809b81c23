-- What a sink receives.
use Rattle.std.specs.Prelude.{ℕ, ◌≡◌, ◌≤◌, ◌<◌, ◌+◌, ◌*◌, List, ◌++◌, length, take, Option, option_map}
use Rattle.fol_io.specs.Counts.{raised, Rose}
use Rattle.fol_io.specs.declared.sink.Put.{Put}
use Rattle.fol_io.specs.declared.sink.Put.TheVariants.{Ok, Failed}

-- where the sink tells what it received, it received the bytes besides
abbrev pub Received : Option (List ℕ) → Option (List ℕ) → List ℕ → Type 0
Received before now bytes = now ≡ option_map (λ xs. xs ++ bytes) before

-- it received a prefix of the bytes besides
abbrev pub ReceivedPrefix : Option (List ℕ) → Option (List ℕ) → List ℕ → Type 0
ReceivedPrefix before now bytes = (n : ℕ) × Received before now (take n bytes)

-- how many bytes of an output are put at a time
abbrev pub piece_size : ℕ
piece_size = 4096

-- it received the first pieces of the bytes besides, whole, and a prefix of the next one, in one put for each of them
pub record ReceivedInPieces (before now : Option (List ℕ)) (puts later : ℕ) (bytes : List ℕ) : Type 0 where
  pub whole : ℕ
  pub next : piece_size * whole < length bytes
  pub more : ℕ
  pub prefix : more ≤ piece_size
  pub received : Received before now (take (piece_size * whole + more) bytes)
  pub counted : later ≡ raised (whole + 1) puts

-- it received all the bytes besides, or a prefix of them and its count of faults rose
abbrev pub Takes : Option (List ℕ) → Option (List ℕ) → ℕ → ℕ → List ℕ → Put → Type 0
Takes before now faults later bytes Ok = Received before now bytes
Takes before now faults later bytes Failed = ReceivedPrefix before now bytes × Rose faults later

-- the count of faults after this answer: one more where the put failed
abbrev pub faults_after : Put → ℕ → ℕ
faults_after Ok faults = faults
faults_after Failed faults = raised 1 faults
