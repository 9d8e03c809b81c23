-- What stands at the front of some words or bytes, and what does not.
use Rattle.std.specs.Prelude.{◌≡◌, ℕ, ◌<◌, ◌^◌, ℤ, List, [], ◌∷◌, ◌++◌, length, flat_map, decimal}
use Rattle.std.specs.List.{AllByRecursion}
use Rattle.std.specs.Fmt.{signed_decimal}
use Rattle.fol_model.specs.LineWords.{Word}

-- no value of this kind, spelt so, stands at the front
abbrev pub NoneIn : {T X : Type 0} → (T → List X) → (T → Type 0) → List X → Type 0
NoneIn {T} {X} spelt Kind xs = (t : T) (more : List X) → Kind t → xs ≡ spelt t ++ more → ⊥

-- the words spell no value of this kind
abbrev pub NotSpelt : {T : Type 0} → (T → List Word) → (T → Type 0) → List Word → Type 0
NotSpelt {T} spelt Kind ws = (t : T) → Kind t → ws ≡ spelt t → ⊥

abbrev pub one_word : ℕ → List Word
one_word n = decimal n ∷ []

abbrev pub signed_word : ℤ → List Word
signed_word z = signed_decimal z ∷ []

-- no two numbers of 32 bits stand at the front
abbrev pub NoPair : List Word → Type 0
NoPair ws = (m n : ℕ) (more : List Word) → m < 2 ^ 32 → n < 2 ^ 32 → ws ≡ decimal m ∷ decimal n ∷ more → ⊥

-- a list with its length in front
abbrev pub counted : {T : Type 0} → (T → List Word) → List T → List Word
counted spelt ts = decimal (length ts) ∷ flat_map spelt ts

abbrev pub CountInRange : {T : Type 0} → (T → Type 0) → List T → Type 0
CountInRange Kind ts = (length ts < 2 ^ 64) × AllByRecursion Kind ts
