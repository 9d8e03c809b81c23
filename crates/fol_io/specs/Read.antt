-- Facts for one answer of a read.
use Rattle.std.specs.Prelude.{ℕ, Bool, true, false, List, length}
use Rattle.fol_io.specs.declared.shelf.Read.{Read}
use Rattle.fol_io.specs.declared.shelf.Read.TheVariants.{Whole, Failed, TooLong, NoMemory}

-- the fact of the bytes, where they were read
abbrev pub IfWhole : Read → (List ℕ → Type 0) → Type 0
IfWhole (Whole bytes) P = P bytes
IfWhole Failed P = Unit {0}
IfWhole TooLong P = Unit {0}
IfWhole NoMemory P = Unit {0}

-- the fact, where the read met a fault
abbrev pub OnFailed : Read → Type 0 → Type 0
OnFailed (Whole bytes) P = Unit {0}
OnFailed Failed P = P
OnFailed TooLong P = Unit {0}
OnFailed NoMemory P = Unit {0}

-- the fact, where there are more bytes than the limit
abbrev pub OnTooLong : Read → Type 0 → Type 0
OnTooLong (Whole bytes) P = Unit {0}
OnTooLong Failed P = Unit {0}
OnTooLong TooLong P = P
OnTooLong NoMemory P = Unit {0}

-- it met a fault
abbrev pub is_failed : Read → Bool
is_failed (Whole bytes) = false
is_failed Failed = true
is_failed TooLong = false
is_failed NoMemory = false

-- how many bytes were read
abbrev pub byte_count : Read → ℕ
byte_count (Whole bytes) = length bytes
byte_count Failed = 0
byte_count TooLong = 0
byte_count NoMemory = 0
