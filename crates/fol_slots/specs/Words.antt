-- Words as the table stores them: 0 is Kept, 1 is Ready, and k + 1 is Ticking(k). Workers are numbered from 1.
use Rattle.std.specs.Prelude.{ℕ, zero, suc, ◌+◌}
use Rattle.fol_slots.specs.declared.word.Word.{Word}
use Rattle.fol_slots.specs.declared.word.Word.TheVariants.{Kept, Ready, Ticking}

abbrev pub code_of : Word → ℕ
code_of Kept = 0
code_of Ready = 1
code_of (Ticking k) = k + 1

abbrev pub word_of : ℕ → Word
word_of zero = Kept
word_of (suc zero) = Ready
word_of (suc (suc k)) = Ticking (suc k)
