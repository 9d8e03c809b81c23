-- What the reader of a line tells.
use Rattle.std.specs.Prelude.{◌≡◌, ℕ, ◌+◌, nat_lt, cond, ◌||◌, Bool, true, false, not, ◌&&◌, ◌==◌, if◌then◌else◌, List, [], ◌∷◌, Some, None}
use Rattle.fol_model.specs.declared.words.TextKind.{TextKind}
use Rattle.fol_model.specs.declared.words.Cell.{Cell}
use Rattle.fol_script.specs.declared.judge.Judged.{Judged}
use Rattle.fol_script.specs.declared.judge.Judged.TheVariants.{Bad, Words}
use Rattle.fol_model.specs.declared.words.Keyword.{Keyword}
use Rattle.fol_model.specs.declared.causes.Cause.{Cause}
use Rattle.fol_model.specs.declared.causes.Cause.TheVariants as causes
use Rattle.fol_script.specs.declared.cells.Marks.{Marks}
use Rattle.fol_model.specs.TextCauses.{is_post, is_every, row_of, spelling_cause, form_cause}

-- no space where the next is the first of a word, and one word at least
abbrev pub is_tidy : Bool → List ℕ → Bool
is_tidy fresh [] = not fresh
is_tidy fresh (b ∷ bs) = if b == 32 then not fresh && is_tidy true bs else is_tidy false bs

abbrev pub faults : Keyword → Marks → List (Bool × Cause)
faults key m = (m.unfilled, causes.Count) ∷ (nat_lt 8 (cond (is_post (Some key) || is_every (Some key)) 1 0 + m.nested), causes.Nest) ∷ (m.no_number, causes.Number) ∷ (m.outside, causes.Range) ∷ []

abbrev pub Judges : TextKind → List ℕ → List Cell → Judged → Type 0
Judges kind l cs (Bad c) = spelling_cause kind l ≡ Some c
Judges kind l cs (Words key fault) = (spelling_cause kind l ≡ None) × (key ≡ (row_of kind l).key) × (fault ≡ form_cause kind l) × (cs ≡ (row_of kind l).cells)

-- no fault was found
abbrev pub IsFaultless : Judged → Type 0
IsFaultless (Bad c) = ⊥
IsFaultless (Words key None) = Unit {0}
IsFaultless (Words key (Some c)) = ⊥
