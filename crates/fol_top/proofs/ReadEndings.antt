-- How the reading of one file ends that of several.
use Rattle.std.proofs.Common.{◌≡◌, ℕ, ◌+◌, ◌≤◌, refl, sym, subst, ap, ◌∙◌, List, ◌∷◌, ◌++◌, length, arith, append_assoc, Result, Ok, Err}
use Rattle.std.specs.Prelude.{Option, Some, None, IfErr}
use Rattle.std.specs.Result.{IsErrAnd}
use Rattle.std.specs.List.{AllByRecursion}
use Rattle.fol_io.specs.Counts.{raised}
use Rattle.fol_io.specs.Shelf.{IsTooLong}
use Rattle.fol_top.specs.Inputs.{Faults, Held, IsShort, ReadingEnds, size_limit}
use Rattle.fol_top.specs.Reading.{ReadEnds, ReadsEnd}
use Rattle.fol_top.specs.declared.ending.Ending.{Ending}
use Rattle.fol_top.specs.declared.ending.Ending.TheVariants as endings

-- what holds of an error holds of it where it is handed on
pub err_ends : {A : Type 0} (r : Result A Ending) (e : Ending) (P : Ending → Type 0) → IsErrAnd r (λ x. x ≡ e) → P e → IfErr r P
err_ends (Ok a) e P h p = absurd h
err_ends (Err x) e P h p = subst P (sym h) p

pub raised_again : (n count : ℕ) → raised 1 (raised n count) ≡ raised (n + 1) count
raised_again n count = omega arith

long_from_earlier : (held : Option (List ℕ)) (before then now : ℕ) → before ≤ then → IsTooLong held size_limit then now → IsTooLong held size_limit before now
long_from_earlier (Some bytes) before then now less h = h
long_from_earlier None before then now less h = omega arith

-- the counts may be taken earlier
pub ends_from_earlier : (held same : Option (List ℕ)) (faults faults_then faults_now taken taken_then taken_now : ℕ) (e : Ending) → same ≡ held → faults ≤ faults_then → taken ≤ taken_then
    → ReadEnds same faults_then faults_now taken_then taken_now e → ReadEnds held faults faults_now taken taken_now e
ends_from_earlier held same faults faults_then faults_now taken taken_then taken_now endings.ReadFault is f t h = omega arith
ends_from_earlier held same faults faults_then faults_now taken taken_then taken_now endings.TooLong is f t h = long_from_earlier held taken taken_then taken_now t (rw is at h)
ends_from_earlier held same faults faults_then faults_now taken taken_then taken_now endings.NoMemory is f t h = h
ends_from_earlier held same faults faults_then faults_now taken taken_then taken_now _ is f t h = absurd h

module _ (held : Held) (faults faults_later : Faults) (taken taken_later reads reads_later : ℕ) where
  -- the file behind some that were read within the limit
  pub file_ends : (before : List (List ℕ)) (name : List ℕ) (behind : List (List ℕ)) (e : Ending) → AllByRecursion (λ n. IsShort (held n)) before → reads_later ≡ raised (length before + 1) reads
      → ReadEnds (held name) (faults name) (faults_later name) taken taken_later e → ReadsEnd held faults faults_later taken taken_later reads reads_later (before ++ name ∷ behind) e
  file_ends before name behind endings.ReadFault short counted h = record { before = before; name = name; behind = behind; order = refl; short = short; ends = h; counted = counted }
  file_ends before name behind endings.TooLong short counted h = record { before = before; name = name; behind = behind; order = refl; short = short; ends = h; counted = counted }
  file_ends before name behind endings.NoMemory short counted h = h
  file_ends before name behind _ short counted h = absurd h

  more_behind : (names more : List (List ℕ)) (Ends : List ℕ → Type 0) → ReadingEnds held reads reads_later names Ends → ReadingEnds held reads reads_later (names ++ more) Ends
  more_behind names more Ends r = record {
    before = r.before;
    name = r.name;
    behind = r.behind ++ more;
    order = ap (λ (ns : List (List ℕ)). ns ++ more) r.order ∙ append_assoc r.before (r.name ∷ r.behind) more;
    short = r.short;
    ends = r.ends;
    counted = r.counted;
  }

  -- there may be more files behind
  pub more_end : (names more : List (List ℕ)) (e : Ending) → ReadsEnd held faults faults_later taken taken_later reads reads_later names e
      → ReadsEnd held faults faults_later taken taken_later reads reads_later (names ++ more) e
  more_end names more endings.ReadFault h = more_behind names more _ h
  more_end names more endings.TooLong h = more_behind names more _ h
  more_end names more endings.NoMemory h = h
  more_end names more _ h = absurd h
