-- One more fault of a shelf in memory, as every name sees it.
use Rattle.std.proofs.Common.{◌≡◌, ℕ, ◌<◌, ◌≤◌, ◌^◌, ◌&&◌, false, not, if◌then◌else◌, List, Option, Some, None, IfSome, is_some, refl, sym, ap, ◌∙◌, slice_set, slice_index_or, inl, inr, arith}
use Rattle.std.specs.Option.{option_map}
use Rattle.std.specs.Str.{bytes_eq}
use Rattle.std.proofs.lemmas.Bool.{cases_Bool}
use Rattle.std.proofs.lemmas.Slice.Eq.{bytes_eq-Decides}
use Rattle.std.specs.List.{position}
use Rattle.std.proofs.lemmas.List.Folds.{find-set, find_past}
use Rattle.fol_io.proofs.FirstPlace.{IsFirstPlace-position, find-position}
use Rattle.fol_io.specs.Counts.{raised}
use Rattle.fol_io.specs.NamedBytes.{file_under, with_fault}
use Rattle.fol_io.specs.MemShelf.{MemShelfState, count_of, faults_under, held_under, shares_count}
use Rattle.fol_io.specs.declared.mem_shelf.NamedBytes.{NamedBytes}

-- a fault was counted for the name: in its file, or where it is not held in the count of all such names
pub record CountsFault (before after : MemShelfState) (name : List ℕ) : Type 0 where
  pub named : file_under after.files name ≡ option_map with_fault (file_under before.files name)
  pub others : (n : List ℕ) → bytes_eq name n ≡ false → file_under after.files n ≡ file_under before.files n
  pub unheld : after.unheld_faults ≡ (if is_some (file_under before.files name) then before.unheld_faults else raised 1 before.unheld_faults)

-- the file at the place of the name
pub file_under-place : (files : List NamedBytes) (name : List ℕ) (place : ℕ) (d : NamedBytes) → Some place ≡ position (λ file. bytes_eq file.name name) files → file_under files name ≡ Some (slice_index_or files place d)
file_under-place files name place d at = find-position (λ file. bytes_eq file.name name) files place d (sym at)

-- after one more fault of that file
pub file_under-set : (files : List NamedBytes) (name : List ℕ) (place : ℕ) (d : NamedBytes) → Some place ≡ position (λ file. bytes_eq file.name name) files → file_under (slice_set files place (with_fault (slice_index_or files place d))) name ≡ Some (with_fault (slice_index_or files place d))
file_under-set files name place d at =
    let found = IsFirstPlace-position (λ (file : NamedBytes). bytes_eq file.name name) files place d (sym at) in
    find-set (λ (file : NamedBytes). bytes_eq file.name name) files place (with_fault (slice_index_or files place d)) found.first found.within found.passes

-- the files of other names stay
pub file_under-set_other : (files : List NamedBytes) (name n : List ℕ) (place : ℕ) (d : NamedBytes) → Some place ≡ position (λ file. bytes_eq file.name name) files → bytes_eq name n ≡ false → file_under (slice_set files place (with_fault (slice_index_or files place d))) n ≡ file_under files n
file_under-set_other files name n place d at differs =
    let found = IsFirstPlace-position (λ (file : NamedBytes). bytes_eq file.name name) files place d (sym at) in
    let same = (bytes_eq-Decides (slice_index_or files place d).name name).0 found.passes in
    let fails : bytes_eq (slice_index_or files place d).name n ≡ false = ap (λ m. bytes_eq m n) same ∙ differs in
    find_past (λ (file : NamedBytes). bytes_eq file.name n) files place (with_fault (slice_index_or files place d)) d fails fails

-- the count of the name itself, which had this file
of_name : (before after : Option NamedBytes) (unheld later : ℕ) → after ≡ option_map with_fault before → later ≡ (if is_some before then unheld else raised 1 unheld) → count_of after later ≡ raised 1 (count_of before unheld)
of_name None after unheld later file count = rw file count
of_name (Some f) after unheld later file count = rw file refl

-- the count of another name, which has a file where the name itself has this one
of_other : (own file : Option NamedBytes) (unheld later : ℕ) → later ≡ (if is_some file then unheld else raised 1 unheld) → count_of own later ≡ (if not (is_some file) && not (is_some own) then raised 1 (count_of own unheld) else count_of own unheld)
of_other None None unheld later count = count
of_other None (Some f) unheld later count = count
of_other (Some o) None unheld later count = refl
of_other (Some o) (Some f) unheld later count = refl

-- exactly the names that share the count of the name have one fault more
pub faults_under-fault : (before after : MemShelfState) (name : List ℕ) → CountsFault before after name → (n : List ℕ) → faults_under after n ≡ (if shares_count before name n then raised 1 (faults_under before n) else faults_under before n)
faults_under-fault before after name fault n =
    elim (cases_Bool (bytes_eq name n)) [
      | inl same ↦ let e = (bytes_eq-Decides name n).0 same in rw (same, ← e) (of_name (file_under before.files name) (file_under after.files name) before.unheld_faults after.unheld_faults fault.named fault.unheld)
      | inr differs ↦ rw (differs, fault.others n differs) (of_other (file_under before.files n) (file_under before.files name) before.unheld_faults after.unheld_faults fault.unheld)
    ]

risen_name : (before after : Option NamedBytes) (unheld later : ℕ) → after ≡ option_map with_fault before → unheld ≤ later → IfSome before (λ file. file.faults < 2 ^ 64) → count_of before unheld ≤ count_of after later
risen_name None after unheld later file rises in_range = rw file rises
risen_name (Some f) after unheld later file rises in_range = rw file (omega (arith, in_range))

risen_other : (own : Option NamedBytes) (unheld later : ℕ) → unheld ≤ later → count_of own unheld ≤ count_of own later
risen_other None unheld later rises = rises
risen_other (Some o) unheld later rises = omega arith

-- no count falls, where the counts are numbers of 64 bits
pub faults_under-rises : (before after : MemShelfState) (name : List ℕ) → CountsFault before after name → before.unheld_faults ≤ after.unheld_faults → IfSome (file_under before.files name) (λ file. file.faults < 2 ^ 64) → (n : List ℕ) → faults_under before n ≤ faults_under after n
faults_under-rises before after name fault rises in_range n =
    elim (cases_Bool (bytes_eq name n)) [
      | inl same ↦ let e = (bytes_eq-Decides name n).0 same in rw (← e) (risen_name (file_under before.files name) (file_under after.files name) before.unheld_faults after.unheld_faults fault.named rises in_range)
      | inr differs ↦ rw (fault.others n differs) (risen_other (file_under before.files n) before.unheld_faults after.unheld_faults rises)
    ]

same_bytes : (before after : Option NamedBytes) → after ≡ option_map with_fault before → option_map (λ (file : NamedBytes). file.bytes) after ≡ option_map (λ (file : NamedBytes). file.bytes) before
same_bytes None after file = rw file refl
same_bytes (Some f) after file = rw file refl

-- the bytes held under each name stay
pub held_under-fault : (before after : MemShelfState) (name : List ℕ) → CountsFault before after name → (n : List ℕ) → held_under after n ≡ held_under before n
held_under-fault before after name fault n =
    elim (cases_Bool (bytes_eq name n)) [
      | inl same ↦ let e = (bytes_eq-Decides name n).0 same in rw (← e) (same_bytes (file_under before.files name) (file_under after.files name) fault.named)
      | inr differs ↦ rw (fault.others n differs) refl
    ]
