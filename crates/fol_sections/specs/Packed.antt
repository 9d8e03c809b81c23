-- What a page keeps of a section, in four bytes.
use Rattle.std.specs.Prelude.{◌≡◌, Bool, true, false, cond, nat_eq, Option, Some, None}
use Rattle.std.specs.Option.{unwrap_or}
use Rattle.std.proofs.Common.{refl, sym}
use Rattle.std.proofs.lemmas.Bool.{eqb-true}
use Rattle.fol_sections.specs.declared.packed.PackedCounts.TheInside.{Inside}
use Rattle.fol_sections.specs.declared.packed.TheConstants.{ABSENT}
use Rattle.fol_sections.specs.declared.pages.Counts.{Counts}

-- what stands for the numbers of a section that is not present
abbrev pub absent : Counts
absent = record { loaded = ABSENT; near = 0 }

-- the numbers, if the section is present
abbrev pub unpacked : Inside → Option Counts
unpacked s = cond (nat_eq s.loaded ABSENT) None (Some (record { loaded = s.loaded; near = s.near }))

-- there is one way to say that the section is not present
abbrev pub IsPacked : Inside → Type 0
IsPacked s = s.loaded ≡ ABSENT → s.near ≡ 0

abbrev pub packed : Option Counts → Inside
packed o = record { loaded = (unwrap_or o absent).loaded; near = (unwrap_or o absent).near }

packs_if : (s : Inside) → IsPacked s → (b : Bool) → nat_eq s.loaded ABSENT ≡ b → packed (cond b None (Some (record { loaded = s.loaded; near = s.near }))) ≡ s
packs_if s h true e = let l = eqb-true s.loaded ABSENT e in λ i. record { loaded = sym l i; near = sym (h l) i }
packs_if s h false e = refl

-- the numbers give back the four bytes
pub packs : (s : Inside) → IsPacked s → packed (unpacked s) ≡ s
packs s h = packs_if s h (nat_eq s.loaded ABSENT) refl
