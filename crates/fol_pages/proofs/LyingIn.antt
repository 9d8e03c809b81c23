-- In how many pages sections lie.
use Rattle.std.proofs.Common.{◌≡◌, ℕ, ◌≤◌, sym, ◌∙◌, arith, Bool, true, false, []}
use Rattle.std.proofs.lemmas.Bool.{true≢false}
use Rattle.fol_model.specs.declared.places.SectionPos.{SectionPos}
use Rattle.fol_pages.specs.Pages.{LieIn}

-- no section lies in no page
pub lie_in-none : (sections : SectionPos → Bool) (n : ℕ) → ((s : SectionPos) → sections s ≡ false) → LieIn sections n
lie_in-none sections n none = record {
  pages = [];
  few = omega arith;
  within = λ s h. absurd (true≢false (sym h ∙ none s));
}

-- some of the sections lie in no more pages
pub lie_in-some : (sections all : SectionPos → Bool) (n : ℕ) → ((s : SectionPos) → sections s ≡ true → all s ≡ true) → LieIn all n → LieIn sections n
lie_in-some sections all n some lie = record {
  pages = lie.pages;
  few = lie.few;
  within = λ s h. lie.within s (some s h);
}

pub lie_in-more : (sections : SectionPos → Bool) (n m : ℕ) → n ≤ m → LieIn sections n → LieIn sections m
lie_in-more sections n m h lie = record {
  pages = lie.pages;
  few = omega (arith, lie.few);
  within = lie.within;
}
