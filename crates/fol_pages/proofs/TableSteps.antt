-- One page of the map that a table of pages keeps.
use Rattle.std.proofs.Common.{◌≡◌, ℕ, ◌∙◌, ap, refl, subst, sym, Bool, true, cond, List, [], ◌∷◌, inl, inr}
use Rattle.std.specs.Prelude.{ℤ, ◌&&◌, Some, None, slice_get}
use Rattle.std.specs.Cmp.{IsEquivalence, decided}
use Rattle.std.specs.Map.{values_of}
use Rattle.std.specs.Option.{option_map}
use Rattle.std.specs.List.{AllZip}
use Rattle.std.proofs.lemmas.Bool.{cases_Bool}
use Rattle.std.proofs.lemmas.Option.{slice_get-map}
use Rattle.std.specs.Ordering.{int_eq}
use Rattle.indexmap.specs.IndexMap.{IndexMap, get, with_value_at, IsUnique}
use Rattle.indexmap.proofs.CallerLemmas.{updates-with_value_at}
use Rattle.fol_pages.specs.Pages.{is_same, page_at}
use Rattle.fol_pages.specs.Table.{LiesAt}
use Rattle.fol_pages.proofs.PagePlaces.{same_place, same_self}

abbrev pub same_key : ℤ × ℤ → ℤ × ℤ → Bool
same_key a b = int_eq a.0 b.0 && int_eq a.1 b.1

pub key_same : (a b : ℤ × ℤ) → same_key a b ≡ true → a ≡ b
unfolding is_same
key_same a b h = let k = same_place a.0 a.1 b.0 b.1 h in λ i. (k.0 i, k.1 i)

key_self : (a : ℤ × ℤ) → same_key a a ≡ true
unfolding is_same
key_self a = same_self a.0 a.1

key_laws : IsEquivalence same_key
key_laws = decided same_key (λ a b. (key_same a b, λ e. let P : ℤ × ℤ → Type 0 = λ k. same_key a k ≡ true in subst P e (key_self a)))

module _ {P S : Type 0} (m : IndexMap (ℤ × ℤ) P S) where
  -- the entry at a place, whose key is the one that is wanted
  pub lies_there : (key found : ℤ × ℤ) (place : ℕ) (page : P) → found ≡ key → slice_get m.entries place ≡ Some (found, page) → get same_key m found ≡ Some page → LiesAt m.entries key.0 key.1 place
  unfolding page_at
  lies_there key found place page e there is = record {
    page = page;
    there = there ∙ ap (λ k. Some (k, page)) e;
    found = ap (get same_key m) (sym e) ∙ is;
  }

  -- the page at a place was written
  pub written_there : (x z : ℤ) (place : ℕ) → LiesAt m.entries x z place → IsUnique same_key m → (w : P) (a b : ℤ)
      → page_at (with_value_at m place w).entries a b ≡ cond (is_same x z a b) (Some w) (page_at m.entries a b)
  unfolding page_at is_same
  written_there x z place l unique w a b = (updates-with_value_at m place w key_laws unique (x, z) l.page l.there).0 (a, b)

module _ {P : Type 0} (entries : List ((ℤ × ℤ) × P)) (x z : ℤ) where
  -- the page at a place of the list
  pub page_there : (place : ℕ) → LiesAt entries x z place → slice_get (values_of entries) place ≡ page_at entries x z
  page_there place l = slice_get-map (λ (e : (ℤ × ℤ) × P). e.1) entries place ∙ ap (option_map (λ (e : (ℤ × ℤ) × P). e.1)) l.there ∙ sym l.found

  -- a page that is not there can't be taken
  pub none_there : page_at entries x z ≡ None → (a b : ℤ) → page_at entries a b ≡ cond (is_same x z a b) None (page_at entries a b)
  none_there h a b = elim (cases_Bool (is_same x z a b)) [
    | inr e ↦ rw e refl
    | inl e ↦ let k = same_place x z a b e in rw e ((λ i. page_at entries (sym k.0 i) (sym k.1 i)) ∙ h)
  ]

-- two lists stand in a weaker relation too
pub zip_weaker : {A B : Type 0} (R S : A → B → Type 0) → ((x : A) (y : B) → R x y → S x y) → (xs : List A) (ys : List B) → AllZip R xs ys → AllZip S xs ys
zip_weaker R S f [] [] h = tt
zip_weaker R S f [] (y ∷ ys) h = h
zip_weaker R S f (x ∷ xs) [] h = h
zip_weaker R S f (x ∷ xs) (y ∷ ys) h = (f x y h.0, zip_weaker R S f xs ys h.1)
