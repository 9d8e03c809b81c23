-- Whose entries a log has, as it grows. The lemmas on `Extends` serve callers of `give`.
use Rattle.std.proofs.Common.{◌≡◌, ◌≢◌, ℕ, ◌<◌, ◌≤◌, List, [], ◌∷◌, ◌++◌, sym, refl, ap, ◌∙◌, subst, eqb, eq-eqb, ne_eqb, cond, append-nil, append_assoc, Bool, drop, All, arith}
use Rattle.std.proofs.lemmas.List.Elements.{filter-append, All-nil, All-cons, All-head, All-tail, All-append, All-weaker}
use Rattle.fol_lock.specs.Log.{given_by, Extends}

append_cancel : {E : Type 0} (xs ys zs : List E) → xs ++ ys ≡ xs ++ zs → ys ≡ zs
append_cancel [] ys zs same = same
append_cancel (x ∷ xs) ys zs same = append_cancel xs ys zs (ap (drop 1) same)

module _ {E : Type 0} (by : E → ℕ) where
  pub given_by-append : (n : ℕ) (xs ys : List E) → given_by by n (xs ++ ys) ≡ given_by by n xs ++ given_by by n ys
  given_by-append n xs ys = filter-append (λ e. eqb (by e) n) xs ys

  pub given_by-own : (n : ℕ) (xs : List E) → All (λ e. by e ≡ n) xs → given_by by n xs ≡ xs
  given_by-own n [] own = refl
  given_by-own n (x ∷ xs) own =
      ap (λ (b : Bool). cond b (x ∷ given_by by n xs) (given_by by n xs)) (eq-eqb (by x) n (All-head (λ e. by e ≡ n) x xs own))
      ∙ ap (λ (l : List E). x ∷ l) (given_by-own n xs (All-tail (λ e. by e ≡ n) x xs own))

  pub given_by-none : (n : ℕ) (xs : List E) → All (λ e. by e ≢ n) xs → given_by by n xs ≡ []
  given_by-none n [] others = refl
  given_by-none n (x ∷ xs) others =
      ap (λ (b : Bool). cond b (x ∷ given_by by n xs) (given_by by n xs)) (ne_eqb (by x) n (All-head (λ e. by e ≢ n) x xs others))
      ∙ given_by-none n xs (All-tail (λ e. by e ≢ n) x xs others)

  -- entries of the seat n are none of the seat m's
  pub given_by-other : (n m : ℕ) (xs : List E) → m ≢ n → All (λ e. by e ≡ n) xs → given_by by m xs ≡ []
  given_by-other n m xs differ own = given_by-none m xs (All-weaker (λ e. by e ≡ n) (λ e. by e ≢ m) (λ e is_n is_m. differ (sym is_m ∙ is_n)) xs own)

  -- a number that was not dealt has no entry
  pub given_by-undealt : (n dealt : ℕ) (xs : List E) → dealt ≤ n → All (λ e. by e < dealt) xs → given_by by n xs ≡ []
  given_by-undealt n dealt xs high authors = given_by-none n xs (All-weaker (λ e. by e < dealt) (λ e. by e ≢ n) (λ e low is_n. omega arith) xs authors)

  pub Extends-none : (n : ℕ) (old new : List E) → new ≡ old → Extends by n old new
  Extends-none n old new same = record { added = []; goes_on = same ∙ sym (append-nil old); own = All-nil (λ e. by e ≡ n) }

  pub Extends-one : (n : ℕ) (old new : List E) (e : E) → new ≡ old ++ e ∷ [] → by e ≡ n → Extends by n old new
  Extends-one n old new e goes_on own = record { added = e ∷ []; goes_on = goes_on; own = All-cons (λ e. by e ≡ n) e [] own (All-nil (λ e. by e ≡ n)) }

  pub Extends-more : (n : ℕ) (old middle new : List E) → Extends by n old middle → Extends by n middle new → Extends by n old new
  Extends-more n old middle new first second = record {
    added = first.added ++ second.added;
    goes_on = second.goes_on ∙ (ap (λ (l : List E). l ++ second.added) first.goes_on ∙ append_assoc old first.added second.added);
    own = All-append (λ e. by e ≡ n) first.added second.added first.own second.own;
  }

  -- the entries by which the log grew come behind those that the seat had given
  pub given_by-grown : (n : ℕ) (old new mine added : List E) → given_by by n old ≡ mine → Extends by n old new → new ≡ old ++ added → given_by by n new ≡ mine ++ added
  given_by-grown n old new mine added known extends goes_on =
      let same : added ≡ extends.added = append_cancel old added extends.added (sym goes_on ∙ extends.goes_on) in
      let own : given_by by n added ≡ added = given_by-own n added (subst (λ (l : List E). All (λ e. by e ≡ n) l) (sym same) extends.own) in
      ap (given_by by n) goes_on ∙ (given_by-append n old added ∙ (ap (λ (l : List E). l ++ given_by by n added) known ∙ ap (λ (l : List E). mine ++ l) own))
