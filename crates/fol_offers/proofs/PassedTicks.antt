-- Quiet ticks, one after another.
use Rattle.std.proofs.Common.{◌≡◌, ℕ, zero, suc, ◌+◌, List, [], ◌∷◌, ◌++◌, length, sym, refl, ap, ◌∙◌, append_assoc, arith, length-append}
use Rattle.std.proofs.lemmas.List.{append-nil}
use Rattle.fol_model.specs.declared.events.Entry.{Entry}
use Rattle.fol_model.specs.declared.events.Event.TheVariants.{Begin, End}
use Rattle.fol_core.specs.Meaning.{Meaning, world_of}
use Rattle.fol_core.specs.Quiet.{Passes, quiet_tick, quiet_ticks}
use Rattle.fol_offers.specs.PassedTicks.{PassesMany, QuietTick, quiet_entries}

entries_none : (worker : ℕ) → quiet_entries worker [] ≡ []
unfolding quiet_entries
entries_none worker = refl

entries_both : (worker : ℕ) (xs ys : List QuietTick) → quiet_entries worker (xs ++ ys) ≡ quiet_entries worker xs ++ quiet_entries worker ys
unfolding quiet_entries
entries_both worker [] ys = refl
entries_both worker (x ∷ xs) ys =
    let begin : Entry = record { by = worker; event = Begin worker x.region } in
    let end : Entry = record { by = worker; event = End worker x.region x.counter [] [] } in
    ap (λ (es : List Entry). begin ∷ end ∷ es) (entries_both worker xs ys)

-- ---- ticks of one region

-- its counter was t before them
ticks_of : ℕ → ℕ → ℕ → List QuietTick
ticks_of r t zero = []
ticks_of r t (suc n) = ticks_of r t n ++ (record { region = r; counter = t + suc n }) ∷ []

entries_of : (worker r t n : ℕ) → quiet_ticks worker r t n ≡ quiet_entries worker (ticks_of r t n)
unfolding quiet_entries quiet_ticks ticks_of
entries_of worker r t zero = refl
entries_of worker r t (suc n) =
    let last : QuietTick = record { region = r; counter = t + suc n } in
    ap (λ (es : List Entry). es ++ quiet_tick worker r (t + suc n)) (entries_of worker r t n) ∙ sym (entries_both worker (ticks_of r t n) (last ∷ []))

count_of : (r t n : ℕ) → length (ticks_of r t n) ≡ n
unfolding ticks_of
count_of r t zero = refl
count_of r t (suc n) =
    let last : QuietTick = record { region = r; counter = t + suc n } in
    let more = length-append (ticks_of r t n) (last ∷ []) in
    let known = count_of r t n in
    omega (arith, more, known)

pub passes_many : (m n : Meaning) (worker r k : ℕ) → Passes m n worker r k → PassesMany m n worker k
passes_many m n worker r k p =
    let t : ℕ = (world_of m).tick r in
    record {
      ticks = ticks_of r t k;
      count = count_of r t k;
      opening = p.opening;
      history = p.history ∙ ap (λ (es : List Entry). m.history ++ es) (entries_of worker r t k);
      prepared = p.prepared;
    }

-- ---- none, and more behind some

pub passes_none : (m : Meaning) (worker : ℕ) → PassesMany m m worker 0
passes_none m worker = record {
  ticks = [];
  count = refl;
  opening = refl;
  history = sym (ap (λ (es : List Entry). m.history ++ es) (entries_none worker) ∙ append-nil m.history);
  prepared = refl;
}

pub passes_both : (a b c : Meaning) (worker i j : ℕ) → PassesMany a b worker i → PassesMany b c worker j → PassesMany a c worker (i + j)
passes_both a b c worker i j p q = record {
  ticks = p.ticks ++ q.ticks;
  count = (let both = length-append p.ticks q.ticks in let first = p.count in let second = q.count in omega (arith, both, first, second));
  opening = q.opening ∙ p.opening;
  history = q.history ∙ ap (λ (h : List Entry). h ++ quiet_entries worker q.ticks) p.history ∙ append_assoc a.history (quiet_entries worker p.ticks) (quiet_entries worker q.ticks)
      ∙ ap (λ (es : List Entry). a.history ++ es) (sym (entries_both worker p.ticks q.ticks));
  prepared = q.prepared ∙ p.prepared;
}
