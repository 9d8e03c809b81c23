use Rattle.std.proofs.Common.{◌≡◌, ◌<◌, ◌++◌, sym, ◌∙◌, ap, arith, length, get_or, length-append}
use Rattle.std.proofs.lemmas.List.{append-nil, at_drop_all, get_or_read}
use Rattle.fol_split.specs.Runs.{run_at, sections_at}
use Rattle.fol_split.proofs.RunLists.{place_at, solid_at, appends, fits}
use Rattle.fol_split.proofs.runs.Runs.append_each.Goals as goal

pub loop-k-init : goal.loop-k-init
loop-k-init c = record {
  found = ap (λ ks. c.args.found.now.items ++ sections_at c.args.self.now.runs ks) (c.deref-k-items.ensures.value ∙ ap (λ m. m.class) c.self.view_is);
  room = omega arith;
}

pub index-requires : goal.index-requires
index-requires c =
    let l : c.loop-k.k-index < length c.self.inside.class.items = omega (arith, ap length c.deref-k-items.ensures.value) in
    let gone = c.self.invariant.0.gone _ (place_at c.self.inside.class.items c.loop-k.k-index 0 l) in
    rw c.deref-k-items.ensures.value (omega (arith, gone.0))

pub append_run-requires-clause-solid : goal.append_run-requires-clause-solid
append_run-requires-clause-solid c =
    let l : c.loop-k.k-index < length c.self.inside.class.items = omega (arith, ap length c.deref-k-items.ensures.value) in
    let gone = c.self.invariant.0.gone _ (place_at c.self.inside.class.items c.loop-k.k-index 0 l) in
    let index = rw c.deref-k-items.ensures.value at c.index.ensures in
    solid_at c.self.inside.runs.items _ c.index.result.now c.self.invariant.0.sound gone.0 index

pub append_run-requires-clause-room : goal.append_run-requires-clause-room
append_run-requires-clause-room c =
    let runs = c.self.inside.runs.items in
    let ks = c.self.inside.class.items in
    let l : c.loop-k.k-index < length ks = omega (arith, ap length c.deref-k-items.ensures.value) in
    let gone = c.self.invariant.0.gone _ (place_at ks c.loop-k.k-index 0 l) in
    let index = rw c.deref-k-items.ensures.value at c.index.ensures in
    let here : c.index.result.now ≡ run_at runs (get_or ks c.loop-k.k-index 0) = get_or_read runs _ _ gone.0 index _ in
    let so_far = rw (← c.self.view_is, c.deref-k-items.ensures.value) at c.loop-k.invariant.found in
    let requires = rw (← c.self.view_is) at c.requires in
    let few = fits runs ks c.loop-k.k-index c.loop-k.found.items _ c.index.result.now l here so_far in
    omega (arith, few, length-append c.args.found.now.items (sections_at runs ks), requires, c.loop-k.invariant.room)

pub loop-k-preserved : goal.loop-k-preserved
loop-k-preserved c =
    let runs = c.self.inside.runs.items in
    let ks = c.self.inside.class.items in
    let l : c.loop-k.k-index < length ks = omega (arith, ap length c.deref-k-items.ensures.value) in
    let gone = c.self.invariant.0.gone _ (place_at ks c.loop-k.k-index 0 l) in
    let index = rw c.deref-k-items.ensures.value at c.index.ensures in
    let here : c.index.result.now ≡ run_at runs (get_or ks c.loop-k.k-index 0) = get_or_read runs _ _ gone.0 index _ in
    let so_far = rw (← c.self.view_is, c.deref-k-items.ensures.value) at c.loop-k.invariant.found in
    record {
      found = rw (← c.self.view_is, c.deref-k-items.ensures.value, c.append_run.ensures.found) (appends runs ks c.loop-k.k-index c.loop-k.found.items _ c.index.result.now l here so_far);
      room = omega (arith, c.append_run.ensures.room, c.loop-k.invariant.room);
    }

pub returns-clause-found : goal.returns-clause-found
returns-clause-found c =
    let end = at_drop_all (λ ks. c.loop-k.found.items ++ sections_at c.args.self.now.runs ks) c.deref-k-items.result.now c.loop-k.k-index (omega arith) in
    sym (append-nil c.loop-k.found.items) ∙ sym end ∙ c.loop-k.invariant.found
