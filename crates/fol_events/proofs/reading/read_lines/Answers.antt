use Rattle.std.proofs.Common.{ap, arith, Err, length-append}
use Rattle.fol_model.specs.declared.events.Entry.{Entry}
use Rattle.fol_model.specs.LineWords.{line}
use Rattle.fol_model.specs.ReportWords.{entry_words}
use Rattle.fol_events.specs.declared.faults.Fault.{Fault}
use Rattle.fol_events.specs.InRange.{InRange}
use Rattle.fol_events.proofs.Lists.{all_more, so_far_more}
use Rattle.fol_events.proofs.reading.read_lines.Goals as goal

pub returns-in-Err-Unspelled : goal.returns-in-Err-Unspelled
returns-in-Err-Unspelled c =
    let so_far = c.loop-told.invariant in
    record {
      history = c.loop-told.entries.items;
      rest = c.loop-told.rest.now;
      in_range = so_far.in_range;
      more = omega (arith, so_far.count);
      place = omega (arith, so_far.count);
      text_is = so_far.text_is;
      none = c.in-Err-Unspelled.ensures.none (ap (λ (f : Fault). Err f) c.in-Err-Unspelled.field-0-is);
    }

pub loop-told-preserved : goal.loop-told-preserved
loop-told-preserved c =
    let so_far = c.loop-told.invariant in
    let found = c.in-Ok.ensures.found in
    let entry : Entry = record { by = 0; event = c.in-Ok.event } in
    rw (c.in_ok-push-in-Ok.ensures.items, c.in_ok-entry-in-Ok.ensures) (record {
      in_range = all_more (λ (e : Entry). InRange e.event) c.loop-told.entries.items entry so_far.in_range found.0;
      count = omega (arith, so_far.count, length-append {A = Entry});
      text_is = so_far_more (λ (e : Entry). line (entry_words e)) c.loop-told.entries.items entry c.args.text.now c.loop-told.rest.now c.in-Ok.after.now so_far.text_is found.1;
    })
