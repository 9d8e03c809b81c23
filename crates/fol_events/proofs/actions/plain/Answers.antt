use Rattle.std.proofs.Common.{sym}
use Rattle.std.proofs.lemmas.Result.{on_err_weaker}
use Rattle.fol_text_laws.proofs.OneSpelling.{key_is}
use Rattle.fol_events.proofs.Posting.{no_word, no_key}
use Rattle.fol_events.proofs.actions.plain.Goals as goal

pub returns-in-None-clause-none : goal.returns-in-None-clause-none
returns-in-None-clause-none c = no_word c.args.word.now c.args.words.now (sym c.in-None.ensures)

pub returns-in-Some-clause-found : goal.returns-in-Some-clause-found
returns-in-Some-clause-found c = rw (key_is c.args.word.now c.in-Some.key (sym c.in-Some.ensures)) c.plain_behind.ensures.found

pub returns-in-Some-clause-none : goal.returns-in-Some-clause-none
returns-in-Some-clause-none c = rw (key_is c.args.word.now c.in-Some.key (sym c.in-Some.ensures)) (on_err_weaker c.plain_behind.result (no_key c.in-Some.key c.args.words.now) c.plain_behind.ensures.none)
