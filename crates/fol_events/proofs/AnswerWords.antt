-- The words of an answer tell where it ends.
use Rattle.fol_model.specs.declared.events.Accept.TheVariants as accept
use Rattle.fol_model.specs.ReportWords.{ran_words, accept_words}
use Rattle.fol_events.specs.InRange.{RanInRange, AcceptInRange}
use Rattle.fol_events.proofs.Lists.{Cuts}

pub ran_cuts : Cuts ran_words RanInRange
ran_cuts x y l m h k e = cc

pub accept_cuts : Cuts accept_words AcceptInRange
accept_cuts (accept.Posted i) (accept.Posted j) l m h k e = cc
accept_cuts (accept.Posted i) (accept.Full p w) l m h k e = absurd cc
accept_cuts (accept.Full p w) (accept.Posted j) l m h k e = absurd cc
accept_cuts (accept.Full p w) (accept.Full q v) l m h k e = cc
