use Rattle.fol_model.specs.declared.events.Event.TheVariants as events
use Rattle.fol_check.proofs.Places.{went_of}
use Rattle.fol_check.proofs.replay.Replay.step.Goals as goal

pub returns-in-PhaseClose : goal.returns-in-PhaseClose
returns-in-PhaseClose c = went_of c.args.self.now _ events.PhaseClose c.args.event c.close_phase.result c.in-PhaseClose.is c.requires.stands c.close_phase.ensures

pub returns-in-Finish : goal.returns-in-Finish
returns-in-Finish c = went_of c.args.self.now _ events.Finish c.args.event c.finish.result c.in-Finish.is c.requires.stands c.finish.ensures

pub returns-in-Begin : goal.returns-in-Begin
returns-in-Begin c = went_of c.args.self.now _ (events.Begin c.in-Begin.worker c.in-Begin.region) c.args.event c.begin.result c.in-Begin.is c.requires.stands c.begin.ensures

pub returns-in-Load : goal.returns-in-Load
returns-in-Load c = went_of c.args.self.now _ (events.Load c.in-Load.caller c.in-Load.chunk c.in-Load.answer) c.args.event c.load_by.result c.in-Load.is c.requires.stands c.load_by.ensures

pub returns-in-Unload : goal.returns-in-Unload
returns-in-Unload c = went_of c.args.self.now _ (events.Unload c.in-Unload.caller c.in-Unload.chunk c.in-Unload.answer) c.args.event c.unload_by.result c.in-Unload.is c.requires.stands c.unload_by.ensures

pub returns-in-Post : goal.returns-in-Post
returns-in-Post c = went_of c.args.self.now _ (events.Post c.in-Post.caller c.in-Post.chunk c.in-Post.delay c.in-Post.action c.in-Post.answer) c.args.event c.post_by.result c.in-Post.is c.requires.stands c.post_by.ensures

pub returns-in-End : goal.returns-in-End
returns-in-End c = went_of c.args.self.now _ (events.End c.in-End.worker c.in-End.region c.in-End.tick c.in-End.ran c.in-End.accepts) c.args.event c.end.result c.in-End.is c.requires.stands c.end.ensures

pub returns-in-PhaseOpen : goal.returns-in-PhaseOpen
returns-in-PhaseOpen c = went_of c.args.self.now _ (events.PhaseOpen c.in-PhaseOpen.ticks) c.args.event c.open_phase.result c.in-PhaseOpen.is c.requires.stands c.open_phase.ensures
