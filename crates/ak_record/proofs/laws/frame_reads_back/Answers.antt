use Rattle.ak_record.proofs.Frames.{frame_is, content_record}
use Rattle.ak_record.proofs.laws.frame_reads_back.Goals as goal

pub returns-clause-frame : goal.returns-clause-frame
returns-clause-frame c frame body rest below short begins = frame_is frame body rest short begins below

pub returns-clause-is_record : goal.returns-clause-is_record
returns-clause-is_record c = content_record
