-- What an end of a training tells was read last: this project's own.
use Rattle.std.specs.Prelude.{List, ⊤}
use Rattle.dpx_base.specs.declared.aux_port.Entry.{Entry}
use Rattle.dpx_phase.specs.LastStatus.{IsLastRead, IsLastReadWith}
use Rattle.dpx_link.specs.declared.train_end.TrainEnd.{TrainEnd}
use Rattle.dpx_link.specs.declared.train_end.TrainEnd.TheVariants.{Trained, NotTrained, CapsRefused, AuxEnded}

-- the status is the last one that was read, and the drive of a trained link the one in force then
abbrev pub TrainingIsRead : TrainEnd → List Entry → Type 0
TrainingIsRead (Trained link drive last requests) history = IsLastReadWith link.lanes drive last history
TrainingIsRead (NotTrained last requests) history = IsLastRead last history
TrainingIsRead (CapsRefused why requests) history = ⊤
TrainingIsRead (AuxEnded why requests) history = ⊤
