-- The fields of a pipe over a source of records: what contracts see of them, and how it keeps its place.
use Rattle.std.specs.Prelude.{◌≡◌, ◌≤◌, ◌^◌, ◌*◌, false, IfSome, option_map}
use Rattle.dpx_base.specs.Beam.{pixels_before}
use Rattle.dp_replay.specs.declared.file_pipe.FilePipe.TheInside.{Inside}
use Rattle.dp_replay.specs.FilePipe.{PipeFacts}
use Rattle.dp_replay.specs.Records.{left_of}

abbrev pub facts_of : {S : Type 0} → Inside S → PipeFacts
facts_of p = record {
  begun = option_map (λ beam. beam.shown) p.beam;
  clocks = p.clocks;
  clock = p.clock;
  refused = p.refused;
  left = left_of p.records;
  faults = p.records.source.faults;
}

-- while it goes on, its beam is at its clock, and it has given the pixels before that
pub record IsInPipe {S : Type 0} (p : Inside S) : Type 0 where
  pub at : p.refused ≡ false → IfSome p.beam (λ beam. beam.clock ≡ p.clock)
  pub given : p.refused ≡ false → IfSome p.beam (λ beam. p.given ≡ pixels_before beam.shown beam.clock)
  pub few : p.given ≤ 2 * p.clock
  pub within : p.clock ≤ p.clocks
  pub short : p.clocks ≤ 2 ^ 62
