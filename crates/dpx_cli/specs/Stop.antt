-- Why a command stops before all was done: its status, and the last lines of its report. This project's own.
use Rattle.std.specs.Prelude.{ℕ, List, [], ◌++◌, codes}
use Rattle.dpx_base.specs.declared.pipe.BeginEnd.{BeginEnd}
use Rattle.dpx_base.specs.declared.pipe.BeginEnd.TheVariants as begin
use Rattle.dpx_files.specs.declared.refusal.JobBad.{JobBad}
use Rattle.dpx_files.specs.declared.refusal.JobBad.TheVariants as bad
use Rattle.dpx_files.specs.Refusal.{field_name}
use Rattle.dpx_source.specs.declared.sending.DriveEnd.{DriveEnd}
use Rattle.dpx_source.specs.declared.sending.DriveEnd.TheVariants as drive
use Rattle.dpx_cli.specs.declared.stop.CaptureBad.{CaptureBad}
use Rattle.dpx_cli.specs.declared.stop.CaptureBad.TheVariants.{Header, Word, Set, Long, Unfinished}
use Rattle.dpx_cli.specs.declared.stop.JobRefusal.{JobRefusal}
use Rattle.dpx_cli.specs.declared.stop.JobRefusal.TheVariants.{TooLong, NotJson, Wrong}
use Rattle.dpx_cli.specs.declared.stop.Stop.{Stop}
use Rattle.dpx_cli.specs.declared.stop.Stop.TheVariants as stop
use Rattle.dpx_cli.specs.EdidLines.{unfetched_line, bad_edid_line}
use Rattle.dpx_cli.specs.JudgeLines.{not_whole_line}
use Rattle.dpx_cli.specs.Lines.{line_feed, train_report}
use Rattle.dpx_cli.specs.RecvLines.{header_line, word_line, set_line, finish_line}
use Rattle.dpx_cli.specs.SendLines.{unfit_line, bad_pixel_line, pixels_ended_line}

abbrev pub usage_line : List ℕ
usage_line =
    codes "usage: dp_replay train JOB | send JOB PIXELS CAPTURE [one|lanes] | run JOB PIXELS CAPTURE [one|lanes] | recv CAPTURE PIXELS [one|lanes] | gen SEED [one|lanes] | edid JOB | watch JOB | judge JOB\n"

abbrev pub memory_line : List ℕ
memory_line = codes "memory\n"

abbrev pub read_fault_line : List ℕ
read_fault_line = codes "read fault\n"

abbrev pub write_fault_line : List ℕ
write_fault_line = codes "write fault\n"

abbrev pub pipe_fault_line : List ℕ
pipe_fault_line = codes "pipe fault\n"

-- a refusal as the reading of a job has it
abbrev pub bad_of : JobRefusal → JobBad
bad_of TooLong = bad.TooLong
bad_of NotJson = bad.NotJson
bad_of (Wrong field) = bad.Wrong field

-- what a job that is not read stops a command with
abbrev pub stop_of_job : JobBad → Stop
stop_of_job bad.TooLong = stop.Job TooLong
stop_of_job bad.NotJson = stop.Job NotJson
stop_of_job (bad.Wrong field) = stop.Job (Wrong field)
stop_of_job bad.Memory = stop.NoMemory

-- what a pipe that did not begin stops a command with, and what sending does
abbrev pub stop_of_begin : BeginEnd → Stop
stop_of_begin begin.Memory = stop.NoMemory
stop_of_begin begin.Failed = stop.PipeFault

abbrev pub stop_of_drive : DriveEnd → Stop
stop_of_drive (drive.BadPixel number value) = stop.BadPixel number value
stop_of_drive (drive.Ended number) = stop.PixelsEnded number
stop_of_drive drive.PipeFault = stop.PipeFault
stop_of_drive drive.WriteFault = stop.WriteFault

abbrev pub stop_status : Stop → ℕ
stop_status stop.Usage = 2
stop_status (stop.Job why) = 3
stop_status (stop.BadPixel number value) = 3
stop_status (stop.PixelsEnded number) = 3
stop_status (stop.Untrained end) = 4
stop_status (stop.Unfetched end) = 4
stop_status (stop.Unfit why) = 5
stop_status (stop.Capture why) = 6
stop_status stop.ReadFault = 7
stop_status stop.WriteFault = 8
stop_status stop.OutFault = 8
stop_status stop.PipeFault = 9
stop_status stop.NoMemory = 10
stop_status (stop.BadEdid why requests) = 13
stop_status (stop.NotWhole why) = 14

abbrev pub job_line : JobRefusal → List ℕ
job_line TooLong = codes "job too long\n"
job_line NotJson = codes "job not json\n"
job_line (Wrong field) = codes "job wrong " ++ field_name field ++ line_feed

abbrev pub capture_line : CaptureBad → List ℕ
capture_line (Header count) = header_line count
capture_line (Word bad) = word_line bad
capture_line (Set bad) = set_line bad
capture_line Long = codes "capture long\n"
capture_line (Unfinished end) = finish_line end

-- the lines that are printed behind what was printed before; where the report itself failed there are none
abbrev pub stop_lines : Stop → List ℕ
stop_lines stop.Usage = usage_line
stop_lines (stop.Job why) = job_line why
stop_lines (stop.Untrained end) = train_report end
stop_lines (stop.Unfit why) = unfit_line why
stop_lines (stop.Unfetched end) = unfetched_line end
stop_lines (stop.BadEdid why requests) = bad_edid_line why requests
stop_lines (stop.BadPixel number value) = bad_pixel_line number value
stop_lines (stop.PixelsEnded number) = pixels_ended_line number
stop_lines (stop.Capture why) = capture_line why
stop_lines (stop.NotWhole why) = not_whole_line why
stop_lines stop.ReadFault = read_fault_line
stop_lines stop.WriteFault = write_fault_line
stop_lines stop.PipeFault = pipe_fault_line
stop_lines stop.OutFault = []
stop_lines stop.NoMemory = memory_line
