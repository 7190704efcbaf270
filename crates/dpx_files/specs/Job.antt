-- The reading of a job: this project's own. The fields are tried in the order in which they stand here.
use Rattle.std.specs.Prelude.{ℕ, ◌≤◌, nat_lt, if◌then◌else◌, List, length, codes, Option, Some, None, Result, Ok, Err, IfSome}
use Rattle.serde_json.specs.Data.{Data}
use Rattle.serde_json.specs.Find.{get}
use Rattle.dpx_base.specs.declared.link.Link.{Link}
use Rattle.dpx_base.specs.declared.port_event.PortEvent.{PortEvent}
use Rattle.dpx_dpcd.specs.declared.plan.SinkPlan.{SinkPlan}
use Rattle.dpx_dpcd.specs.declared.plan.SinkPlan.TheVariants as plan
use Rattle.dpx_dpcd.specs.Model.{IsPlan}
use Rattle.dpx_files.specs.declared.job.Job.{Job}
use Rattle.dpx_files.specs.declared.job.Job.TheVariants as job
use Rattle.dpx_files.specs.declared.job.Need.{Need}
use Rattle.dpx_files.specs.declared.job.Need.TheVariants as need
use Rattle.dpx_files.specs.declared.refusal.Field.{Field}
use Rattle.dpx_files.specs.declared.refusal.Field.TheVariants as field
use Rattle.dpx_files.specs.declared.refusal.JobBad.{JobBad}
use Rattle.dpx_files.specs.declared.refusal.JobBad.TheVariants.{TooLong, NotJson}
use Rattle.dpx_files.specs.Refusal.{◌>>=◌, refused}
use Rattle.dpx_files.specs.Entries.{entries_of}
use Rattle.dpx_files.specs.Events.{events_of, most_events}
use Rattle.dpx_files.specs.Members.{json_of, member, object_in}
use Rattle.dpx_files.specs.LinkFields.{link_of}
use Rattle.dpx_files.specs.Script.{script_of}
use Rattle.dpx_files.specs.Model.{model_of}
use Rattle.dpx_files.specs.declared.shape.Shape.{Shape}
use Rattle.dpx_files.specs.Shape.{shape_of, IsShape}

-- how many bytes a job has at most
abbrev pub longest_job : ℕ
longest_job = 1048576

-- a script alone, or a model alone; a member that is null is there
abbrev pub plan_of : Option Data → Option Data → Result SinkPlan Field
plan_of (Some script) None = do
  answers ← script_of script
  Ok (plan.Script answers)
plan_of None (Some model) = model_of model
plan_of None None = Err field.Sink
plan_of (Some script) (Some model) = Err field.Sink

-- `sink`: an object with exactly one of `script` and `model`
unfoldable pub sink_of : Data → Result SinkPlan Field
sink_of root = do
  sink ← object_in field.Sink (get (codes "sink") root)
  plan_of (get (codes "script") sink) (get (codes "model") sink)

-- what a job says to `train`
unfoldable pub train_of : Data → Result Job Field
train_of value = do
  root ← object_in field.Root (Some value)
  link ← link_of root
  sink ← sink_of root
  Ok (job.Train link sink)

-- what it says to `send`
unfoldable pub send_of : Data → Result Job Field
send_of value = do
  root ← object_in field.Root (Some value)
  link ← link_of root
  shape ← shape_of root
  Ok (job.Send link shape)

-- what it says to `run`
unfoldable pub run_of : Data → Result Job Field
run_of value = do
  root ← object_in field.Root (Some value)
  link ← link_of root
  shape ← shape_of root
  sink ← sink_of root
  Ok (job.Run link shape sink)

-- what it says to `edid`
unfoldable pub edid_of : Data → Result Job Field
edid_of value = do
  root ← object_in field.Root (Some value)
  sink ← sink_of root
  Ok (job.Edid sink)

-- what it says to `watch`
unfoldable pub watch_of : Data → Result Job Field
watch_of value = do
  root ← object_in field.Root (Some value)
  link ← link_of root
  sink ← sink_of root
  list ← member field.Events root
  events ← events_of list
  Ok (job.Watch link sink events)

-- what it says to `judge`
unfoldable pub judge_of : Data → Result Job Field
judge_of value = do
  root ← object_in field.Root (Some value)
  link ← link_of root
  list ← member field.Entries root
  entries ← entries_of list
  Ok (job.Judge link entries)

-- what a job says, of that which is needed
abbrev pub job_of : Need → Data → Result Job Field
job_of need.Train value = train_of value
job_of need.Send value = send_of value
job_of need.Run value = run_of value
job_of need.Edid value = edid_of value
job_of need.Watch value = watch_of value
job_of need.Judge value = judge_of value

-- the link that a job asks for, where it asks for one
abbrev pub link_asked : Job → Option Link
link_asked (job.Train link sink) = Some link
link_asked (job.Send link shape) = Some link
link_asked (job.Run link shape sink) = Some link
link_asked (job.Edid sink) = None
link_asked (job.Watch link sink events) = Some link
link_asked (job.Judge link entries) = Some link

-- what its sink is to answer, where it has one
abbrev pub plan_asked : Job → Option SinkPlan
plan_asked (job.Train link sink) = Some sink
plan_asked (job.Send link shape) = None
plan_asked (job.Run link shape sink) = Some sink
plan_asked (job.Edid sink) = Some sink
plan_asked (job.Watch link sink events) = Some sink
plan_asked (job.Judge link entries) = None

-- what is to be sent, where anything is
abbrev pub shape_asked : Job → Option Shape
shape_asked (job.Train link sink) = None
shape_asked (job.Send link shape) = Some shape
shape_asked (job.Run link shape sink) = Some shape
shape_asked (job.Edid sink) = None
shape_asked (job.Watch link sink events) = None
shape_asked (job.Judge link entries) = None

-- the events that a supervisor is told, where there are any
abbrev pub events_asked : Job → Option (List PortEvent)
events_asked (job.Train link sink) = None
events_asked (job.Send link shape) = None
events_asked (job.Run link shape sink) = None
events_asked (job.Edid sink) = None
events_asked (job.Watch link sink events) = Some events
events_asked (job.Judge link entries) = None

-- what a job was read for
abbrev pub need_of : Job → Need
need_of (job.Train link sink) = need.Train
need_of (job.Send link shape) = need.Send
need_of (job.Run link shape sink) = need.Run
need_of (job.Edid sink) = need.Edid
need_of (job.Watch link sink events) = need.Watch
need_of (job.Judge link entries) = need.Judge

-- what every job that is read keeps to
pub record IsJob (asked : Job) : Type 0 where
  pub plan : IfSome (plan_asked asked) IsPlan
  pub shape : IfSome (shape_asked asked) IsShape
  pub events : IfSome (events_asked asked) (λ events. length events ≤ most_events)

-- what the value of a text says, if it is one
abbrev pub job_of_text : Need → Option Data → Result Job JobBad
job_of_text need None = Err NotJson
job_of_text need (Some value) = refused (job_of need value)

-- the job that the bytes are, or the first refusal
unfoldable pub reading : Need → List ℕ → Result Job JobBad
reading need bytes =
    if nat_lt longest_job (length bytes) then Err TooLong else job_of_text need (json_of bytes)
