-- The words of the command line: this project's own.
use Rattle.std.specs.Prelude.{ℕ, ◌≡◌, if◌then◌else◌, List, [], ◌∷◌, codes, map, ⊤}
use Rattle.std.specs.Prelude.{Option, Some, None, option_map, Result, MatchResult, String, string_bytes}
use Rattle.std.specs.List.{list_any}
use Rattle.std.specs.Str.{bytes_eq}
use Rattle.std.specs.declared.alloc.Global.{Global}
use Rattle.dpx_base.specs.declared.workers.Workers.{Workers}
use Rattle.dpx_base.specs.declared.workers.Workers.TheVariants.{One, Lanes}
use Rattle.dpx_words.specs.Dashes.{has_dash}
use Rattle.dpx_words.specs.Seed.{seed_named}
use Rattle.dpx_words.specs.declared.command.Command.{Command}
use Rattle.dpx_words.specs.declared.command.Command.TheVariants.{Train, Send, Run, Recv, Gen, Edid, Watch, Judge}
use Rattle.dpx_words.specs.declared.command.WordsEnd.{WordsEnd}
use Rattle.dpx_words.specs.declared.command.WordsEnd.TheVariants.{Usage, Memory}
use Rattle.dpx_words.specs.declared.verbs.Sending.{Sending}

abbrev pub workers_named : List ℕ → Option Workers
workers_named word =
    if bytes_eq word (codes "one") then Some One
    else if bytes_eq word (codes "lanes") then Some Lanes
    else None

-- one more word may say who works; without it each lane has a worker
abbrev pub workers_of : List (List ℕ) → Option Workers
workers_of [] = Some Lanes
workers_of (word ∷ []) = workers_named word
workers_of _ = None

-- the one word that there is
abbrev pub only_of : List (List ℕ) → Option (List ℕ)
only_of (word ∷ []) = Some word
only_of _ = None

-- the words behind the first one of each command
abbrev pub train_of : List (List ℕ) → Option Command
train_of rest = option_map (λ job. Train job) (only_of rest)

abbrev pub edid_of : List (List ℕ) → Option Command
edid_of rest = option_map (λ job. Edid job) (only_of rest)

abbrev pub watch_of : List (List ℕ) → Option Command
watch_of rest = option_map (λ job. Watch job) (only_of rest)

abbrev pub judge_of : List (List ℕ) → Option Command
judge_of rest = option_map (λ job. Judge job) (only_of rest)

abbrev pub sending_of : List (List ℕ) → Option Sending
sending_of (job ∷ pixels ∷ capture ∷ rest) =
    option_map (λ workers. record { job = job; pixels = pixels; capture = capture; workers = workers }) (workers_of rest)
sending_of _ = None

abbrev pub send_of : List (List ℕ) → Option Command
send_of rest = option_map (λ words. Send words.job words.pixels words.capture words.workers) (sending_of rest)

abbrev pub run_of : List (List ℕ) → Option Command
run_of rest = option_map (λ words. Run words.job words.pixels words.capture words.workers) (sending_of rest)

abbrev pub recv_of : List (List ℕ) → Option Command
recv_of (capture ∷ pixels ∷ rest) = option_map (λ workers. Recv capture pixels workers) (workers_of rest)
recv_of _ = None

abbrev pub gen_with : Option ℕ → Option Workers → Option Command
gen_with (Some seed) (Some workers) = Some (Gen seed workers)
gen_with _ _ = None

abbrev pub gen_of : List (List ℕ) → Option Command
gen_of (seed ∷ rest) = gen_with (seed_named seed) (workers_of rest)
gen_of _ = None

-- the command of words of which none begins with a dash
abbrev pub command_of : List (List ℕ) → Option Command
command_of [] = None
command_of (verb ∷ rest) =
    if bytes_eq verb (codes "train") then train_of rest
    else if bytes_eq verb (codes "send") then send_of rest
    else if bytes_eq verb (codes "run") then run_of rest
    else if bytes_eq verb (codes "recv") then recv_of rest
    else if bytes_eq verb (codes "gen") then gen_of rest
    else if bytes_eq verb (codes "edid") then edid_of rest
    else if bytes_eq verb (codes "watch") then watch_of rest
    else if bytes_eq verb (codes "judge") then judge_of rest
    else None

-- the command that the words ask for, if they have a reading
unfoldable pub command_in : List (String Global) → Option Command
command_in words = if list_any has_dash (map string_bytes words) then None else command_of (map string_bytes words)

-- words are refused where they have no reading, or where there is no memory
abbrev pub WordsRefused : {T : Type 0} → Option T → WordsEnd → Type 0
WordsRefused read Usage = read ≡ None
WordsRefused read Memory = ⊤

-- the words are read as they are, unless there is no memory for it
abbrev pub WordsRead : {T : Type 0} → Option T → Result T WordsEnd → Type 0
WordsRead read result = MatchResult result (λ command. read ≡ Some command) (λ end. WordsRefused read end)
